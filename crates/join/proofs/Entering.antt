-- What the functions that lead to the joined file ask of each other, and what the entry point answers where a check fails.
-- Assumes nothing.
use Rattle.std.specs.Prelude.{Err, Ok, Option, Result, Some}
use Rattle.forms.specs.declared.write.Form.{Form}
use Prim.Native.Nat.{ℕ, ◌≤◌}
use mathlib.Core.List.{List}
use mathlib.Core.Logic.{inl, inr}
use mathlib.Core.Path.{◌≡◌, refl}
use lib.ListN.{length, take}
use Rattle.std.specs.Str.{bytes_eq}
use Rattle.std.proofs.lemmas.Slice.Eq.{bytes_eq-Decides}
use Rattle.trees.specs.Alphabets.{Alphabets, inputs, outputs}
use Rattle.trees.specs.Refusal.{Decides, Outcome, Checks, done, check, Holds, IsJudged, Judged}
use Rattle.trees.specs.declared.refusal.Refusal.{Refusal}
use Rattle.trees.proofs.Judging.{pass, accepted_holds}
use Rattle.formats.specs.Answers.{ReadsFile}
use Rattle.formats.specs.Inner.Layout.{body_count, Starts}
use Rattle.formats.specs.Sheet.{longest, sheet_check}
use Rattle.transducer.proofs.Opening.{Opened, opened_machine, not_opened}
use Rattle.discovery.specs.Inner.Discovering.{Discovers}
use Rattle.forms.specs.Inner.Writing.{FoundWritable, WritesFound}
use Rattle.join.specs.Answers.{join_check}
use Rattle.join.specs.Inner.Pairs.{product, Tables}
use Rattle.join.specs.Inner.Parts.{StockJoined, Joinable, JoinsParts, JoinsFile, JoinsSheets}
use Rattle.join.proofs.Forming.{tables_of_lem, joins_parts, stock_lent, file_writable, file_joined}

-- ---- the parts of two transducers, with the starts of their bodies, as many as there are by the ranks that were read
module _ {stock stock' counts bytes counts' bytes' ins ins' : List ℕ} {n m : ℕ} (J : Joinable stock stock' n counts bytes m counts' bytes') (i : ins ≡ inputs stock) (i' : ins' ≡ inputs stock') (starts starts' : List ℕ)
    (S : Starts counts starts (body_count ins n)) (S' : Starts counts' starts' (body_count ins' m)) (long : length starts ≡ 2050) (long' : length starts' ≡ 2050) where
  pub tables_read : Tables stock stock' starts bytes starts' bytes'
  tables_read = tables_of_lem J starts starts' (rw i at S) (rw i' at S') long long'

  pub parts_joined : {starts'' out : List ℕ} {r : Option ℕ} → Discovers (inputs stock) (outputs stock') (product stock stock' starts bytes starts' bytes') starts'' out r → JoinsParts stock stock' n counts bytes m counts' bytes' starts'' out r
  parts_joined = joins_parts J starts starts' (rw i at S) (rw i' at S') long long'

-- ---- the file of what was found, under the alphabets that were written
module _ {stock stock' counts bytes counts' bytes' starts out area : List ℕ} {n m size k : ℕ} {found : Option ℕ} (J : Joinable stock stock' n counts bytes m counts' bytes') (S : StockJoined stock stock' area size)
    (P : JoinsParts stock stock' n counts bytes m counts' bytes' starts out found) (e : found ≡ Some k) where
  -- it can be written
  pub found_writes : {before : List ℕ} → longest ≤ length before → FoundWritable (take size area) (Some k) starts out before
  found_writes room = file_writable P J e (stock_lent S) room

  -- and was
  pub found_joined : {before after : List ℕ} {r : Result Form Refusal} → WritesFound (take size area) (Some k) starts out before after r → JoinsFile stock stock' n counts bytes m counts' bytes' before after r
  found_joined W = file_joined P J e (stock_lent S) W

-- ---- two files
-- a check that holds asks nothing
passed : {A Kept : Type 0} {Good : A → Type 0} {k : ℕ} {P : Type 0} {rest : Checks} {r : Outcome A} → P → Judged Kept Good (check k P rest) r → Judged Kept Good rest r
unfolding IsJudged
passed {A} {Kept} {Good} {k} {P} {rest} {r} p j = record { verdict = go j.verdict }
  where
    go : IsJudged Kept Good (check k P rest) r → IsJudged Kept Good rest r
    go (inl (f, q, kept)) = absurd (f p)
    go (inr (p', v)) = v

-- two files that were opened can be joined
pub both_opened : {stock stock' s s' ins ins' counts bytes counts' bytes' : List ℕ} {n m : ℕ} → Opened stock s n ins counts bytes → Opened stock' s' m ins' counts' bytes' → outputs stock ≡ inputs stock' → Joinable stock stock' n counts bytes m counts' bytes'
both_opened O O' f = record { first = opened_machine O; second = opened_machine O'; fits = f }

-- the first file was refused, or the second after the first was read
pub first_refused : (stock stock' s s' before : List ℕ) {x : Refusal} {r : Result ℕ Refusal} → Alphabets stock → ReadsFile stock s r → r ≡ Err x → JoinsSheets stock stock' s s' before before (Err x)
first_refused stock stock' s s' before A J e = passed A (not_opened stock s (sheet_check stock' s' (join_check stock stock' s s' done)) refl J e)

pub second_refused : (stock stock' s s' before : List ℕ) {n : ℕ} {x : Refusal} {q r : Result ℕ Refusal} → ReadsFile stock s q → q ≡ Ok n → Alphabets stock' → ReadsFile stock' s' r → r ≡ Err x → JoinsSheets stock stock' s s' before before (Err x)
unfolding Holds
second_refused stock stock' s s' before J e A' J' e' = let w = (accepted_holds (rw e at J)).0 in pass w.1.0 (pass w.1.1.0 (passed A' (not_opened stock' s' (join_check stock stock' s s' done) refl J' e')))

-- two lists of ranks are the same exactly if those that were read are
pub same_ranks : {outs ins outs' ins' : List ℕ} → outs ≡ outs' → ins ≡ ins' → Decides (outs' ≡ ins') (bytes_eq outs ins)
same_ranks {outs} {ins} o i =
    let D = bytes_eq-Decides outs ins in
    let e : Decides (outs ≡ ins) (bytes_eq outs ins) = record { sound = D.0; complete = D.1 } in
    rw (← o, ← i) e
