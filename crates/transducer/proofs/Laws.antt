-- What the promise of translation comes to. Read this file first: it cites the promise and nothing of the code.
-- Assumes nothing.
use Rattle.std.specs.Prelude.{Err, Ok, Result}
use Rattle.trees.specs.declared.refusal.Refusal.{Refusal}
use Rattle.trees.specs.Refusal.{outcome_of, accepted, refused, done, Holds}
use Prim.Native.Nat.{ℕ, ◌≤◌, ◌<◌}
use native.Mathlib.Omega.{arith}
use mathlib.Core.List.{List}
use mathlib.Core.Path.{◌≡◌, ap, ◌∙◌}
use lib.ListN.{length}
use lib.Seq.{sets}
use Rattle.theory.specs.Size.{size, levels}
use Rattle.theory.specs.Term.{Tree}
use Rattle.theory.proofs.Terms.{conflict}
use Rattle.trees.specs.Alphabets.{Alphabets, alphabet_check}
use Rattle.trees.specs.Code.{code}
use Rattle.formats.specs.Sheet.{sheet_check}
use Rattle.trees.specs.Tree.{tree_check}
use Rattle.trees.specs.declared.refusal.Refusal.TheVariants.{LongOutput, DeepOutput}
use Rattle.trees.proofs.Judging.{must_accept, must_refuse, number_unique}
use Rattle.formats.proofs.Sheets.{sheet_counted}
use Rattle.transducer.specs.Answers.{room_check, levels_check, Translates}
use Rattle.transducer.specs.Output.{Output}
use Rattle.transducer.proofs.Outputs.{output_unique, to_parts}

-- ---- the files
-- the output of a file on a file is one tree
pub file_output_unique : {stock sheet design : List ℕ} {t t' : Tree} → Output stock sheet design t → Output stock sheet design t' → t ≡ t'
file_output_unique O O' = let S = O.is_sheet in output_unique (to_parts S O) (to_parts S O')

-- where there is an output, every file is right
pub files_hold : {stock sheet design : List ℕ} {t : Tree} → Alphabets stock → Output stock sheet design t → Holds (alphabet_check stock (sheet_check stock sheet (tree_check stock design done)))
unfolding Holds
files_hold A O = (A, (sheet_counted O.is_sheet, ((O.states, (O.machine, O.is_sheet)), ((O.input, O.is_tree), tt))))

-- ---- translating
module _ {stock sheet design : List ℕ} {t : Tree} (A : Alphabets stock) (O : Output stock sheet design t) where
  module _ (before after : List ℕ) where
    -- an output of at most 256 levels for which there is room is written, with its size for the answer
    pub must_translate : (r : Result ℕ Refusal) → size t ≤ length before → levels t ≤ 256 → Translates stock sheet design before after r → (r ≡ Ok (size t)) × (after ≡ sets before 0 (code t))
    unfolding Holds
    must_translate r h l J =
        let w = files_hold A O in
        go r (must_accept (w.0, (w.1.0, (w.1.1.0, (w.1.1.1.0, ((t, (O, h)), ((t, (O, l)), tt)))))) J)
      where
        go : (r : Result ℕ Refusal) → (k : ℕ) × ((outcome_of r ≡ accepted k) × ((u : Tree) × (Output stock sheet design u × (k ≡ size u) × (after ≡ sets before 0 (code u))))) → (r ≡ Ok (size t)) × (after ≡ sets before 0 (code t))
        go (Ok m) (k, (e, (u, (P, z, a)))) =
            let x : m ≡ k = cc in
            let q = file_output_unique P O in
            (ap Ok (x ∙ z ∙ ap size q), a ∙ ap (λ u. sets before 0 (code u)) q)
        go (Err x) (k, (e, w)) = conflict (cc)

    -- an output for which there is none is refused by 6, and nothing is written
    pub must_refuse_long : (r : Result ℕ Refusal) → length before < size t → Translates stock sheet design before after r → (r ≡ Err LongOutput) × (after ≡ before)
    must_refuse_long r h J =
        let w = must_refuse (alphabet_check stock (sheet_check stock sheet (tree_check stock design done))) (levels_check stock sheet design done) (files_hold A O) no_room J in
        (go r w.0, w.1)
      where
        no_room : ((u : Tree) × (Output stock sheet design u × (size u ≤ length before))) → ⊥
        no_room (u, (P, l)) = omega (arith, ap size (file_output_unique P O))

        go : (r : Result ℕ Refusal) → outcome_of r ≡ refused 6 → r ≡ Err LongOutput
        go (Ok m) e = conflict (cc)
        go (Err x) e = ap Err (number_unique x LongOutput (cc))

    -- an output for which there is room, of more than 256 levels, is refused by 10, and nothing is written
    pub must_refuse_deep : (r : Result ℕ Refusal) → size t ≤ length before → 256 < levels t → Translates stock sheet design before after r → (r ≡ Err DeepOutput) × (after ≡ before)
    unfolding Holds
    must_refuse_deep r h d J =
        let w = files_hold A O in
        let v = must_refuse (alphabet_check stock (sheet_check stock sheet (tree_check stock design (room_check stock sheet design before done)))) done (w.0, (w.1.0, (w.1.1.0, (w.1.1.1.0, ((t, (O, h)), tt))))) too_deep J in
        (go r v.0, v.1)
      where
        too_deep : ((u : Tree) × (Output stock sheet design u × (levels u ≤ 256))) → ⊥
        too_deep (u, (P, l)) = omega (arith, ap levels (file_output_unique P O))

        go : (r : Result ℕ Refusal) → outcome_of r ≡ refused 10 → r ≡ Err DeepOutput
        go (Ok m) e = conflict (cc)
        go (Err x) e = ap Err (number_unique x DeepOutput (cc))
