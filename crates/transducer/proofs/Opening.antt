-- A transducer's file that was accepted, with the parts that were handed out.
-- Assumes nothing.
use Rattle.std.specs.Prelude.{Err, Ok, Result}
use Prim.Native.Nat.{ℕ, ◌+◌, ◌-◌, ◌*◌, ◌≤◌, ◌<◌}
use native.Mathlib.Omega.{arith}
use mathlib.Core.List.{List}
use mathlib.Core.Path.{◌≡◌, ap₂, ◌∙◌}
use lib.ListN.{length, get_or, take, drop}
use Rattle.theory.specs.Transducer.{Transducer}
use Rattle.trees.specs.Alphabets.{Alphabets, inputs, outputs, alphabet_check}
use Rattle.formats.specs.Answers.{ReadsFile, HandsCounts, HandsMarks}
use Rattle.formats.specs.Inner.Layout.{offset, body_count, Right}
use Rattle.trees.specs.Refusal.{refusal_number, refused, Checks, done, Holds, Judged}
use Rattle.formats.specs.Sheet.{file, Sheet, Encodes, sheet_check}
use Rattle.trees.specs.declared.refusal.Refusal.{Refusal}
use Rattle.formats.proofs.Counts.{few_bodies}
use Rattle.trees.proofs.Judging.{accepted_holds, refused_early}
use Rattle.formats.proofs.Laws.{sheet_counts, sheet_marks}
use Rattle.formats.proofs.Sheets.{counted_right, encodes_counted}
use Rattle.formats.proofs.Verdicts.{counts_handed, marks_handed}
use Rattle.transducer.specs.Inner.Machine.{Machine}

-- s is the file of a transducer with n states, whose counts and marks these are; ins are the ranks of the input symbols
pub record Opened (stock s : List ℕ) (n : ℕ) (ins counts bytes : List ℕ) : Type 0 where
  pub holds : Holds (alphabet_check stock (sheet_check stock s done))
  pub alphabets : Alphabets stock
  pub ins_are : ins ≡ inputs stock
  pub machine : Transducer ℕ
  pub coded : file n counts bytes ≡ s
  pub encodes : Encodes ins (outputs stock) n counts bytes machine

pub opened : {stock s : List ℕ} {n : ℕ} {ins counts bytes : List ℕ} {r : Result ℕ Refusal} → ReadsFile stock s r → r ≡ Ok n → HandsCounts stock s counts → HandsMarks stock s bytes → ins ≡ inputs stock → Opened stock s n ins counts bytes
unfolding Holds
opened {stock} {s} {n} {counts = counts} {bytes} J e C B i =
    let w = accepted_holds (rw e at J) in
    let A = w.0.0 in
    let S = w.1.1 in
    let c : counts ≡ S.counts = sheet_counts stock s A n w.1.0 S counts C in
    let b : bytes ≡ S.bytes = sheet_marks stock s A n w.1.0 S bytes B in
    record { holds = w.0; alphabets = A; ins_are = i; machine = w.1.0; coded = ap₂ (file n) c b ∙ S.coded; encodes = rw (i, c, b) S.encodes }

-- the same with the parts lent from the file, whose counts end at `from`
pub opened_at : (stock s : List ℕ) (n : ℕ) {r : Result ℕ Refusal} → ReadsFile stock s r → r ≡ Ok n → (from : ℕ) → from ≡ 1 + 2 * body_count (inputs stock) n → {ins : List ℕ} → ins ≡ inputs stock → Opened stock s n ins (take (from - 1) (drop 1 s)) (take (length s - from) (drop from s))
opened_at stock s n J e from f i = opened J e (counts_handed stock s n J e from f) (marks_handed stock s n J e from f) i

module _ {stock s : List ℕ} {n : ℕ} {ins counts bytes : List ℕ} (O : Opened stock s n ins counts bytes) where
  -- the file with just these parts
  abbrev pub opened_sheet : Sheet (inputs stock) (outputs stock) s n O.machine
  opened_sheet = record { counts = counts; bytes = bytes; coded = O.coded; encodes = rw O.ins_are at O.encodes }

  pub opened_machine : Machine stock n counts bytes
  opened_machine = record { alphabets = O.alphabets; machine = O.machine; encodes = rw O.ins_are at O.encodes }

  pub opened_right : Right ins n counts bytes
  opened_right = counted_right ins n counts bytes (rw O.ins_are O.alphabets.ins.few) (encodes_counted ins (outputs stock) n counts bytes O.machine O.encodes)

  -- the input symbols have at most 4 places
  pub opened_low : (a : ℕ) → a < length ins → get_or ins a 0 ≤ 4
  opened_low = rw O.ins_are O.alphabets.ins.low

  -- what it takes to find the starts of the bodies
  pub starts_fit : (2 * body_count ins n ≤ length counts) × (body_count ins n < 2050) × (offset counts (body_count ins n) < 65536)
  starts_fit = let R = opened_right in (omega (arith, R.long), few_bodies R, omega (arith, R.sums.few))

-- a file that was refused: so is all that is asked of it, whatever would have been asked behind
pub not_opened : {B Kept : Type 0} {Good : B → Type 0} (stock s : List ℕ) (rest : Checks) {x : Refusal} {r : Result ℕ Refusal} → Kept → ReadsFile stock s r → r ≡ Err x → Judged {A = B} Kept Good (alphabet_check stock (sheet_check stock s rest)) (refused (refusal_number x))
not_opened stock s rest kept J e = refused_early (alphabet_check stock (sheet_check stock s done)) rest kept (rw e at J)
