-- Demand 3 of the user, whole, of whatever keeps the promises of the entry points: each field is a part of its text.
use Rattle.std.specs.Prelude.{Option, Some, None, Result, ℕ, ◌≤◌, ◌↔◌, ◌≡◌, length, take}
use Rattle.trees.specs.declared.refusal.Refusal.{Refusal}
use Rattle.forms.specs.declared.write.Form.{Form}
use Rattle.witness.specs.declared.witness.Shown.{Shown}
use Rattle.trees.specs.Refusal.{outcome_of, accepted, done, Holds}
use mathlib.Core.List.{List, Memᴰ}
use Rattle.std.proofs.Math.Option.{Option as MathOption, some}
use Rattle.trees.specs.Alphabets.{alphabet_check}
use Rattle.formats.specs.Sheet.{longest, sheet_check}
use Rattle.earliest.specs.Answers.{form_check}
use Rattle.canonical.specs.Answers.{SewAlike, Cleans}
use Rattle.witness.specs.Difference.{tree_area, address_area}
use Rattle.comparison.specs.Answers.{Differ, Compares}
use Rattle.registry.specs.Calls.{Book}
use Rattle.registry.specs.Questions.{Call, Calls, enters_file}

-- a sheet is accepted for cleaning under a stock (01): none of 2, 4, 5 and 7 holds of the two
abbrev pub Accepted : List ℕ → List ℕ → Type 0
Accepted stock s = Holds (alphabet_check stock (sheet_check stock s (form_check stock s done)))

-- cleaning answered an acceptance, and x stands at the start of the area that it left
pub record Wrote (r : Result Form Refusal) (after x : List ℕ) : Type 0 where
  pub values : Form
  pub answer : outcome_of r ≡ accepted values
  pub bytes : take values.bytes after ≡ x

-- cleaning wrote the same bytes for both exactly if they sew alike
pub record SameExactly (stock s s' after after' : List ℕ) (r r' : Result Form Refusal) : Type 0 where
  pub clean : List ℕ
  pub clean' : List ℕ
  pub wrote : Wrote r after clean
  pub wrote' : Wrote r' after' clean'
  pub exact : (clean ≡ clean') ↔ SewAlike stock s s'

-- comparison answered alike exactly if they sew alike, and otherwise shows a tree of at most 1,536 nodes and an address at which the two output trees have different symbols
pub record AlikeExactly (stock s s' tree tree' address address' : List ℕ) (r : Result (Option Shown) Refusal) : Type 0 where
  pub verdict : Option Shown
  pub answer : outcome_of r ≡ accepted verdict
  pub exact : (verdict ≡ None) ↔ SewAlike stock s s'
  pub shown : (v : Shown) → verdict ≡ Some v → Differ stock s s' tree tree' address address' v.nodes v.numbers v.left v.right

-- what the demand says of two cleanings and a comparison of two sheets under one stock, with areas long enough
abbrev pub Judges : List ℕ → List ℕ → List ℕ → (List ℕ × List ℕ) → (List ℕ × List ℕ) → (List ℕ × List ℕ) → (List ℕ × List ℕ) → Result Form Refusal → Result Form Refusal → Result (Option Shown) Refusal → Type 0
Judges stock s s' area area' tree address r r' verdict =
    Accepted stock s → Accepted stock s' → longest ≤ length area.0 → longest ≤ length area'.0 → tree_area ≤ length tree.0 → address_area ≤ length address.0
    → SameExactly stock s s' area.1 area'.1 r r' × AlikeExactly stock s s' tree.0 tree.1 address.0 address.1 verdict

-- the clean sheet x of s is accepted again, sews as s on every design, and cleans to itself
pub record Again (stock s x : List ℕ) : Type 0 where
  pub accepted_again : Accepted stock x
  pub alike : SewAlike stock s x
  pub cleans_to_itself : {before after : List ℕ} (r : Result Form Refusal) → longest ≤ length before → Cleans stock x before after r → Wrote r after x

pub record Demand3 : Type 0 where
  -- Take any stock and any two sheets accepted for cleaning under it. With areas long enough, cleaning writes the same bytes for both exactly when they sew alike,
  pub cleaning : {stock s s' before after before' after' : List ℕ} (r r' : Result Form Refusal) → Accepted stock s → Accepted stock s' → longest ≤ length before → longest ≤ length before' → Cleans stock s before after r → Cleans stock s' before' after' r' → SameExactly stock s s' after after' r r'
  -- and comparison answers alike exactly then; otherwise it shows a design and a place where the two plans hold different blocks.
  pub comparing : {stock s s' tree tree' address address' : List ℕ} (r : Result (Option Shown) Refusal) → Accepted stock s → Accepted stock s' → tree_area ≤ length tree → address_area ≤ length address → Compares stock s s' tree tree' address address' r → AlikeExactly stock s s' tree tree' address address' r
  -- Each clean sheet is accepted again, gives its sheet's plan on every design, and cleans to itself.
  pub again : {stock s before after x : List ℕ} (r : Result Form Refusal) → Cleans stock s before after r → Wrote r after x → Again stock s x
  -- And take any list of entries into a book just made for that stock, refused ones included (02, F-6: the list may now hold commits and questions too): any two accepted entries or commits in it get one number exactly when their sheets sew alike.
  pub calls : {stock : List ℕ} {log : List (Call × MathOption ℕ)} {b : Book} → Calls stock log b → (c c' : Call) (s s' : List ℕ) (n n' : ℕ) → enters_file c ≡ some s → enters_file c' ≡ some s' → Memᴰ (c, some n) log → Memᴰ (c', some n') log → SewAlike stock s s' ↔ (n ≡ n')
