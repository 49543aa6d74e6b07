-- Laws of reading marks, at a position of a body.
-- Assumes nothing.
use Prim.Native.Nat.{ℕ, suc, ◌+◌, ◌*◌, ◌≤◌, ◌<◌}
use native.Mathlib.Omega.{arith}
use mathlib.Core.Bool.{Bool}
use mathlib.Core.Logic.{◌⊎◌, ⊎_elim}
use mathlib.Core.Path.{◌≡◌, sym, ap₂, ◌∙◌}
use mathlib.Core.List.{List, ◌∷◌}
use lib.ListN.{length, get_or, take}
use lib.Seq.{length-take-le}
use borrow.Author.Count.{below_more}
use borrow.Author.Tests.{lt-ltb, le-ltb, le-leb, lt-leb}
use Rattle.trees.specs.Inner.Decode.{call, symbol, unknown, Whole}
use Rattle.trees.specs.Inner.Symbols.{symbol_of}
use Rattle.formats.specs.Inner.Layout.{mark_of, pairs, body, body_number, body_count, InBounds, Short}
use Rattle.formats.specs.Inner.Marked.{part}
use Rattle.trees.specs.Refusal.{Decides}
use Rattle.formats.proofs.Pairs.{pairs_length, part_cons}

-- ---- the letter of a mark
module _ (outs : List ℕ) (n r : ℕ) where
  letter_far : (i x : ℕ) → 0 < i → r < i → mark_of outs n r (i, x) ≡ unknown
  unfolding mark_of
  letter_far ℕ.zero x h g = absurd (omega arith)
  letter_far (suc i) x h g = simp (lt-leb (suc i) r g)

  letter_no_state : (i x : ℕ) → 0 < i → i ≤ r → n ≤ x → mark_of outs n r (i, x) ≡ unknown
  unfolding mark_of
  letter_no_state ℕ.zero x h l g = absurd (omega arith)
  letter_no_state (suc i) x h l g = simp (le-leb (suc i) r l, le-ltb x n g)

  -- a call that cannot be made
  pub letter_no_call : (i x : ℕ) → 0 < i → (r < i) ⊎ ((i ≤ r) × (n ≤ x)) → mark_of outs n r (i, x) ≡ unknown
  letter_no_call i x h o = ⊎_elim (λ g. letter_far i x h g) (λ g. letter_no_state i x h g.0 g.1) o

  pub letter_call : (i x : ℕ) → 0 < i → i ≤ r → x < n → mark_of outs n r (i, x) ≡ call (i, x)
  unfolding mark_of
  letter_call ℕ.zero x h l g = absurd (omega arith)
  letter_call (suc i) x h l g = simp (le-leb (suc i) r l, lt-ltb x n g)

  pub letter_no_symbol : (i x : ℕ) → i ≡ 0 → length outs ≤ x → mark_of outs n r (i, x) ≡ unknown
  unfolding mark_of symbol_of
  letter_no_symbol i x z g = rw z (simp (le-ltb x (length outs) g))

  pub letter_symbol : (i x : ℕ) → i ≡ 0 → x < length outs → mark_of outs n r (i, x) ≡ symbol x (get_or outs x 0)
  unfolding mark_of symbol_of
  letter_symbol i x z g = rw z (simp (lt-ltb x (length outs) g))

-- ---- at a mark of a body
-- the marks up to number `to` are so many
pub marks_length : (bytes : List ℕ) (to : ℕ) → 2 * to ≤ length bytes → length (take to (pairs bytes)) ≡ to
marks_length bytes to inside = length-take-le to (pairs bytes) (pairs_length bytes to inside)

-- mark number `at`, and those behind it
pub next_mark : (bytes : List ℕ) (at to i x : ℕ) → at < to → 2 * to ≤ length bytes → i ≡ get_or bytes (2 * at) 0 → x ≡ get_or bytes (2 * at + 1) 0 → part bytes at to ≡ (i, x) ∷ part bytes (at + 1) to
next_mark bytes at to i x less inside e f = part_cons bytes at to less inside ∙ ap₂ (λ a b. (a, b) ∷ part bytes (at + 1) to) (sym e) (sym f)

-- ---- one body after the other
abbrev pub BodyOk : List ℕ → List ℕ → ℕ → (ℕ → ℕ) → List ℕ → ℕ → ℕ → Type 0
BodyOk ins outs n start bytes q a = Whole (mark_of outs n (get_or ins a 0)) (body start bytes (body_number ins q a))

-- what was decided of a part, said of a body
pub to_body : (outs : List ℕ) (n : ℕ) (start : ℕ → ℕ) (bytes : List ℕ) (j : ℕ) {r r' from to : ℕ} {b : Bool} → r ≡ r' → from ≡ start j → to ≡ start (j + 1) → Decides (Whole (mark_of outs n r) (part bytes from to)) b → Decides (Whole (mark_of outs n r') (body start bytes j)) b
unfolding body
to_body outs n start bytes j {b = b} e f g D = rw (← e, ← f, ← g) D

-- the states below q are done, and state q up to the symbol a
pub next_body : (ins outs : List ℕ) (n : ℕ) (start : ℕ → ℕ) (bytes : List ℕ) (q a : ℕ) → ((b : ℕ) → b < a → BodyOk ins outs n start bytes q b) → BodyOk ins outs n start bytes q a → (b : ℕ) → b < a + 1 → BodyOk ins outs n start bytes q b
next_body ins outs n start bytes q a old new = below_more (BodyOk ins outs n start bytes q) a old new

pub next_state : (ins outs : List ℕ) (n : ℕ) (start : ℕ → ℕ) (bytes : List ℕ) (q a : ℕ) → length ins ≤ a → ((p b : ℕ) → p < q → b < length ins → BodyOk ins outs n start bytes p b) → ((b : ℕ) → b < a → BodyOk ins outs n start bytes q b) → (p b : ℕ) → p < q + 1 → b < length ins → BodyOk ins outs n start bytes p b
next_state ins outs n start bytes q a h old new p b l m = below_more (λ p. BodyOk ins outs n start bytes p b) q (λ k g. old k b g m) (new b (omega arith)) p l

pub bounds_part : {ins starts bytes : List ℕ} {n j from to : ℕ} → InBounds ins n starts bytes → Short ins n starts → j < body_count ins n → from ≡ get_or starts j 0 → to ≡ get_or starts (j + 1) 0 → (from ≤ to) × (to ≤ from + 64) × (2 * to ≤ length bytes)
bounds_part {j = j} L S h f g = (rw (f, g) (L.ordered j h), rw (f, g) (S j h), rw g (L.inside (j + 1) (omega arith)))
