-- The depths of marks: the table of what is owed as a list, how depths are noted one by one, and body by body.
-- Assumes nothing.
use Prim.Native.Nat.{ℕ, suc, ◌+◌, ◌-◌, ◌*◌, ◌≤◌, ◌<◌}
use native.Mathlib.Numerals.{add-one}
use native.Mathlib.Omega.{arith}
use mathlib.Core.Path.{◌≡◌, refl, sym, ap, ap₂, ◌∙◌}
use mathlib.Core.List.{List, [], ◌∷◌, ◌++◌}
use borrow.Author.Count.{below_more}
use lib.ListN.{length, get_or, set, take, drop, length-append}
use lib.Seq.{sets, sets-eq, slice, slice_empty, length-slice, length-take-le, take_at, drop_at, take-set-le, get_or-set_same, get_or-set_other}
use Rattle.trees.specs.Code.{Mark}
use Rattle.formats.specs.Inner.Layout.{pairs}
use Rattle.formats.proofs.Pairs.{pairs_length, part_cons}
use Rattle.transducer.specs.Inner.Depth.{children_of, closed, opened, depths_of, stack, DepthsAt, BodiesIn}

-- ---- how many terms stand under a mark
pub under_symbol : (ranks : List ℕ) (i x : ℕ) → i ≡ 0 → get_or ranks x 0 ≡ children_of ranks (i, x)
unfolding children_of
under_symbol ranks ℕ.zero x h = refl
under_symbol ranks (suc i) x h = absurd (omega arith)

pub under_call : (ranks : List ℕ) (i x : ℕ) → 0 < i → 0 ≡ children_of ranks (i, x)
unfolding children_of
under_call ranks ℕ.zero x h = absurd (omega arith)
under_call ranks (suc i) x h = refl

-- ---- the table of what is owed
stack_length : (table : List ℕ) (n : ℕ) → length (stack table n) ≡ n
unfolding stack
stack_length table ℕ.zero = refl
stack_length table (suc n) = ap suc (stack_length table n)

-- what is set behind the first n entries changes none of them
stack_kept : (table : List ℕ) (n i a : ℕ) → n ≤ i → stack (set table i a) n ≡ stack table n
unfolding stack
stack_kept table ℕ.zero i a h = refl
stack_kept table (suc n) i a h = ap₂ ◌∷◌ (get_or-set_other table i n a 0 (λ e. omega arith)) (stack_kept table n i a (omega arith))

-- one entry more
pub stack_more : (table : List ℕ) (n a : ℕ) → n < length table → stack (set table n a) (n + 1) ≡ a ∷ stack table n
unfolding stack
stack_more table n a h = rw add-one (ap₂ ◌∷◌ (get_or-set_same table n a 0 h) (stack_kept table n n a (omega arith)))

-- the last entry and those before it
stack_top : (table : List ℕ) (k : ℕ) → 0 < k → stack table k ≡ get_or table (k - 1) 0 ∷ stack table (k - 1)
unfolding stack
stack_top table ℕ.zero h = absurd (omega arith)
stack_top table (suc k) h = let e : suc k - 1 ≡ k = omega arith in rw e

last_term : (n : ℕ) (owed : List ℕ) → n ≤ 1 → closed (n ∷ owed) ≡ closed owed
unfolding closed
last_term ℕ.zero owed h = refl
last_term (suc ℕ.zero) owed h = refl
last_term (suc (suc n)) owed h = absurd (omega arith)

more_terms : (n : ℕ) (owed : List ℕ) → 1 < n → closed (n ∷ owed) ≡ (n - 1) ∷ owed
unfolding closed
more_terms ℕ.zero owed h = absurd (omega arith)
more_terms (suc ℕ.zero) owed h = absurd (omega arith)
more_terms (suc (suc n)) owed h = let e : suc (suc n) - 1 ≡ suc n = omega arith in rw e

-- the term was the last under the lowest symbol
pub closes : (table : List ℕ) (k : ℕ) → 0 < k → get_or table (k - 1) 0 ≤ 1 → closed (stack table k) ≡ closed (stack table (k - 1))
closes table k h g = ap closed (stack_top table k h) ∙ last_term (get_or table (k - 1) 0) (stack table (k - 1)) g

-- more terms stand under it
pub stays_open : (table : List ℕ) (k : ℕ) → 0 < k → k ≤ length table → 1 < get_or table (k - 1) 0 → stack (set table (k - 1) (get_or table (k - 1) 0 - 1)) k ≡ closed (stack table k)
stays_open table k h l g =
    let x = get_or table (k - 1) 0 in
    let e : k - 1 + 1 ≡ k = omega arith in
    ap (stack (set table (k - 1) (x - 1))) (sym e)
    ∙ stack_more table (k - 1) (x - 1) (omega arith)
    ∙ sym (ap closed (stack_top table k h) ∙ more_terms x (stack table (k - 1)) g)

-- nothing is owed
pub closed_none : (table : List ℕ) (k : ℕ) → k ≡ 0 → stack table 0 ≡ closed (stack table k)
unfolding stack closed
closed_none table k e = rw e

-- ---- the depths of some marks
-- a mark with nothing under it, and one with a term under it
pub opened_none : (owed : List ℕ) {left : List ℕ} {n : ℕ} → n ≡ 0 → left ≡ closed owed → left ≡ opened n owed
unfolding opened
opened_none owed e f = rw e f

pub opened_some : {owed left : List ℕ} (n : ℕ) → 0 < n → left ≡ n ∷ owed → left ≡ opened n owed
unfolding opened
opened_some ℕ.zero h f = absurd (omega arith)
opened_some (suc n) h f = f

depths_cons : (outs owed : List ℕ) (m : Mark) (ms : List Mark) → depths_of outs owed (m ∷ ms) ≡ length owed ∷ depths_of outs (opened (children_of outs m) owed) ms
unfolding depths_of
depths_cons outs owed m ms = refl

depths_length : (outs owed : List ℕ) (ms : List Mark) → length (depths_of outs owed ms) ≡ length ms
unfolding depths_of
depths_length outs owed [] = refl
depths_length outs owed (m ∷ ms) = ap suc (depths_length outs (opened (children_of outs m) owed) ms)

-- the depth of mark j, and those of the marks behind it
pub next_depth : (outs bytes owed owed' : List ℕ) (d d' j to : ℕ) {n : ℕ} → j < to → 2 * to ≤ length bytes → n ≡ children_of outs (get_or bytes (2 * j) 0, get_or bytes (2 * j + 1) 0) → stack owed' d' ≡ opened n (stack owed d) → depths_of outs (stack owed d) (slice j to (pairs bytes)) ≡ d ∷ depths_of outs (stack owed' d') (slice (j + 1) to (pairs bytes))
next_depth outs bytes owed owed' d d' j to {n} h g e f =
    let m : Mark = (get_or bytes (2 * j) 0, get_or bytes (2 * j + 1) 0) in
    let ms = slice (j + 1) to (pairs bytes) in
    ap (depths_of outs (stack owed d)) (part_cons bytes j to h g)
    ∙ depths_cons outs (stack owed d) m ms
    ∙ ap₂ ◌∷◌ (stack_length owed d) (ap (λ l. depths_of outs l ms) (sym (f ∙ ap (λ k. opened k (stack owed d)) e)))

-- no marks are left
pub no_depths : (outs owed : List ℕ) (ms : List Mark) (j to : ℕ) → j ≡ to → depths_of outs owed (slice j to ms) ≡ []
unfolding depths_of
no_depths outs owed ms j to e = ap (λ k. depths_of outs owed (slice k to ms)) e ∙ ap (depths_of outs owed) (slice_empty to ms)

-- ---- body by body
take_before : (v l : List ℕ) (t i : ℕ) → t ≤ i → take t (sets l i v) ≡ take t l
take_before [] l t i h = refl
take_before (x ∷ v) l t i h = take_before v (set l i x) t (suc i) (omega arith) ∙ take-set-le t l i x h

-- what was written is the slice there
slice_written : (w l : List ℕ) (f t : ℕ) → t ≡ f + length w → t ≤ length l → slice f t (sets l f w) ≡ w
slice_written w l f t e h =
    let a : length (take f l) ≡ f = length-take-le f l (omega arith) in
    let b : length (take f l ++ w) ≡ t = length-append (take f l) w ∙ omega arith in
    ap (λ m. slice f t m) (sets-eq w l f (omega arith))
    ∙ ap (drop f) (take_at (take f l ++ w) (drop (f + length w) l) t b)
    ∙ drop_at (take f l) w f a

-- several bodies stand where a table of starts says
module _ {outs starts bytes : List ℕ} {m : ℕ} (B : BodiesIn outs starts m bytes) where
  -- none starts before an earlier one
  starts_up : (j k : ℕ) → j + k ≤ m → get_or starts j 0 ≤ get_or starts (j + k) 0
  starts_up j ℕ.zero h = let e : j + 0 ≡ j = omega arith in rw e (omega arith)
  starts_up j (suc k) h = let e : j + suc k ≡ j + k + 1 = omega arith in rw e (omega (arith, starts_up j k (omega arith), B.ordered (j + k) (omega arith)))

  -- where body b ends
  pub body_inside : (b : ℕ) → b < m → (get_or starts (b + 1) 0 ≤ 8192) × (2 * get_or starts (b + 1) 0 ≤ length bytes)
  body_inside b h = (omega (arith, B.inside (b + 1) (omega arith), B.few_marks), B.inside (b + 1) (omega arith))

  -- the depths of the bodies before body b are noted: now those of b too
  pub body_more : (depths depths' : List ℕ) (b : ℕ) → b < m → length depths ≡ 8192 → ((j : ℕ) → j < b → DepthsAt outs starts bytes depths j) → depths' ≡ sets depths (get_or starts b 0) (depths_of outs [] (slice (get_or starts b 0) (get_or starts (b + 1) 0) (pairs bytes))) → (j : ℕ) → j < b + 1 → DepthsAt outs starts bytes depths' j
  body_more depths depths' b h l D e = below_more (DepthsAt outs starts bytes depths') b before here
    where
      f : ℕ
      f = get_or starts b 0

      t : ℕ
      t = get_or starts (b + 1) 0

      w : List ℕ
      w = depths_of outs [] (slice f t (pairs bytes))

      before : (j : ℕ) → j < b → DepthsAt outs starts bytes depths' j
      before j g =
          let k : j + 1 + (b - (j + 1)) ≡ b = omega arith in
          let u : get_or starts (j + 1) 0 ≤ f = rw k at (starts_up (j + 1) (b - (j + 1)) (omega arith)) in
          ap (λ v. slice (get_or starts j 0) (get_or starts (j + 1) 0) v) e ∙ ap (drop (get_or starts j 0)) (take_before w depths (get_or starts (j + 1) 0) f u) ∙ D j g

      here : DepthsAt outs starts bytes depths' b
      here =
          let n : length w ≡ t - f = depths_length outs [] (slice f t (pairs bytes)) ∙ length-slice f t (pairs bytes) (pairs_length bytes t (body_inside b h).1) in
          ap (λ v. slice f t v) e ∙ slice_written w depths f t (omega (arith, n, B.ordered b h)) (omega (arith, body_inside b h))
