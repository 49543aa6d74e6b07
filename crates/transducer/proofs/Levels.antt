-- The levels of what a right-hand side writes, found by the depths of its marks.
-- Assumes nothing.
use Prim.Native.Nat.{ℕ, suc, ◌+◌, ◌≤◌, ◌<◌, max}
use native.Mathlib.Omega.{arith}
use mathlib.Core.Path.{◌≡◌, refl, sym, ap, ap₂, ◌∙◌}
use mathlib.Core.List.{List, [], ◌∷◌, ◌++◌, append_assoc, append-nil}
use lib.ListN.{length, get_or}
use Rattle.theory.specs.Levels.{levels_with, levels_from, deepest_from}
use Rattle.theory.specs.Term.{Term, var, node, Terms, none, more, count}
use Rattle.theory.proofs.Levels.{levels_from_lem}
use Rattle.trees.specs.Code.{Mark, Ranked, AllRanked, Call, preorder, preorders, marks}
use Rattle.trees.specs.Inner.Decode.{forest, first, Whole}
use Rattle.formats.specs.Inner.Layout.{mark_of}
use Rattle.transducer.specs.Inner.Depth.{children_of, closed, opened, depths_of}
use Rattle.transducer.specs.Inner.Written.{lowest, Callable}
use Rattle.trees.proofs.Codes.{exactly, reads_back}
use Rattle.formats.proofs.Letters.{faithful_marks, ranked_term}

-- the levels of some marks, with `owed` above them
abbrev levels_of : List ℕ → (ℕ → ℕ → ℕ) → List ℕ → List Mark → ℕ
levels_of outs g owed ms = lowest g (depths_of outs owed ms) ms

-- the marks of some terms
abbrev marks_all : Terms (ℕ × ℕ) → List Mark
marks_all ts = preorders (λ e. e ∷ []) (λ b. (0, b)) ts

-- the first of some terms was read: the others are left
closed_opened : (m : ℕ) (owed : List ℕ) → closed (suc m ∷ owed) ≡ opened m owed
unfolding closed opened
closed_opened ℕ.zero owed = refl
closed_opened (suc m) owed = refl

module _ (outs : List ℕ) (n r : ℕ) (g : ℕ → ℕ → ℕ) where
  mutual
    unfolding preorder lowest depths_of children_of opened levels_from Ranked count

    -- the marks of a term, and others behind them
    low_term : (t : Term (ℕ × ℕ)) (owed : List ℕ) (ms : List Mark) → Ranked (Call n r) outs t → levels_of outs g owed (marks t ++ ms) ≡ max (levels_from (λ e. g e.0 e.1) (length owed) t) (levels_of outs g (closed owed) ms)
    low_term (var (ℕ.zero, q)) owed ms c = absurd (omega (arith, c.from_one))
    low_term (var (suc i, q)) owed ms c = refl
    low_term (node k ts) owed ms c = omega (arith, ap (λ m. levels_of outs g (opened m owed) (marks_all ts ++ ms)) c.1, low_terms ts owed ms c.2)

    -- the marks of all the terms under a symbol, and others behind them
    low_terms : (ts : Terms (ℕ × ℕ)) (owed : List ℕ) (ms : List Mark) → AllRanked (Call n r) outs ts → levels_of outs g (opened (count ts) owed) (marks_all ts ++ ms) ≡ max (deepest_from (λ e. g e.0 e.1) (suc (length owed)) ts) (levels_of outs g (closed owed) ms)
    low_terms none owed ms c = omega arith
    low_terms (more t ts) owed ms c =
        rw append_assoc (omega (arith, low_term t (suc (count ts) ∷ owed) (marks_all ts ++ ms) c.0, ap (λ o. levels_of outs g o (marks_all ts ++ ms)) (closed_opened (count ts) owed), low_terms ts owed ms c.1))

-- the levels of a whole body, with g for its calls, found by the depths of its marks
pub body_levels : (outs : List ℕ) (n r : ℕ) (g : ℕ → ℕ → ℕ) (ms : List Mark) → Whole (mark_of outs n r) ms → lowest g (depths_of outs [] ms) ms ≡ levels_with (λ e. g e.0 e.1) (first (forest (mark_of outs n r) ms))
unfolding lowest closed depths_of
body_levels outs n r g ms W =
    let w = (exactly (mark_of outs n r) (λ e. e) (λ b. (0, b)) (faithful_marks outs n r) (0, 0) ms).0 W in
    let t = w.0 in
    let f : first (forest (mark_of outs n r) ms) ≡ t = ap (λ l. first (forest (mark_of outs n r) l)) (sym w.2) ∙ reads_back (mark_of outs n r) (λ e. e) (λ b. (0, b)) t w.1 in
    let l = low_term outs n r g t [] [] (ranked_term outs n r t w.1) in
    ap (levels_of outs g []) (sym w.2 ∙ sym (append-nil (marks t)))
    ∙ omega (arith, l, levels_from_lem (λ e. g e.0 e.1) 0 t)
    ∙ ap (levels_with (λ e. g e.0 e.1)) (sym f)

-- two ways to count calls that agree on the calls that can be made
pub lowest_same : (g g' : ℕ → ℕ → ℕ) (n r : ℕ) (ds : List ℕ) (ms : List Mark) → ((j : ℕ) → j < length ms → Callable n r (get_or ms j (0, 0))) → ((i q : ℕ) → 0 < i → i ≤ r → q < n → g i q ≡ g' i q) → lowest g ds ms ≡ lowest g' ds ms
unfolding lowest
lowest_same g g' n r ds [] k e = refl
lowest_same g g' n r [] (m ∷ ms) k e = refl
lowest_same g g' n r (d ∷ ds) ((ℕ.zero, b) ∷ ms) k e = ap (max (d + 1)) (lowest_same g g' n r ds ms (λ j h. k (suc j) (omega arith)) e)
lowest_same g g' n r (d ∷ ds) ((suc i, q) ∷ ms) k e =
    let c = k 0 (omega arith) (omega arith) in
    ap₂ (λ x y. max (d + x) y) (e (suc i) q (omega arith) c.0 c.1) (lowest_same g g' n r ds ms (λ j h. k (suc j) (omega arith)) e)
