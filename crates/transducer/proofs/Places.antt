-- The terms that stand behind one another in a list of letters, and where each begins, by a table of their ends.
-- Assumes nothing.
use Prim.Native.Nat.{ℕ, suc, ◌+◌, ◌≤◌, ◌<◌}
use native.Mathlib.Omega.{arith}
use mathlib.Core.List.{List}
use mathlib.Core.Path.{◌≡◌, refl, sym, ap, ◌∙◌}
use lib.ListN.{length, get_or, drop}
use Rattle.theory.specs.Inner.Forests.{letters, letters_all}
use Rattle.theory.specs.Term.{Term, Terms, none, more, count}
use Rattle.trees.specs.Inner.Decode.{Letter, firsts, rests, forest, first}
use Rattle.trees.proofs.Forest.{first_tree, letters_pos, count_rests}
use Rattle.transducer.specs.Inner.Written.{hop}

some_term : {A : Type 0} (F : Terms A) → 0 < count F → (t : Term A) × (ts : Terms A) × (F ≡ more t ts)
unfolding count
some_term none h = absurd (omega arith)
some_term (more t ts) h = (t, ts, refl)

-- the table holds the ends of the terms, from position a on
abbrev pub EndsFrom : {A X : Type 0} → (X → Letter A) → List X → List ℕ → ℕ → Type 0
EndsFrom f s ends a = (k : ℕ) → a ≤ k → k < length s → get_or ends k 0 ≡ k + letters (first (forest f (drop k s)))

-- the term that stands k terms behind the one at p
pub record Place {A X : Type 0} (f : X → Letter A) (s : List X) (ends : List ℕ) (k p : ℕ) : Type 0 where
  pub after : p ≤ hop ends k p
  pub far : hop ends k p ≡ p + letters_all (firsts k (forest f (drop p s)))
  pub terms_there : forest f (drop (hop ends k p) s) ≡ rests k (forest f (drop p s))

module _ {A X : Type 0} (f : X → Letter A) (d : X) (s : List X) (ends : List ℕ) where
  pub place_from : (a : ℕ) → EndsFrom f s ends a → (k p : ℕ) → a ≤ p → k ≤ count (forest f (drop p s)) → Place f s ends k p
  unfolding hop firsts rests count first letters_all
  place_from a E ℕ.zero p g h = record { after = omega arith; far = omega arith; terms_there = refl }
  place_from a E (suc k) p g h =
      let (t, ts, e) = some_term (forest f (drop p s)) (omega arith) in
      let w = first_tree f d s p e in
      let pos = letters_pos t in
      let r : get_or ends p 0 ≡ p + letters t = E p g (omega arith) ∙ ap (λ F. p + letters (first F)) e in
      let b : ts ≡ forest f (drop (get_or ends p 0) s) = w.0 ∙ ap (λ k. forest f (drop k s)) (sym r) in
      let c : count (forest f (drop p s)) ≡ suc (count ts) = ap count e in
      let i = place_from a E k (get_or ends p 0) (omega arith) (omega (arith, ap count b)) in
      record {
        after = omega (arith, i.after);
        far = omega (arith, i.far, ap (λ F. letters_all (firsts k F)) b, ap (λ F. letters_all (firsts (suc k) F)) e);
        terms_there = i.terms_there ∙ ap (rests k) (sym b) ∙ ap (rests (suc k)) (sym e);
      }

  -- where a term stands is a position of the list
  pub in_list : (p : ℕ) → 0 < count (forest f (drop p s)) → p < length s
  in_list p h =
      let (t, ts, e) = some_term (forest f (drop p s)) h in
      omega (arith, (first_tree f d s p e).1, letters_pos t)

  -- so is the place of the term k terms behind, where there are more than k
  pub place_inside : (a : ℕ) → EndsFrom f s ends a → (k p : ℕ) → a ≤ p → k < count (forest f (drop p s)) → hop ends k p < length s
  place_inside a E k p g h =
      let w = place_from a E k p g (omega arith) in
      in_list (hop ends k p) (rw (w.terms_there, count_rests) (omega arith))
