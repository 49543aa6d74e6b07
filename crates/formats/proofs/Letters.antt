-- What a mark says as a letter, and the terms that are over such letters: the ranked ones.
-- Assumes nothing.
use Prim.Native.Nat.{ℕ, suc, ◌<◌}
use native.Mathlib.Omega.{arith}
use mathlib.Core.Bool.{Bool, true, false}
use mathlib.Core.Path.{◌≡◌, refl, sym, ap, ap₂, ◌∙◌}
use mathlib.Core.List.{List}
use lib.Dec.{ltb, leb}
use lib.ListN.{length, get_or}
use borrow.Author.Tests.{ltb-true, leb-true, lt-ltb, le-leb}
use Rattle.theory.specs.Term.{Term, var, node, Terms, none, more, count}
use Rattle.theory.proofs.Terms.{conflict}
use Rattle.trees.specs.Code.{Ranked, AllRanked, Call}
use Rattle.trees.specs.Inner.Decode.{call, symbol, Over, AllOver}
use Rattle.trees.specs.Inner.Symbols.{symbol_if, symbol_of}
use Rattle.formats.specs.Inner.Layout.{call_if, mark_of}
use Rattle.trees.proofs.Codes.{Faithful}
use Rattle.trees.proofs.Letters.{symbol_there}

pub call_made : (outs : List ℕ) (n r i q : ℕ) (e : ℕ × ℕ) → mark_of outs n r (i, q) ≡ call e → Call n r (i, q) × (e ≡ (i, q))
unfolding mark_of symbol_of
call_made outs n r ℕ.zero q e h = go (ltb q (length outs)) h
  where
    go : (b : Bool) → symbol_if b q (get_or outs q 0) ≡ call e → Call n r (0, q) × (e ≡ (0, q))
    go true h = conflict (cc)
    go false h = conflict (cc)
call_made outs n r (suc i) q e h = go (leb (suc i) r) (ltb q n) refl refl h
  where
    go : (b d : Bool) → leb (suc i) r ≡ b → ltb q n ≡ d → call_if b d (suc i, q) ≡ call e → Call n r (suc i, q) × (e ≡ (suc i, q))
    go true true x y h = (record { from_one = omega arith; child = leb-true _ _ x; state = ltb-true _ _ y }, (cc))
    go true false x y h = conflict (cc)
    go false d x y h = conflict (cc)

pub symbol_made : (outs : List ℕ) (n r i x k m : ℕ) → mark_of outs n r (i, x) ≡ symbol k m → (i ≡ 0) × (k ≡ x) × (x < length outs) × (m ≡ get_or outs x 0)
unfolding mark_of symbol_of
symbol_made outs n r ℕ.zero x k m h = go (ltb x (length outs)) refl h
  where
    go : (b : Bool) → ltb x (length outs) ≡ b → symbol_if {A = ℕ × ℕ} b x (get_or outs x 0) ≡ symbol k m → (◌≡◌ {A = ℕ} 0 0) × (k ≡ x) × (x < length outs) × (m ≡ get_or outs x 0)
    go true e h = (refl, (cc), ltb-true _ _ e, (cc))
    go false e h = conflict (cc)
symbol_made outs n r (suc i) x k m h = go (leb (suc i) r) (ltb x n) h
  where
    go : (b d : Bool) → call_if b d (suc i, x) ≡ symbol k m → (suc i ≡ 0) × (k ≡ x) × (x < length outs) × (m ≡ get_or outs x 0)
    go true true h = conflict (cc)
    go true false h = conflict (cc)
    go false d h = conflict (cc)

pub faithful_marks : (outs : List ℕ) (n r : ℕ) → Faithful (mark_of outs n r) (λ e. e) (λ b. (0, b))
faithful_marks outs n r = record {
  calls = λ x a e. (call_made outs n r x.0 x.1 a e).1;
  symbols = λ x k m e. let s = symbol_made outs n r x.0 x.1 k m e in ap₂ (λ a b. (a, b)) (sym s.0) s.1;
}

-- ---- over the letters is ranked
call_there : (outs : List ℕ) (n r i q : ℕ) → Call n r (i, q) → mark_of outs n r (i, q) ≡ call (i, q)
unfolding mark_of
call_there outs n r ℕ.zero q c = absurd (omega (arith, c.from_one))
call_there outs n r (suc i) q c = simp (le-leb (suc i) r c.child, lt-ltb q n c.state)

module _ (outs : List ℕ) (n r : ℕ) where
  mutual
    unfolding Over Ranked mark_of

    pub over_term : (t : Term (ℕ × ℕ)) → Ranked (Call n r) outs t → Over (mark_of outs n r) (λ e. e) (λ b. (0, b)) t
    over_term (var e) c = call_there outs n r e.0 e.1 c
    over_term (node k ts) c = (symbol_there outs k c.0 ∙ ap (symbol k) (sym c.1), over_terms ts c.2)

    over_terms : (ts : Terms (ℕ × ℕ)) → AllRanked (Call n r) outs ts → AllOver (mark_of outs n r) (λ e. e) (λ b. (0, b)) ts
    over_terms none c = tt
    over_terms (more t ts) c = (over_term t c.0, over_terms ts c.1)

  mutual
    unfolding Over Ranked

    pub ranked_term : (t : Term (ℕ × ℕ)) → Over (mark_of outs n r) (λ e. e) (λ b. (0, b)) t → Ranked (Call n r) outs t
    ranked_term (var e) o = (call_made outs n r e.0 e.1 e o).0
    ranked_term (node k ts) o = let s = symbol_made outs n r 0 k k (count ts) o.0 in (s.2, s.3, ranked_terms ts o.1)

    ranked_terms : (ts : Terms (ℕ × ℕ)) → AllOver (mark_of outs n r) (λ e. e) (λ b. (0, b)) ts → AllRanked (Call n r) outs ts
    ranked_terms none o = tt
    ranked_terms (more t ts) o = (ranked_term t o.0, ranked_terms ts o.1)
