-- The marks of a right-hand side, as terms: a symbol with the terms behind it, or a call; and their ends, noted from the last mark to the first.
-- Assumes nothing.
use Prim.Native.Nat.{ℕ, suc, ◌+◌, ◌-◌, ◌*◌, ◌≤◌, ◌<◌}
use native.Mathlib.Decide.{dec_lt}
use native.Mathlib.Numerals.{add-one}
use native.Mathlib.Omega.{arith}
use mathlib.Core.Bool.{Bool, true, false}
use mathlib.Core.List.{List, [], ◌∷◌}
use mathlib.Core.Path.{◌≡◌, refl, sym, ap, ◌∙◌}
use lib.Dec.{leb, ltb}
use lib.ListN.{length, get_or, drop, set, length-drop, length-set}
use lib.Seq.{drop-cons, get_or-set_same, get_or-set_other}
use borrow.Author.Tests.{ltb-true, leb-true}
use Rattle.theory.specs.Inner.Forests.{letters, letters_all}
use Rattle.theory.specs.Term.{var, node, Terms, more, count}
use Rattle.trees.specs.Inner.Decode.{firsts, rests, node_if, put, forest, first}
use Rattle.trees.specs.Inner.Symbols.{symbol_of, symbol_if}
use Rattle.trees.proofs.Forest.{all_drop, front}
use Rattle.formats.specs.Inner.Layout.{call_if, mark_of, pairs}
use Rattle.formats.proofs.Pairs.{pairs_at}
use Rattle.transducer.specs.Inner.Written.{hop}
use Rattle.transducer.specs.Inner.Depth.{children_of}
use Rattle.runs.specs.Inner.Walked.{body_mark, terms_at, marks_of, IsBody, Ended}
use Rattle.transducer.proofs.Places.{EndsFrom, place_from, place_inside}

-- ---- one mark in front of some terms
-- a symbol: it is known, and has as many of the terms as its rank says
pub record SymbolFirst (mids : List ℕ) (x : ℕ) (G F : Terms (ℕ × ℕ)) : Type 0 where
  pub known : x < length mids
  pub enough : get_or mids x 0 ≤ count G
  pub there : F ≡ more (node x (firsts (get_or mids x 0) G)) (rests (get_or mids x 0) G)

put_symbol : (mids : List ℕ) (x : ℕ) (G : Terms (ℕ × ℕ)) → 0 < letters_all (put (body_mark mids (0, x)) G) → SymbolFirst mids x G (put (body_mark mids (0, x)) G)
unfolding put mark_of symbol_of letters_all
put_symbol mids x G h = go (ltb x (length mids)) refl h
  where
    deep : (b : Bool) → leb (get_or mids x 0) (count G) ≡ b → x < length mids → 0 < letters_all (node_if b x (get_or mids x 0) G) → SymbolFirst mids x G (node_if b x (get_or mids x 0) G)
    deep true e l h = record { known = l; enough = leb-true _ _ e; there = refl }
    deep false e l h = absurd (omega arith)

    go : (b : Bool) → ltb x (length mids) ≡ b → 0 < letters_all (put (symbol_if b x (get_or mids x 0)) G) → SymbolFirst mids x G (put (symbol_if b x (get_or mids x 0)) G)
    go true e h = deep (leb (get_or mids x 0) (count G)) refl (ltb-true _ _ e) h
    go false e h = absurd (omega arith)

-- a call: on one of 4 children, of one of 128 states
pub record CallFirst (i x : ℕ) (G F : Terms (ℕ × ℕ)) : Type 0 where
  pub child : i ≤ 4
  pub state : x < 128
  pub there : F ≡ more (var (i, x)) G

put_call : (mids : List ℕ) (i x : ℕ) (G : Terms (ℕ × ℕ)) → 0 < letters_all (put (body_mark mids (suc i, x)) G) → CallFirst (suc i) x G (put (body_mark mids (suc i, x)) G)
unfolding put mark_of letters_all
put_call mids i x G h = go (leb (suc i) 4) (ltb x 128) refl refl h
  where
    go : (b d : Bool) → leb (suc i) 4 ≡ b → ltb x 128 ≡ d → 0 < letters_all (put (call_if b d (suc i, x)) G) → CallFirst (suc i) x G (put (call_if b d (suc i, x)) G)
    go true true e f h = record { child = leb-true _ _ e; state = ltb-true _ _ f; there = refl }
    go true false e f h = absurd (omega arith)
    go false d e f h = absurd (omega arith)

-- ---- the mark number k of a body
module _ {mids s : List ℕ} (B : IsBody mids s) (k : ℕ) (less : k < marks_of s) where
  pub mark_inside : 2 * k + 1 < length s
  mark_inside = omega (arith, B.even)

  mark_cons : drop k (pairs s) ≡ (get_or s (2 * k) 0, get_or s (2 * k + 1) 0) ∷ drop (k + 1) (pairs s)
  mark_cons = rw add-one (drop-cons (pairs s) k (0, 0) less) ∙ ap (λ m. m ∷ drop (k + 1) (pairs s)) (pairs_at s k mark_inside)

  -- it stands in front of the terms behind it
  mark_put : terms_at mids s k ≡ put (body_mark mids (get_or s (2 * k) 0, get_or s (2 * k + 1) 0)) (terms_at mids s (k + 1))
  unfolding forest
  mark_put = ap (forest (body_mark mids)) mark_cons

  mark_some : 0 < letters_all (put (body_mark mids (get_or s (2 * k) 0, get_or s (2 * k + 1) 0)) (terms_at mids s (k + 1)))
  mark_some = rw (← mark_put) (omega (arith, all_drop (body_mark mids) (pairs s) k B.whole.all, length-drop k (pairs s)))

  pub symbol_at_lem : get_or s (2 * k) 0 ≡ 0 → SymbolFirst mids (get_or s (2 * k + 1) 0) (terms_at mids s (k + 1)) (terms_at mids s k)
  symbol_at_lem e = rw mark_put (rw e (put_symbol mids (get_or s (2 * k + 1) 0) (terms_at mids s (k + 1)) (rw e at mark_some)))

  pub call_at : 0 < get_or s (2 * k) 0 → CallFirst (get_or s (2 * k) 0) (get_or s (2 * k + 1) 0) (terms_at mids s (k + 1)) (terms_at mids s k)
  call_at h = rw mark_put (go (get_or s (2 * k) 0) h mark_some)
    where
      go : (i : ℕ) → 0 < i → 0 < letters_all (put (body_mark mids (i, get_or s (2 * k + 1) 0)) (terms_at mids s (k + 1))) → CallFirst i (get_or s (2 * k + 1) 0) (terms_at mids s (k + 1)) (put (body_mark mids (i, get_or s (2 * k + 1) 0)) (terms_at mids s (k + 1)))
      go ℕ.zero h g = absurd (omega arith)
      go (suc i) h g = put_call mids i (get_or s (2 * k + 1) 0) (terms_at mids s (k + 1)) g

  -- a symbol or a call, with the terms under it
  module _ {r : ℕ} (e : r ≡ children_of mids (get_or s (2 * k) 0, get_or s (2 * k + 1) 0)) where
    under : (r ≤ count (terms_at mids s (k + 1))) × (letters (first (terms_at mids s k)) ≡ 1 + letters_all (firsts r (terms_at mids s (k + 1))))
    unfolding children_of first letters letters_all firsts
    under = go (get_or s (2 * k) 0) refl
      where
        go : (i : ℕ) → get_or s (2 * k) 0 ≡ i → (r ≤ count (terms_at mids s (k + 1))) × (letters (first (terms_at mids s k)) ≡ 1 + letters_all (firsts r (terms_at mids s (k + 1))))
        go ℕ.zero f =
            let S = symbol_at_lem f in
            let q : r ≡ get_or mids (get_or s (2 * k + 1) 0) 0 = e ∙ ap (λ i. children_of mids (i, get_or s (2 * k + 1) 0)) f in
            (omega (arith, S.enough), ap (λ F. letters (first F)) S.there ∙ rw (← q) (omega arith))
        go (suc i) f =
            let C = call_at (omega arith) in
            let q : r ≡ 0 = e ∙ ap (λ i. children_of mids (i, get_or s (2 * k + 1) 0)) f in
            (omega arith, ap (λ F. letters (first F)) C.there ∙ rw q (omega arith))

-- ---- the ends, noted from the last mark to the first
pub record NotedFrom (mids s ends : List ℕ) (k : ℕ) : Type 0 where
  pub body : IsBody mids s
  pub inside : k ≤ marks_of s
  pub room : length ends ≡ 64
  pub right : EndsFrom (body_mark mids) (pairs s) ends k

pub none_noted : {mids s ends : List ℕ} {k : ℕ} → IsBody mids s → length ends ≡ 64 → k ≡ marks_of s → NotedFrom mids s ends k
none_noted B h e = record { body = B; inside = omega arith; room = h; right = λ j g l. absurd (omega arith) }

pub all_noted : {mids s ends : List ℕ} → NotedFrom mids s ends 0 → Ended mids s ends
all_noted F = record { body = F.body; room = F.room; right = λ k h. F.right k (omega arith) h }

module _ {mids s ends : List ℕ} {k : ℕ} (F : NotedFrom mids s ends k) (some : 0 < k) where
  -- its symbol is known
  pub next_known : {i x : ℕ} → i ≡ get_or s (2 * (k - 1)) 0 → x ≡ get_or s (2 * (k - 1) + 1) 0 → i ≡ 0 → x < length mids
  next_known e f z = rw f (symbol_at_lem F.body (k - 1) (omega (arith, F.inside)) (sym e ∙ z)).known

  module _ {r : ℕ} (e : r ≡ children_of mids (get_or s (2 * (k - 1)) 0, get_or s (2 * (k - 1) + 1) 0)) where
    next_under : (r ≤ count (terms_at mids s (k - 1 + 1))) × (letters (first (terms_at mids s (k - 1))) ≡ 1 + letters_all (firsts r (terms_at mids s (k - 1 + 1))))
    next_under = under F.body (k - 1) (omega (arith, F.inside)) e

    pub child_inside : (j : ℕ) → j < r → hop ends j (k - 1 + 1) < length ends
    child_inside j h = omega (arith, F.room, F.body.few, place_inside (body_mark mids) (0, 0) (pairs s) ends k F.right j (k - 1 + 1) (omega arith) (omega (arith, next_under.0)))

    module _ {x : ℕ} (q : x ≡ hop ends r (k - 1 + 1)) where
      -- behind the last child the term ends
      ends_there : x ≡ k - 1 + letters (first (terms_at mids s (k - 1)))
      ends_there = omega (arith, q, (place_from (body_mark mids) (0, 0) (pairs s) ends k F.right r (k - 1 + 1) (omega arith) next_under.0).far, next_under.1)

      pub end_fits : x ≤ 64
      end_fits = omega (arith, q, (place_from (body_mark mids) (0, 0) (pairs s) ends k F.right r (k - 1 + 1) (omega arith) next_under.0).far, (front {Y = ℕ} (body_mark mids) (λ a. []) (λ k. k) (0, 0) (drop (k - 1 + 1) (pairs s)) r next_under.0).inside, length-drop (k - 1 + 1) (pairs s), F.inside, F.body.few)

      pub one_noted : NotedFrom mids s (set ends (k - 1) x) (k - 1)
      one_noted = record { body = F.body; inside = omega (arith, F.inside); room = length-set ends (k - 1) x ∙ F.room; right = λ j i l. by_case j i l (dec_lt (k - 1) j) }
        where
          by_case : (j : ℕ) → k - 1 ≤ j → j < marks_of s → Dec (k - 1 < j) → get_or (set ends (k - 1) x) j 0 ≡ j + letters (first (terms_at mids s j))
          by_case j i l (yes g) = get_or-set_other ends (k - 1) j x 0 (omega arith) ∙ F.right j (omega arith) l
          by_case j i l (no g) =
              let z : j ≡ k - 1 = omega arith in
              rw z (get_or-set_same ends (k - 1) x 0 (omega (arith, F.room, F.body.few, F.inside)) ∙ ends_there)
