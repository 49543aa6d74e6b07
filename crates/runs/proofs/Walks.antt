-- What a state of the second transducer writes on a right-hand side of the first, by position: one mark after the other, and one state applied to one mark.
-- Assumes nothing.
use Prim.Native.Nat.{ℕ, suc, ◌+◌, ◌-◌, ◌*◌, ◌≤◌, ◌<◌}
use native.Mathlib.Omega.{arith}
use mathlib.Core.List.{List, [], ◌∷◌, ◌++◌}
use mathlib.Core.Path.{◌≡◌, refl, sym, ap, ◌∙◌}
use lib.ListN.{length, get_or}
use lib.Seq.{slice_empty, length-slice}
use Rattle.theory.specs.Compose.{assoc}
use Rattle.theory.specs.Inner.PairCodes.{pair_code}
use Rattle.theory.specs.Term.{Term, var, node, Terms, none, more, count, bind, mapT}
use Rattle.theory.specs.Transducer.{Transducer, run, runs, pick, renamed}
use Rattle.trees.specs.Alphabets.{inputs, outputs}
use Rattle.trees.specs.Code.{preorder}
use Rattle.trees.specs.Inner.Decode.{firsts, rests, first}
use Rattle.trees.proofs.Codes.{preorder_bind}
use Rattle.formats.specs.Inner.Layout.{pairs, body_number, body, transducer}
use Rattle.formats.specs.Inner.Marked.{part}
use Rattle.formats.proofs.Pairs.{pairs_length, pairs_at, part_cons, getD_slice, number_less}
use Rattle.transducer.specs.Inner.Written.{spell, Callable, hop}
use Rattle.transducer.proofs.Meaning.{BodyRead, body_read}
use Rattle.transducer.proofs.Walks.{spell_same}
use Rattle.discovery.specs.Inner.Letters.{call_letter, spelt}
use Rattle.forms.proofs.Files.{number_fits}
use Rattle.runs.specs.Inner.Walked.{body_mark, terms_at, marks_of, tabled, paired, answered, applied, walked, InTable, Ready, Walkable}
use Rattle.runs.proofs.Marks.{SymbolFirst, symbol_at_lem, CallFirst, call_at}
use Rattle.transducer.proofs.Places.{Place, place_from, place_inside}
use Rattle.runs.proofs.Wider.{wider_whole}

-- ---- letters of a term with calls of pairs
-- the letter of the call of q on child i, met by state p
abbrev pair_letter : (ℕ × ℕ) × ℕ → ℕ
pair_letter e = call_letter (e.0.0, pair_code 128 (e.0.1, e.1))

paired_letters : (t : Term ((ℕ × ℕ) × ℕ)) → spelt (paired t) ≡ preorder (λ e. pair_letter e ∷ []) (λ k. k) t
unfolding renamed mapT assoc preorder
paired_letters t = preorder_bind (λ e. call_letter e ∷ []) (λ k. k) (λ e. var (e.0, pair_code 128 e.1)) (mapT assoc t) ∙ preorder_bind (λ e. call_letter (e.0, pair_code 128 e.1) ∷ []) (λ k. k) (λ e. var (assoc e)) t

paired_bind : {A : Type 0} (t : Term A) (f : A → Term ((ℕ × ℕ) × ℕ)) → spelt (paired (bind t f)) ≡ preorder (λ a. spelt (paired (f a))) (λ k. k) t
paired_bind t f = paired_letters (bind t f) ∙ preorder_bind (λ e. pair_letter e ∷ []) (λ k. k) f t ∙ ap (λ g. preorder g (λ k. k) t) (λ i a. sym (paired_letters (f a)) i)

-- ---- calls on one of some terms
module _ (N : Transducer ℕ) where
  pick_firsts : (F : Terms (ℕ × ℕ)) (r i p : ℕ) → i ≤ r → r ≤ count F → pick (runs N (firsts r F)) i p ≡ pick (runs N F) i p
  unfolding pick runs count firsts
  pick_firsts none ℕ.zero i p h g = refl
  pick_firsts none (suc r) i p h g = absurd (omega arith)
  pick_firsts (more d ds) ℕ.zero ℕ.zero p h g = refl
  pick_firsts (more d ds) ℕ.zero (suc i) p h g = absurd (omega arith)
  pick_firsts (more d ds) (suc r) ℕ.zero p h g = refl
  pick_firsts (more d ds) (suc r) (suc ℕ.zero) p h g = refl
  pick_firsts (more d ds) (suc r) (suc (suc i)) p h g = pick_firsts ds r (suc i) p (omega arith) (omega arith)

  pub pick_rests : (F : Terms (ℕ × ℕ)) (k p : ℕ) → k < count F → pick (runs N F) (suc k) p ≡ run N (first (rests k F)) p
  unfolding pick runs count rests first
  pick_rests none k p h = absurd (omega arith)
  pick_rests (more d ds) ℕ.zero p h = refl
  pick_rests (more d ds) (suc k) p h = pick_rests ds k p (omega arith)

-- ---- the right-hand sides of the second transducer
module _ {mids outs starts bytes : List ℕ} (T : InTable mids outs starts bytes) where
  -- of the initial term
  pub initial_read : BodyRead outs 128 1 (part bytes (get_or starts 0 0) (get_or starts 1 0)) × BodyRead outs T.states 1 (part bytes (get_or starts 0 0) (get_or starts 1 0))
  unfolding body
  initial_read =
      let W = T.layout.wholes.initial in
      (body_read outs 128 1 _ (wider_whole outs T.layout.few_states (omega arith) _ W), body_read outs T.states 1 _ W)

  module _ {p x : ℕ} (state : p < T.states) (there : x < length mids) where
    rhs_read : BodyRead outs 128 (get_or mids x 0) (part bytes (get_or starts (body_number mids p x) 0) (get_or starts (body_number mids p x + 1) 0)) × BodyRead outs T.states (get_or mids x 0) (part bytes (get_or starts (body_number mids p x) 0) (get_or starts (body_number mids p x + 1) 0))
    unfolding body
    rhs_read =
        let W = T.layout.wholes.rhs p x state there in
        (body_read outs 128 (get_or mids x 0) _ (wider_whole outs T.layout.few_states (omega arith) _ W), body_read outs T.states (get_or mids x 0) _ W)

    -- what it gives on x and the first terms of G
    rhs_spelled : (G : Terms (ℕ × ℕ)) → get_or mids x 0 ≤ count G
        → spelt (paired (run (tabled mids outs starts bytes) (node x (firsts (get_or mids x 0) G)) p)) ≡ spell (answered (tabled mids outs starts bytes) G) (part bytes (get_or starts (body_number mids p x) 0) (get_or starts (body_number mids p x + 1) 0))
    unfolding run answered transducer body
    rhs_spelled G enough =
        let N = tabled mids outs starts bytes in
        let r = get_or mids x 0 in
        let R = rhs_read in
        paired_bind (N.rhs p x) (λ e. pick (runs N (firsts r G)) e.0 e.1)
        ∙ R.0.spelled (λ e. spelt (paired (pick (runs N (firsts r G)) e.0 e.1)))
        ∙ spell_same (λ i q. spelt (paired (pick (runs N (firsts r G)) i q))) (λ i q. spelt (paired (pick (runs N G) i q))) T.states r _ R.1.callable
        (λ i q l m o. ap (λ t. spelt (paired t)) (pick_firsts N G r i q m enough))

-- ---- one mark
module _ (stock starts bytes s : List ℕ) (below j to : ℕ) (less : j < to) (inside : 2 * to ≤ length bytes) where
  pub walk_symbol : {x : ℕ} → get_or bytes (2 * j) 0 ≡ 0 → x ≡ get_or bytes (2 * j + 1) 0 → walked stock starts bytes s below j to ≡ x ∷ walked stock starts bytes s below (j + 1) to
  unfolding spell walked
  walk_symbol e f = rw (f, part_cons bytes j to less inside, e)

  pub walk_call : (i : ℕ) → get_or bytes (2 * j) 0 ≡ suc i → walked stock starts bytes s below j to ≡ answered (tabled (inputs stock) (outputs stock) starts bytes) (terms_at (inputs stock) s below) (suc i) (get_or bytes (2 * j + 1) 0) ++ walked stock starts bytes s below (j + 1) to
  unfolding spell walked
  walk_call i e = rw (part_cons bytes j to less inside, e)

pub walk_end : (stock starts bytes s : List ℕ) (below j to : ℕ) → j ≤ to → to ≤ j → walked stock starts bytes s below j to ≡ []
unfolding spell walked
walk_end stock starts bytes s below j to h g = let e : j ≡ to = omega arith in rw (e, slice_empty to (pairs bytes))

-- ---- a state on a mark
module _ {stock starts bytes s ends : List ℕ} {p k : ℕ} (R : Ready stock starts bytes s ends p k) where
  pub ready_few : (p < 128) × (k < 64)
  ready_few = (omega (arith, R.state, R.table.layout.few_states), omega (arith, R.place, R.ended.body.few))

  -- a call of the first transducer: the letter of the pair
  module _ {i x : ℕ} (e : i ≡ get_or s (2 * k) 0) (f : x ≡ get_or s (2 * k + 1) 0) (some : 0 < i) where
    call_here : CallFirst i x (terms_at (inputs stock) s (k + 1)) (terms_at (inputs stock) s k)
    call_here = rw (e, f) (call_at R.ended.body k R.place (rw e at some))

    pub apply_call : applied stock starts bytes s p k ≡ (65536 * i + 128 * x + p) ∷ []
    unfolding applied run first preorder pair_code renamed mapT bind assoc
    apply_call =
        let n : 65536 * i + (x * 128 + p) ≡ 65536 * i + 128 * x + p = omega arith in
        ap (λ F. spelt (paired (run (tabled (inputs stock) (outputs stock) starts bytes) (first F) p))) call_here.there ∙ ap (λ z. z ∷ []) n

  -- a symbol: the marks of the right-hand side, over the terms behind it
  module _ {i x : ℕ} (e : i ≡ get_or s (2 * k) 0) (f : x ≡ get_or s (2 * k + 1) 0) (zero : i ≡ 0) where
    symbol_here : SymbolFirst (inputs stock) x (terms_at (inputs stock) s (k + 1)) (terms_at (inputs stock) s k)
    symbol_here = rw f (symbol_at_lem R.ended.body k R.place (sym e ∙ zero))

    pub symbol_fits : (x < 256) × (body_number (inputs stock) p x + 1 < 2050)
    symbol_fits = (omega (arith, symbol_here.known, R.alphabets.ins.few), omega (arith, (number_fits R.table.layout R.state symbol_here.known).0))

    module _ {b from to : ℕ} (g : b ≡ body_number (inputs stock) p x) (h : from ≡ get_or starts b 0) (l : to ≡ get_or starts (b + 1) 0) where
      body_less : body_number (inputs stock) p x < 1 + R.table.states * length (inputs stock)
      body_less = number_less (inputs stock) p R.table.states x R.state symbol_here.known

      from_is : from ≡ get_or starts (body_number (inputs stock) p x) 0
      from_is = h ∙ ap (λ n. get_or starts n 0) g

      to_is : to ≡ get_or starts (body_number (inputs stock) p x + 1) 0
      to_is = l ∙ ap (λ n. get_or starts (n + 1) 0) g

      body_inside : 2 * to ≤ length bytes
      body_inside = rw to_is (R.table.layout.bounds.inside (body_number (inputs stock) p x + 1) (omega (arith, body_less)))

      pub body_few : to ≤ from + 64
      body_few = rw (from_is, to_is) (R.table.layout.few (body_number (inputs stock) p x) body_less)

      pub body_walk : Walkable stock starts bytes s ends from to (k + 1)
      body_walk = record {
        alphabets = R.alphabets;
        table = R.table;
        ended = R.ended;
        ordered = rw (from_is, to_is) (R.table.layout.bounds.ordered (body_number (inputs stock) p x) body_less);
        inside = body_inside;
        callable = λ j u v w.
            let inside = pairs_length bytes to body_inside in
            let d = getD_slice from to (j - from) (pairs bytes) inside (omega (arith, length-slice from to (pairs bytes) inside)) in
            let z : from + (j - from) ≡ j = omega arith in
            let C : (j : ℕ) → j < length (part bytes from to) → Callable R.table.states (get_or (inputs stock) x 0) (get_or (part bytes from to) j (0, 0)) = rw (from_is, to_is) (rhs_read R.table R.state symbol_here.known).1.callable in
            let m = (rw (d.1, z) at (C (j - from) (omega (arith, length-slice from to (pairs bytes) inside)))) w in
            (omega (arith, m.0, symbol_here.enough), m.1);
      }

      pub apply_walk : applied stock starts bytes s p k ≡ walked stock starts bytes s (k + 1) from to
      unfolding applied walked first
      apply_walk =
          ap (λ F. spelt (paired (run (tabled (inputs stock) (outputs stock) starts bytes) (first F) p))) symbol_here.there
          ∙ rhs_spelled R.table R.state symbol_here.known (terms_at (inputs stock) s (k + 1)) symbol_here.enough
          ∙ rw (from_is, to_is)

-- ---- a call in a walk: the child can be found, and the state applied there
module _ {stock starts bytes s ends : List ℕ} {from to below : ℕ} (W : Walkable stock starts bytes s ends from to below) (j : ℕ) (h : from ≤ j) (g : j < to) where
  walk_inside : 2 * j + 1 < length bytes
  walk_inside = omega (arith, W.inside)

  call_can : 0 < get_or bytes (2 * j) 0 → (get_or bytes (2 * j) 0 ≤ count (terms_at (inputs stock) s below)) × (get_or bytes (2 * j + 1) 0 < W.table.states)
  call_can u = rw (pairs_at bytes j walk_inside) at (W.callable j h g) u

  module _ {i x : ℕ} (e : i ≡ get_or bytes (2 * j) 0) (f : x ≡ get_or bytes (2 * j + 1) 0) (some : i ≡ 0 → ⊥) where
    can : (i ≤ count (terms_at (inputs stock) s below)) × (x < W.table.states)
    can = let v : 0 < get_or bytes (2 * j) 0 = omega (arith, some) in rw (e, f) (call_can v)

    there : (k : ℕ) → k < i → hop ends k below < marks_of s
    there k l = place_inside (body_mark (inputs stock)) (0, 0) (pairs s) ends 0 (λ k a b. W.ended.right k b) k below (omega arith) (omega (arith, can.0))

    pub to_skip : (k : ℕ) → k < i - 1 → hop ends k below < length ends
    to_skip k l = omega (arith, there k (omega arith), W.ended.body.few, W.ended.room)

    module _ {q : ℕ} (u : q ≡ hop ends (i - 1) below) where
      here : Place (body_mark (inputs stock)) (pairs s) ends (i - 1) below
      here = place_from (body_mark (inputs stock)) (0, 0) (pairs s) ends 0 (λ k a b. W.ended.right k b) (i - 1) below (omega arith) (omega (arith, can.0))

      pub child_after : below ≤ q
      child_after = omega (arith, here.after)

      pub to_apply : Ready stock starts bytes s ends x q
      to_apply = record { alphabets = W.alphabets; table = W.table; ended = W.ended; state = can.1; place = rw u (there (i - 1) (omega (arith, some))) }

      pub call_walk : walked stock starts bytes s below j to ≡ applied stock starts bytes s x q ++ walked stock starts bytes s below (j + 1) to
      unfolding applied answered
      call_walk =
          let N = tabled (inputs stock) (outputs stock) starts bytes in
          let z : get_or bytes (2 * j) 0 ≡ suc (i - 1) = omega (arith, some) in
          walk_call stock starts bytes s below j to g W.inside (i - 1) z
          ∙ ap (λ v. v ++ walked stock starts bytes s below (j + 1) to)
          (ap (λ t. spelt (paired t)) (pick_rests N (terms_at (inputs stock) s below) (i - 1) (get_or bytes (2 * j + 1) 0) (omega (arith, can.0, some)))
          ∙ ap (λ y. spelt (paired (run N (first (rests (i - 1) (terms_at (inputs stock) s below))) y))) (sym f)
          ∙ ap (λ F. spelt (paired (run N (first F) x))) (sym here.terms_there)
          ∙ ap (λ k. spelt (paired (run N (first (terms_at (inputs stock) s k)) x))) (sym u))
