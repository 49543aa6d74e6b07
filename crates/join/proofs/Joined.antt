-- The right-hand sides and the initial term of the joined transducer, letter by letter: what the second transducer writes on those of the first.
-- Assumes nothing.
use Prim.Native.Nat.{ℕ, suc, ◌+◌, ◌-◌, ◌*◌, ◌/◌, ◌%◌, ◌≤◌, ◌<◌}
use native.Mathlib.Omega.{arith}
use mathlib.Core.List.{List, [], ◌∷◌}
use mathlib.Core.Path.{◌≡◌, refl, sym, ap, ◌∙◌}
use lib.ListN.{length, get_or, take, drop, length-take, length-drop}
use lib.Seq.{slice, length-slice}
use Rattle.theory.specs.Accessible.{coded}
use Rattle.theory.specs.Compose.{assoc, compose}
use Rattle.theory.specs.Inner.PairCodes.{pair_code, pair_name}
use Rattle.theory.specs.Term.{Term, Terms, var, bind, mapT, count}
use Rattle.theory.specs.Transducer.{Transducer, run, runs, pick, renamed}
use Rattle.trees.specs.Alphabets.{inputs, outputs}
use Rattle.trees.specs.Code.{preorder}
use Rattle.trees.specs.Inner.Decode.{rests, forest, first, Whole}
use Rattle.trees.proofs.Codes.{preorder_bind}
use Rattle.formats.specs.Inner.Layout.{mark_of, pairs, body_number, body, transducer}
use Rattle.formats.specs.Inner.Marked.{part}
use Rattle.formats.proofs.Pairs.{pairs_length, number_less, getD_slice}
use Rattle.transducer.specs.Inner.Written.{Callable}
use Rattle.transducer.proofs.Walks.{spell_same}
use Rattle.forms.proofs.Files.{number_fits}
use Rattle.forms.proofs.Slices.{slice_from}
use Rattle.discovery.specs.Inner.Letters.{call_letter, spelt}
use Rattle.join.specs.Inner.Pairs.{product, Pair, Tables}
use Rattle.runs.specs.Inner.Walked.{body_mark, terms_at, marks_of, tabled, paired, answered, applied, walked, IsBody, Ended, Ready, Walkable}
use Rattle.transducer.proofs.Places.{in_list}
use Rattle.runs.proofs.Walks.{initial_read, pick_rests}
use Rattle.runs.proofs.Wider.{wider_forest, wider_whole}

-- ---- the marks of a body, as a part of the file
pairs_drop : (f : ℕ) (s : List ℕ) → 2 * f ≤ length s → pairs (drop (2 * f) s) ≡ drop f (pairs s)
unfolding pairs
pairs_drop ℕ.zero s h = refl
pairs_drop (suc f) [] h = absurd (omega arith)
pairs_drop (suc f) (x ∷ []) h = absurd (omega arith)
pairs_drop (suc f) (x ∷ y ∷ s) h = let e : 2 * suc f ≡ suc (suc (2 * f)) = omega arith in rw e (pairs_drop f s (omega arith))

pairs_take : (t : ℕ) (s : List ℕ) → 2 * t ≤ length s → pairs (take (2 * t) s) ≡ take t (pairs s)
unfolding pairs
pairs_take ℕ.zero s h = refl
pairs_take (suc t) [] h = absurd (omega arith)
pairs_take (suc t) (x ∷ []) h = absurd (omega arith)
pairs_take (suc t) (x ∷ y ∷ s) h = let e : 2 * suc t ≡ suc (suc (2 * t)) = omega arith in rw e (ap (◌∷◌ (x, y)) (pairs_take t s (omega arith)))

-- the bytes 2 f up to 2 t are the marks number f up to t
module _ (bytes : List ℕ) (f t : ℕ) (ordered : f ≤ t) (inside : 2 * t ≤ length bytes) where
  lent_pairs : pairs (take (2 * t - 2 * f) (drop (2 * f) bytes)) ≡ part bytes f t
  lent_pairs =
      let e : 2 * f + (2 * t - 2 * f) ≡ 2 * t = omega arith in
      ap pairs (sym (slice_from bytes (2 * f) (2 * t - 2 * f) (omega arith)) ∙ ap (λ k. slice (2 * f) k bytes) e)
      ∙ pairs_drop f (take (2 * t) bytes) (omega (arith, length-take (2 * t) bytes))
      ∙ ap (drop f) (pairs_take t bytes inside)

  lent_marks : marks_of (take (2 * t - 2 * f) (drop (2 * f) bytes)) ≡ t - f
  lent_marks = ap length lent_pairs ∙ length-slice f t (pairs bytes) (pairs_length bytes t inside)

  lent_length : length (take (2 * t - 2 * f) (drop (2 * f) bytes)) ≡ 2 * t - 2 * f
  lent_length = omega (arith, length-take (2 * t - 2 * f) (drop (2 * f) bytes), length-drop (2 * f) bytes)

  -- a whole body of at most 64 marks
  lent_body : (mids : List ℕ) {n r : ℕ} → n ≤ 128 → r ≤ 4 → t ≤ f + 64 → Whole (mark_of mids n r) (part bytes f t) → IsBody mids (take (2 * t - 2 * f) (drop (2 * f) bytes))
  lent_body mids h g few W = record {
    whole = rw lent_pairs (wider_whole mids h g _ W);
    even = omega (arith, lent_length, lent_marks);
    few = omega (arith, lent_marks);
  }

  -- the term that stands there
  lent_term : (mids : List ℕ) {n r : ℕ} → n ≤ 128 → r ≤ 4 → Whole (mark_of mids n r) (part bytes f t) → first (terms_at mids (take (2 * t - 2 * f) (drop (2 * f) bytes)) 0) ≡ first (forest (mark_of mids 128 r) (part bytes f t))
  lent_term mids h g W = ap first (ap (forest (body_mark mids)) lent_pairs ∙ wider_forest mids h g _ W ∙ sym (wider_forest mids h (omega arith) _ W))

  -- there is a mark
  lent_some : (mids : List ℕ) {n r : ℕ} → n ≤ 128 → r ≤ 4 → t ≤ f + 64 → Whole (mark_of mids n r) (part bytes f t) → 0 < marks_of (take (2 * t - 2 * f) (drop (2 * f) bytes))
  lent_some mids h g few W = in_list (body_mark mids) (0, 0) (pairs (take (2 * t - 2 * f) (drop (2 * f) bytes))) [] 0 (omega (arith, (lent_body mids h g few W).whole.one))

-- ---- letters of a term with runs for its calls
bind_letters : (t : Term (ℕ × ℕ)) (h : ℕ × ℕ → Term ((ℕ × ℕ) × ℕ)) → spelt (renamed (pair_code 128) (bind t (λ e. mapT assoc (h e)))) ≡ preorder (λ e. spelt (paired (h e))) (λ k. k) t
unfolding renamed mapT preorder
bind_letters t h =
    let y : ℕ × (ℕ × ℕ) → List ℕ = λ e. call_letter (e.0, pair_code 128 e.1) ∷ [] in
    let v : ℕ × (ℕ × ℕ) → Term (ℕ × ℕ) = λ e. var (e.0, pair_code 128 e.1) in
    preorder_bind (λ e. call_letter e ∷ []) (λ k. k) v (bind t (λ e. mapT assoc (h e)))
    ∙ preorder_bind y (λ k. k) (λ e. mapT assoc (h e)) t
    ∙ ap (λ g. preorder g (λ k. k) t) (λ i e. sym (preorder_bind (λ e. call_letter e ∷ []) (λ k. k) v (mapT assoc (h e))) i)

-- a call on the first child of some terms
pick_one : (N : Transducer ℕ) (F : Terms (ℕ × ℕ)) (i q : ℕ) → 0 < i → i ≤ 1 → 0 < count F → pick (runs N F) i q ≡ run N (first F) q
unfolding rests
pick_one N F ℕ.zero q l m h = absurd (omega arith)
pick_one N F (suc ℕ.zero) q l m h = pick_rests N F 0 q h
pick_one N F (suc (suc i)) q l m h = absurd (omega arith)

module _ {stock stock' starts bytes starts' bytes' : List ℕ} (T : Tables stock stock' starts bytes starts' bytes') where
  -- ---- the right-hand side of pair c for symbol a: body b of the first transducer has the marks number f up to t
  module _ {c a b : ℕ} (P : Pair T.first.states T.second.states c) (there : a < length (inputs stock)) (e : b ≡ body_number (inputs stock) (c / 128) a) where
    pub rhs_fits : b + 1 < 2050
    rhs_fits = omega (arith, (number_fits T.first.layout P.first there).0)

    rhs_less : body_number (inputs stock) (c / 128) a < 1 + T.first.states * length (inputs stock)
    rhs_less = number_less (inputs stock) (c / 128) T.first.states a P.first there

    module _ {f t : ℕ} (g : f ≡ get_or starts b 0) (h : t ≡ get_or starts (b + 1) 0) where
      rhs_from : f ≡ get_or starts (body_number (inputs stock) (c / 128) a) 0
      rhs_from = g ∙ ap (λ n. get_or starts n 0) e

      rhs_to : t ≡ get_or starts (body_number (inputs stock) (c / 128) a + 1) 0
      rhs_to = h ∙ ap (λ n. get_or starts (n + 1) 0) e

      pub rhs_ordered : f ≤ t
      rhs_ordered = rw (rhs_from, rhs_to) (T.first.layout.bounds.ordered _ rhs_less)

      pub rhs_inside : 2 * t ≤ length bytes
      rhs_inside = rw rhs_to (T.first.layout.bounds.inside (body_number (inputs stock) (c / 128) a + 1) (omega (arith, rhs_less)))

      rhs_few : t ≤ f + 64
      rhs_few = rw (rhs_from, rhs_to) (T.first.layout.few _ rhs_less)

      rhs_whole : Whole (mark_of (inputs stock') T.first.states (get_or (inputs stock) a 0)) (part bytes f t)
      unfolding body
      rhs_whole = rw (rhs_from, rhs_to) (T.first.layout.wholes.rhs (c / 128) a P.first there)

      rhs_low : get_or (inputs stock) a 0 ≤ 4
      rhs_low = T.alphabets.ins.low a there

      pub rhs_body : IsBody (inputs stock') (take (2 * t - 2 * f) (drop (2 * f) bytes))
      rhs_body = lent_body bytes f t rhs_ordered rhs_inside (inputs stock') T.first.layout.few_states rhs_low rhs_few rhs_whole

      pub rhs_ready : {ends : List ℕ} → Ended (inputs stock') (take (2 * t - 2 * f) (drop (2 * f) bytes)) ends → Ready stock' starts' bytes' (take (2 * t - 2 * f) (drop (2 * f) bytes)) ends (c % 128) 0
      rhs_ready E = record { alphabets = T.alphabets'; table = T.second; ended = E; state = P.second; place = lent_some bytes f t rhs_ordered rhs_inside (inputs stock') T.first.layout.few_states rhs_low rhs_few rhs_whole }

      pub rhs_letters : spelt ((product stock stock' starts bytes starts' bytes').rhs c a) ≡ applied stock' starts' bytes' (take (2 * t - 2 * f) (drop (2 * f) bytes)) (c % 128) 0
      unfolding product coded compose pair_name applied transducer body
      rhs_letters =
          let N = tabled (inputs stock') (outputs stock') starts' bytes' in
          let z : first (terms_at (inputs stock') (take (2 * t - 2 * f) (drop (2 * f) bytes)) 0) ≡ (tabled (inputs stock) (inputs stock') starts bytes).rhs (c / 128) a = lent_term bytes f t rhs_ordered rhs_inside (inputs stock') T.first.layout.few_states rhs_low rhs_whole ∙ rw (rhs_from, rhs_to) in
          ap (λ u. spelt (paired (run N u (c % 128)))) (sym z)

  -- ---- the initial term
  module _ {f t : ℕ} (g : f ≡ get_or starts 0 0) (h : t ≡ get_or starts 1 0) where
    pub initial_ordered : f ≤ t
    initial_ordered = rw (g, h) (T.first.layout.bounds.ordered 0 (omega arith))

    pub initial_inside : 2 * t ≤ length bytes
    initial_inside = rw h (T.first.layout.bounds.inside 1 (omega arith))

    initial_few : t ≤ f + 64
    initial_few = rw (g, h) (T.first.layout.few 0 (omega arith))

    initial_whole : Whole (mark_of (inputs stock') T.first.states 1) (part bytes f t)
    unfolding body
    initial_whole = rw (g, h) T.first.layout.wholes.initial

    pub initial_body : IsBody (inputs stock') (take (2 * t - 2 * f) (drop (2 * f) bytes))
    initial_body = lent_body bytes f t initial_ordered initial_inside (inputs stock') T.first.layout.few_states (omega arith) initial_few initial_whole

    initial_one : count (terms_at (inputs stock') (take (2 * t - 2 * f) (drop (2 * f) bytes)) 0) ≡ 1
    initial_one = initial_body.whole.one

    module _ {f' t' : ℕ} (g' : f' ≡ get_or starts' 0 0) (h' : t' ≡ get_or starts' 1 0) where
      second_inside : 2 * t' ≤ length bytes'
      second_inside = rw h' (T.second.layout.bounds.inside 1 (omega arith))

      pub initial_walk : {ends : List ℕ} → Ended (inputs stock') (take (2 * t - 2 * f) (drop (2 * f) bytes)) ends → Walkable stock' starts' bytes' (take (2 * t - 2 * f) (drop (2 * f) bytes)) ends f' t' 0
      initial_walk E = record {
        alphabets = T.alphabets';
        table = T.second;
        ended = E;
        ordered = rw (g', h') (T.second.layout.bounds.ordered 0 (omega arith));
        inside = second_inside;
        callable = λ j u v w.
            let inside = pairs_length bytes' t' second_inside in
            let d = getD_slice f' t' (j - f') (pairs bytes') inside (omega (arith, length-slice f' t' (pairs bytes') inside)) in
            let z : f' + (j - f') ≡ j = omega arith in
            let C : (j : ℕ) → j < length (part bytes' f' t') → Callable T.second.states 1 (get_or (part bytes' f' t') j (0, 0)) = rw (g', h') (initial_read T.second).1.callable in
            let m = (rw (d.1, z) at (C (j - f') (omega (arith, length-slice f' t' (pairs bytes') inside)))) w in
            (omega (arith, m.0, initial_one), m.1);
      }

      pub initial_letters : spelt (product stock stock' starts bytes starts' bytes').initial ≡ walked stock' starts' bytes' (take (2 * t - 2 * f) (drop (2 * f) bytes)) 0 f' t'
      unfolding product coded compose walked answered transducer body renamed mapT
      initial_letters =
          let M = tabled (inputs stock) (inputs stock') starts bytes in
          let N = tabled (inputs stock') (outputs stock') starts' bytes' in
          let F = terms_at (inputs stock') (take (2 * t - 2 * f) (drop (2 * f) bytes)) 0 in
          let R = initial_read T.second in
          let z : first F ≡ M.initial = lent_term bytes f t initial_ordered initial_inside (inputs stock') T.first.layout.few_states (omega arith) initial_whole ∙ rw (g, h) in
          bind_letters N.initial (λ e. run N M.initial e.1)
          ∙ R.0.spelled (λ e. spelt (paired (run N M.initial e.1)))
          ∙ spell_same (λ i q. spelt (paired (run N M.initial q))) (λ i q. spelt (paired (pick (runs N F) i q))) T.second.states 1 _ R.1.callable
          (λ i q l m o. ap (λ u. spelt (paired (run N u q))) (sym z) ∙ sym (ap (λ u. spelt (paired u)) (pick_one N F i q l m (omega (arith, initial_one)))))
          ∙ rw (g', h')
