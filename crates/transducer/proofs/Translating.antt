-- From the parts of a file to what the translation asks, and to what it answers.
-- Assumes nothing.
use Rattle.std.specs.Prelude.{Err, None, Ok, Option, Result}
use Rattle.trees.specs.declared.refusal.Refusal.{Refusal}
use Rattle.trees.specs.Refusal.{outcome_of, done as no_more, check, IsJudged, Judged, Holds}
use Prim.Native.Nat.{ℕ, suc, ◌+◌, ◌-◌, ◌*◌, ◌/◌, ◌%◌, ◌≤◌, ◌<◌}
use native.Mathlib.Nat.{zero-add}
use native.Mathlib.Omega.{arith}
use mathlib.Core.List.{List}
use mathlib.Core.Logic.{inl, inr}
use mathlib.Core.Path.{◌≡◌, refl, sym, ap, ap₂, ◌∙◌}
use lib.ListN.{length, get_or}
use lib.Seq.{sets, slice, length-slice}
use Rattle.theory.specs.Size.{size, levels}
use Rattle.theory.specs.Term.{Tree}
use Rattle.theory.specs.Transducer.{translate}
use Rattle.trees.specs.Alphabets.{inputs, outputs}
use Rattle.trees.specs.Code.{code}
use Rattle.trees.specs.Inner.Symbols.{trees, tree, IsTree}
use Rattle.formats.specs.Inner.Layout.{pairs, mark_at, mark_of, offset, body, body_number, body_count, transducer, Right, Starts, Wholes}
use Rattle.trees.specs.Inner.Decode.{Whole}
use Rattle.trees.specs.Inner.Measured.{WholeTree, MeasuredAll}
use Rattle.trees.specs.Tree.{InputTree, tree_check}
use Rattle.trees.specs.declared.refusal.Refusal.TheVariants.{BadTree}
use Rattle.trees.specs.declared.tree.Extent.{Extent}
use Rattle.trees.specs.Inner.Measured.{some_extent}
use Rattle.formats.proofs.Counts.{few_bodies, in_bounds}
use Rattle.trees.proofs.Judging.{refuse, pass, accept}
use Rattle.formats.proofs.Lines.{row_of}
use Rattle.formats.proofs.Offsets.{offset_most, offset_next}
use Rattle.formats.proofs.Pairs.{pairs_length, pairs_at, getD_slice}
use Rattle.formats.proofs.Sheets.{counted_right, encodes_counted, encodes_wholes, wholes_encodes}
use Rattle.trees.proofs.Trees.{whole_input, measured_none}
use Rattle.transducer.specs.Answers.{room_check, levels_check, Translates}
use Rattle.transducer.specs.Output.{Output}
use Rattle.transducer.specs.Inner.Machine.{Machine, OutputBy, TranslatesBy}
use Rattle.transducer.specs.Inner.Written.{walked, walked_levels, hop, Callable, Input, Walkable, Depths, Emitted}
use Rattle.transducer.specs.Inner.Depth.{Known, BodiesIn, DepthsAt}
use Rattle.transducer.proofs.Meaning.{Bodies, body_read, table, translate_walked}
use Rattle.transducer.proofs.OutputLevels.{levels_walked}
use Rattle.transducer.proofs.Opening.{Opened, opened_sheet}
use Rattle.transducer.proofs.Outputs.{output_unique, from_parts, to_parts, code_size}

-- ---- the initial term over the whole input tree
module _ {ins outs : List ℕ} {n : ℕ} {counts bytes : List ℕ} (starts : List ℕ) (R : Right ins n counts bytes) (W : Wholes ins outs n (offset counts) bytes) (S : Starts counts starts (body_count ins n)) (long : length starts ≡ 2050) where
  pub bodies : Bodies ins outs n counts bytes
  bodies = record { wholes = W; inside = omega (arith, R.sums.all); states = R.states; few = λ j h. omega (arith, R.sums.each j h, offset_next counts j (omega (arith, R.long))) }

  callable_initial : (j : ℕ) → j < offset counts 1 → Callable n 1 (mark_at bytes j)
  unfolding body offset
  callable_initial j h =
      let t = offset counts 1 in
      let inside = pairs_length bytes t (omega (arith, R.sums.all, offset_most counts 1 (body_count ins n) (omega arith))) in
      let less : j < length (slice 0 t (pairs bytes)) = omega (arith, length-slice 0 t (pairs bytes) inside) in
      let d = getD_slice 0 t j (pairs bytes) inside less in
      let c : Callable n 1 (get_or (slice 0 t (pairs bytes)) j (0, 0)) = (body_read outs n 1 (body (offset counts) bytes 0) W.initial).callable j less in
      rw (← zero-add j, ← d.1) c

  -- it can be walked, and gives the code of the translation
  pub walkable : (s ends : List ℕ) (to left : ℕ) → to ≡ get_or starts 1 0 → IsTree ins s → levels (tree ins s) ≤ left → Input ins s ends → length ends ≡ 4096 → Walkable ins starts bytes s ends 0 to 0 left
  unfolding body trees offset table hop
  walkable s ends to left e T f I h =
      let L = in_bounds starts R S long in
      let y = S 1 (omega arith) in
      record {
        table = table ins outs n counts bytes starts bodies L.long S;
        input = I;
        ordered = omega arith;
        inside = omega (arith, L.inside 1 (omega arith));
        callable = λ j h k. rw T.one (callable_initial j (omega arith));
        few_levels_lem = λ j h k i.
            let c = rw (pairs_at bytes j (omega (arith, L.inside 1 (omega arith)))) at (callable_initial j (omega arith)) in
            let z : get_or bytes (2 * j) 0 - 1 ≡ 0 = omega (arith, (c i).0) in
            rw z f;
        all_starts = long;
        all_ends = h;
      }

  pub gives : (s : List ℕ) (to : ℕ) → to ≡ get_or starts 1 0 → IsTree ins s → walked ins starts bytes s 0 0 to ≡ code (translate (transducer ins outs n (offset counts) bytes) (tree ins s))
  unfolding offset
  gives s to e T = sym (translate_walked ins outs n counts bytes starts bodies (in_bounds starts R S long).long S s T ∙ ap₂ (walked ins starts bytes s 0) (S 0 (omega arith)) (sym e))

  pub gives_levels : (s : List ℕ) (to : ℕ) → to ≡ get_or starts 1 0 → IsTree ins s → (depths : List ℕ) → ((j : ℕ) → j < body_count ins n → DepthsAt outs starts bytes depths j) → walked_levels ins starts bytes depths s 0 0 to ≡ levels (translate (transducer ins outs n (offset counts) bytes) (tree ins s))
  unfolding offset
  gives_levels s to e T depths D = sym (levels_walked ins outs n counts bytes starts bodies (in_bounds starts R S long).long S s T depths D ∙ ap₂ (walked_levels ins starts bytes depths s 0) (S 0 (omega arith)) (sym e))

  -- the symbols of a body have ranks
  ranked_in : (r b : ℕ) → b < body_count ins n → Whole (mark_of outs n r) (body (offset counts) bytes b) → Known outs bytes (get_or starts b 0) (get_or starts (b + 1) 0)
  unfolding body
  ranked_in r b l whole j f t z =
      let u = offset counts b in
      let v = offset counts (b + 1) in
      let most : 2 * v ≤ length bytes = omega (arith, R.sums.all, offset_most counts (b + 1) (body_count ins n) (omega arith)) in
      let inside = pairs_length bytes v most in
      let x = S b (omega arith) in
      let y = S (b + 1) (omega arith) in
      let less : j - u < length (slice u v (pairs bytes)) = omega (arith, length-slice u v (pairs bytes) inside) in
      let d = getD_slice u v (j - u) (pairs bytes) inside less in
      let e : u + (j - u) ≡ j = omega arith in
      let m : get_or (slice u v (pairs bytes)) (j - u) (0, 0) ≡ (get_or bytes (2 * j) 0, get_or bytes (2 * j + 1) 0) = d.1 ∙ ap (mark_at bytes) e ∙ pairs_at bytes j (omega arith) in
      let B = body_read outs n r (slice u v (pairs bytes)) whole in
      let c = rw m at (B.ranked (j - u) less) in
      c z

  ranked_all : (b : ℕ) → b < body_count ins n → Known outs bytes (get_or starts b 0) (get_or starts (b + 1) 0)
  ranked_all ℕ.zero h = ranked_in 1 0 h W.initial
  ranked_all (suc b) h =
      let (q, a, e) = row_of n (length ins) b (omega arith) in
      let z : body_number ins (b / length ins) (b % length ins) ≡ suc b = omega (arith, e) in
      ranked_in (get_or ins (b % length ins) 0) (suc b) h (rw z at (W.rhs (b / length ins) (b % length ins) q a))

  -- its bodies lie in the table
  pub bodies_in : BodiesIn outs starts (body_count ins n) bytes
  bodies_in =
      let L = in_bounds starts R S long in
      let B = bodies in
      record {
        long = L.long;
        all_starts = long;
        ordered = L.ordered;
        few = λ j h. rw (S j (omega arith), S (j + 1) (omega arith)) (B.few j h);
        inside = L.inside;
        few_marks = omega (arith, R.sums.all, R.sums.few);
        known = ranked_all;
      }

-- ---- the parts of a file; ins are the ranks in the stock
module _ {stock : List ℕ} {n : ℕ} {counts bytes : List ℕ} (X : Machine stock n counts bytes) where
  pub machine_right : Right (inputs stock) n counts bytes
  machine_right = counted_right (inputs stock) n counts bytes X.alphabets.ins.few (encodes_counted (inputs stock) (outputs stock) n counts bytes X.machine X.encodes)

  machine_wholes : Wholes (inputs stock) (outputs stock) n (offset counts) bytes
  machine_wholes = encodes_wholes (inputs stock) (outputs stock) n counts bytes X.machine X.encodes

  -- what it takes to find the starts of the bodies
  pub starts_fit : {ins : List ℕ} → ins ≡ inputs stock → (2 * body_count ins n ≤ length counts) × (body_count ins n < 2050) × (offset counts (body_count ins n) < 65536)
  starts_fit e = let R = machine_right in rw e (omega (arith, R.long), few_bodies R, omega (arith, R.sums.few))

  pub depths_fit : {depths : List ℕ} → length depths ≡ 8192 → Depths bytes depths
  depths_fit h = let R = machine_right in record { few_marks = omega (arith, R.sums.all, R.sums.few); all_depths = h }

  -- the output, by the transducer that is read from the parts
  pub output_read : (s : List ℕ) → WholeTree (inputs stock) s → OutputBy stock n counts bytes s (translate (transducer (inputs stock) (outputs stock) n (offset counts) bytes) (tree (inputs stock) s))
  output_read s T = record { machine = transducer (inputs stock) (outputs stock) n (offset counts) bytes; input = tree (inputs stock) s; encodes = wholes_encodes (inputs stock) (outputs stock) n counts bytes machine_right machine_wholes; is_tree = whole_input T; given = refl }

  module _ {ins : List ℕ} (e : ins ≡ inputs stock) {s : List ℕ} {r : Option Extent} (M : MeasuredAll ins s r) where
    pub not_tree : {before : List ℕ} → r ≡ None → TranslatesBy stock n counts bytes s before before (Err BadTree)
    not_tree q = refuse (measured_none (rw e at M) q) refl

    module _ {d l : ℕ} (q : r ≡ some_extent d l) where
      pub read_whole : WholeTree (inputs stock) s
      read_whole = rw e at (M.whole d l q).0

      module _ (starts : List ℕ) (S : Starts counts starts (body_count ins n)) (long : length starts ≡ 2050) (to : ℕ) (f : to ≡ get_or starts 1 0) where
        pub can_walk : {ends : List ℕ} → Input ins s ends → length ends ≡ 4096 → Walkable ins starts bytes s ends 0 to 0 l
        can_walk {ends} I h = rw e (walkable starts machine_right machine_wholes (rw e at S) long s ends to l f read_whole.one (omega (arith, rw e at (M.whole d l q).2)) (rw e at I) h)

        -- the depths of its marks can be noted
        pub bodies_there : {outs : List ℕ} → outs ≡ outputs stock → BodiesIn outs starts (body_count ins n) bytes
        bodies_there o = rw (o, e) (bodies_in starts machine_right machine_wholes (rw e at S) long)

        given_code : walked ins starts bytes s 0 0 to ≡ code (translate (transducer (inputs stock) (outputs stock) n (offset counts) bytes) (tree (inputs stock) s))
        given_code = ap (λ i. walked i starts bytes s 0 0 to) e ∙ gives starts machine_right machine_wholes (rw e at S) long s to f read_whole.one

        given_levels : (depths : List ℕ) → ((j : ℕ) → j < body_count ins n → DepthsAt (outputs stock) starts bytes depths j) → walked_levels ins starts bytes depths s 0 0 to ≡ levels (translate (transducer (inputs stock) (outputs stock) n (offset counts) bytes) (tree (inputs stock) s))
        given_levels depths D = ap (λ i. walked_levels i starts bytes depths s 0 0 to) e ∙ gives_levels starts machine_right machine_wholes (rw e at S) long s to f read_whole.one depths (rw e at D)

        -- what is answered of what was written is answered of the parts
        module _ {outs : List ℕ} (o : outs ≡ outputs stock) (depths : List ℕ) (D : (j : ℕ) → j < body_count ins n → DepthsAt outs starts bytes depths j) where
          output_levels : walked_levels ins starts bytes depths s 0 0 to ≡ levels (translate (transducer (inputs stock) (outputs stock) n (offset counts) bytes) (tree (inputs stock) s))
          output_levels = given_levels depths (rw o at D)

          tree_there : (d : Tree) × InputTree (inputs stock) s d
          tree_there = (tree (inputs stock) s, whole_input read_whole)

          output_long : length (walked ins starts bytes s 0 0 to) ≡ size (translate (transducer (inputs stock) (outputs stock) n (offset counts) bytes) (tree (inputs stock) s))
          output_long = ap length given_code ∙ code_size _

          pub parts_translate : {before after : List ℕ} (x : Result ℕ Refusal) → Emitted (walked ins starts bytes s 0 0 to) (walked_levels ins starts bytes depths s 0 0 to) before after x → TranslatesBy stock n counts bytes s before after x
          unfolding IsJudged
          parts_translate {before} {after} x J = go x J.verdict
            where
              O : OutputBy stock n counts bytes s (translate (transducer (inputs stock) (outputs stock) n (offset counts) bytes) (tree (inputs stock) s))
              O = output_read s read_whole

              go : (x : Result ℕ Refusal) → IsJudged (after ≡ before) (λ k. (k ≡ length (walked ins starts bytes s 0 0 to)) × (after ≡ sets before 0 (walked ins starts bytes s 0 0 to))) (check 6 (length (walked ins starts bytes s 0 0 to) ≤ length before) (check 10 (walked_levels ins starts bytes depths s 0 0 to ≤ 256) no_more)) (outcome_of x) → TranslatesBy stock n counts bytes s before after x
              go x (inl (h, q, kept)) = rw q (pass tree_there (refuse (λ w. h (omega (arith, output_long, w.1.1, ap size (output_unique w.1.0 O)))) kept))
              go x (inr (R, inl (h, q, kept))) = rw q (pass tree_there (pass (_, (O, omega (arith, output_long, R))) (refuse (λ w. h (omega (arith, output_levels, w.1.1, ap levels (output_unique w.1.0 O)))) kept)))
              go (Ok k) (inr (R, inr (L, (e, a)))) = pass tree_there (pass (_, (O, omega (arith, output_long, R))) (pass (_, (O, omega (arith, output_levels, L))) (accept (_, (O, e ∙ output_long, a ∙ ap (sets before 0) given_code)))))
              go (Err y) (inr (R, inr (L, u))) = absurd u

-- ---- the file: what is answered of its parts is answered of it
module _ {stock sheet ins counts bytes design : List ℕ} {n : ℕ} (O : Opened stock sheet n ins counts bytes) where
  pub file_translates : {before after : List ℕ} (r : Result ℕ Refusal) → TranslatesBy stock n counts bytes design before after r → Translates stock sheet design before after r
  unfolding IsJudged Holds
  file_translates {before} {after} r J = go r J.verdict
    where
      start : (r : Result ℕ Refusal) → Judged (after ≡ before) (λ k. (t : Tree) × (Output stock sheet design t × (k ≡ size t) × (after ≡ sets before 0 (code t)))) (tree_check stock design (room_check stock sheet design before (levels_check stock sheet design no_more))) (outcome_of r) → Translates stock sheet design before after r
      start r j = let w = O.holds in pass w.0 (pass w.1.0 (pass w.1.1.0 j))

      room : ((t : Tree) × (OutputBy stock n counts bytes design t × (size t ≤ length before))) → (t : Tree) × (Output stock sheet design t × (size t ≤ length before))
      room (t, (P, l)) = (t, (from_parts (opened_sheet O) P, l))

      go : (r : Result ℕ Refusal) → IsJudged (after ≡ before) (λ k. (t : Tree) × (OutputBy stock n counts bytes design t × (k ≡ size t) × (after ≡ sets before 0 (code t)))) (tree_check stock design (check 6 ((t : Tree) × (OutputBy stock n counts bytes design t × (size t ≤ length before))) (check 10 ((t : Tree) × (OutputBy stock n counts bytes design t × (levels t ≤ 256))) no_more))) (outcome_of r) → Translates stock sheet design before after r
      go r (inl (h, q, kept)) = start r (rw q (refuse h kept))
      go r (inr (T, inl (h, q, kept))) = start r (rw q (pass T (refuse (λ w. h (w.0, (to_parts (opened_sheet O) w.1.0, w.1.1))) kept)))
      go r (inr (T, inr (R, inl (h, q, kept)))) = start r (rw q (pass T (pass (room R) (refuse (λ w. h (w.0, (to_parts (opened_sheet O) w.1.0, w.1.1))) kept))))
      go (Ok k) (inr (T, inr (R, inr (L, (t, (P, z, a)))))) = start (Ok k) (pass T (pass (room R) (pass (L.0, (from_parts (opened_sheet O) L.1.0, L.1.1)) (accept (t, (from_parts (opened_sheet O) P, z, a))))))
      go (Err x) (inr (T, inr (R, inr (L, u)))) = absurd u
