-- From what shows a clash along the list of pairs to a difference of the two transducers: the symbols at the address, and the bounds of the tree.
-- Assumes nothing.
use Prim.Native.Nat.{ℕ, suc, ◌+◌, ◌-◌, ◌*◌, ◌≤◌, ◌<◌}
use native.Mathlib.Omega.{arith}
use mathlib.Core.List.{List, [], ◌∷◌, ◌++◌, append-nil}
use mathlib.Core.Option.{some}
use mathlib.Core.Path.{◌≡◌, refl, sym, ap, ◌∙◌, subst}
use lib.ListN.{length, get_or, take, drop, length-replicate, length-drop, drop_of_length-le}
use lib.Seq.{sets, slice, length-slice, take_all}
use Rattle.theory.specs.Grammar.{Grammar, Allowed}
use Rattle.theory.specs.Inner.Leaves.{put}
use Rattle.theory.specs.Inner.Slim.{Slim}
use Rattle.theory.specs.Size.{size, levels}
use Rattle.theory.specs.Term.{Term, Tree, none, more, bind, symbol_at, root}
use Rattle.theory.specs.Transducer.{Transducer, translate, output}
use Rattle.theory.specs.Vars.{AllVars}
use Rattle.theory.specs.Wf.{Wf, Fits}
use Rattle.theory.proofs.Along.{Along, here, along_bind, along_end, along_sub}
use Rattle.theory.proofs.Clash.{Shown}
use Rattle.theory.proofs.Leaves.{call_put}
use Rattle.theory.proofs.Runs.{fill, output_node, translate_fill}
use Rattle.theory.proofs.Slim.{slim_size}
use Rattle.theory.proofs.Terms.{root_some}
use Rattle.theory.proofs.Vars.{all_one}
use Rattle.theory.proofs.Witness.{only_child, witness_differs, witness_levels, witness_slim}
use Rattle.trees.specs.Alphabets.{Ranks, Leaf}
use Rattle.trees.specs.Code.{Ranked, Call}
use Rattle.formats.specs.Inner.Marked.{part}
use Rattle.formats.proofs.Sheets.{transducer_over}
use Rattle.transducer.proofs.Outputs.{code_size}
use Rattle.forms.specs.Alphabet.{alphabet, children_inside}
use Rattle.forms.specs.Inner.Tables.{machine, Layout}
use Rattle.forms.proofs.Slices.{slice_from}
use Rattle.forms.proofs.Files.{machine_wf}
use Rattle.earliest.specs.Inner.Places.{place}
use Rattle.classes.specs.Inner.Classes.{at}
use Rattle.canonical.proofs.Alike.{allowed_ranked}
use Rattle.witness.specs.Difference.{address_area, Difference}
use Rattle.witness.specs.Inner.Bottoms.{BottomFound, RootAsked, RootFound, Stands, Leading, Roomy, StatesBelow, LedTo, TracesBack, Traces}
use Rattle.pairs.specs.declared.pairs.Pair.{Pair}
use Rattle.pairs.specs.declared.pairs.Side.{Side}
use Rattle.pairs.specs.declared.pairs.Side.TheVariants.{Left, Right}
use Rattle.pairs.specs.Inner.Pairs.{Sides, sides, ClashesAt, Clashes, pair_state, pair_left, pair_right, pair_parent, pair_symbol, pair_mark, pair_child, left_body, right_body, Linked}
use Rattle.witness.specs.Inner.Paths.{term_of, left_term, right_term, sorts_for, pair_place, tree_for, Path, path_end, path_on}
use Rattle.witness.specs.Inner.Shown.{steps_tree, AddressAsked, EndsBefore, AddressWritten}
use Rattle.witness.specs.Inner.Forms.{Comparable, Shows}
use Rattle.witness.proofs.Bottoms.{RootsAre, Small, along_ended, Ends, Separates, separates}
use Rattle.witness.proofs.Firsts.{allowed_here}
use Rattle.witness.proofs.Linking.{agree_along, pair_along, top_child, Holds, shown_holds, path_witnessed}
use Rattle.witness.proofs.WayBack.{mark_small, mark_inside, mark_state, mark_child, SideThere, side_there, left_address_asked, left_address, ends_before}
use Rattle.pairs.proofs.Stepping.{byte_mark, symbols_differ, children_differ}

-- what parent q gives on d, on one side: the translation, or the output of a state of a pair
unfoldable pub out_of : Transducer ℕ → List Pair → Side → ℕ → Tree → Tree
out_of M P side ℕ.zero d = translate M d
out_of M P side (suc p) d = output M d (pair_state P side p)

-- ---- what parent q gives on the tree that it reads is its term, filled
module _ {G : Grammar} {M : Transducer ℕ} {Valid : ℕ → Type 0} (W : Wf G M Valid) (ins : List ℕ) (P : List Pair) where
  out_fill : (side : Side) (q a c : ℕ) (d : Tree) → (q ≡ 0 → put G (0 ∷ []) c d ≡ more d none) → out_of M P side q (tree_for G ins q a c d) ≡ fill M (put G (sorts_for ins q a) c d) (term_of M P side q a)
  unfolding out_of tree_for sorts_for term_of
  out_fill side ℕ.zero a c d alone = translate_fill M W d ∙ ap (λ ds. fill M ds M.initial) (sym (alone refl))
  out_fill side (suc p) a c d alone = output_node M (pair_state P side p) a _

-- ---- the terms of a parent call on children of its sorts, and are ranked
module _ {ins outs starts bytes : List ℕ} {n : ℕ} (L : Layout ins outs starts bytes n) (P : List Pair) where
  term_vars : (l : Leaf ins) (side : Side) (q a : ℕ) → StatesBelow P side q n → (0 < q → a < length ins) → AllVars (Fits (machine ins outs starts bytes n) (λ x. x < n) (sorts_for ins q a)) (term_of (machine ins outs starts bytes n) P side q a)
  unfolding term_of sorts_for
  term_vars l side ℕ.zero a b g = (machine_wf l L.wholes).initial
  term_vars l side (suc p) a b g = (machine_wf l L.wholes).rhs (pair_state P side p) a (b p (omega arith)) (allowed_here L l (pair_state P side p) (g (omega arith)))

  term_ranked : (side : Side) (q a : ℕ) → StatesBelow P side q n → (0 < q → a < length ins) → (r : ℕ) × Ranked (Call n r) outs (term_of (machine ins outs starts bytes n) P side q a)
  unfolding term_of
  term_ranked side ℕ.zero a b g = (1, (transducer_over ins outs n (at starts) bytes L.wholes).initial)
  term_ranked side (suc p) a b g = (get_or ins a 0, (transducer_over ins outs n (at starts) bytes L.wholes).rhs (pair_state P side p) a (b p (omega arith)) (g (omega arith)))

-- symbols have at most four children
children_few : {ins : List ℕ} → Ranks 16 ins → (l : Leaf ins) (s a : ℕ) (sorts : List ℕ) → (alphabet ins l).children s a ≡ some sorts → length sorts ≤ 4
unfolding alphabet
children_few {ins} R l s a sorts e = let c = children_inside ins a e in omega (arith, R.low a c.0, ap length c.1, length-replicate {A = ℕ} (get_or ins a 0) 0)

-- the symbols at an address
roots_symbols : {outs : List ℕ} {b b' : ℕ} {T U : Tree} {v : List ℕ} → Along (RootsAre outs b b') T U v → (symbol_at T v ≡ some (b, get_or outs b 0)) × (symbol_at U v ≡ some (b', get_or outs b' 0))
unfolding symbol_at
roots_symbols m =
    let x = along_sub m in
    (ap root x.left_there ∙ root_some x.left ∙ ap some x.holds.left, ap root x.right_there ∙ root_some x.right ∙ ap some x.holds.right)

no_sorts : (ins : List ℕ) (q a : ℕ) → q ≡ 0 → sorts_for ins q a ≡ 0 ∷ []
unfolding sorts_for
no_sorts ins ℕ.zero a e = refl
no_sorts ins (suc p) a e = absurd (omega arith)

module _ (S : Sides) (n n' : ℕ) (outs : List ℕ) (l : Leaf S.ins) (L : Layout S.ins outs S.starts S.bytes n) (L' : Layout S.ins outs S.starts' S.bytes' n') (P : List Pair) (count : ℕ) (linked : (p : ℕ) → p < count → Linked S n n' P p) where
  abbrev G : Grammar
  G = alphabet S.ins l

  abbrev M : Transducer ℕ
  M = machine S.ins outs S.starts S.bytes n

  abbrev M' : Transducer ℕ
  M' = machine S.ins outs S.starts' S.bytes' n'

  wf : Wf G M (λ q. q < n)
  wf = machine_wf l L.wholes

  wf' : Wf G M' (λ q. q < n')
  wf' = machine_wf l L'.wholes

  lefts_below : (q : ℕ) → q ≤ count → StatesBelow P Left q n
  lefts_below q h p i = (linked p (omega arith)).left

  rights_below : (q : ℕ) → q ≤ count → StatesBelow P Right q n'
  rights_below q h p i = (linked p (omega arith)).right

  -- ---- the symbols, from a pair up to the initial terms
  module _ (b b' : ℕ) where
    -- parent q gives the two symbols on d at address v
    abbrev Gives : ℕ → Tree → List ℕ → Type 0
    Gives q d v = Along (RootsAre outs b b') (out_of M P Left q d) (out_of M' P Right q d) v

    gives_up : (p : ℕ) → p < count → (d : Tree) {v : List ℕ} → Gives (suc p) d v → Gives (pair_parent P p) (tree_for G S.ins (pair_parent P p) (pair_symbol P p) (pair_child P p) d) (pair_place M P p ++ v)
    unfolding bind put out_of
    gives_up p h d {v} w =
        let q = pair_parent P p in
        let a = pair_symbol P p in
        let c = pair_child P p in
        let K = linked p h in
        let m = pair_along S n n' outs l L L' P count linked p h in
        let e = along_end m (term_vars L P l Left q a (lefts_below q (omega (arith, K.parent))) K.symbol) (term_vars L' P l Right q a (rights_below q (omega (arith, K.parent))) K.symbol) in
        let f : Fits M (λ x. x < n) (sorts_for S.ins q a) (c, pair_left P p) = all_one (rw e.holds.0 at e.left_vars) in
        let f' : Fits M' (λ x. x < n') (sorts_for S.ins q a) (c, pair_right P p) = all_one (rw e.holds.1 at e.right_vars) in
        let alone : q ≡ 0 → put G (0 ∷ []) c d ≡ more d none = λ z. ap (λ i. put G (0 ∷ []) i d) (top_child S n n' outs l L L' P count linked p h z) in
        rw (out_fill wf S.ins P Left q a c d alone, out_fill wf' S.ins P Right q a c d alone)
        (along_bind _ _ (λ t u r. rw (r.0, r.1, call_put G d M (sorts_for S.ins q a) c (pair_left P p) f.sort, call_put G d M' (sorts_for S.ins q a) c (pair_right P p) f'.sort) w) m)

    path_gives : {q : ℕ} {d T : Tree} {v U : List ℕ} → Path G S.ins M P q d v T U → q ≤ count → Gives q d v → Gives 0 T U
    path_gives path_end h w = w
    path_gives (path_on {p} {d} r) h w = path_gives r (omega (arith, (linked p (omega arith)).parent)) (gives_up p (omega arith) d w)

  -- ---- the clash
  module _ (q a m : ℕ) (low : q ≤ count) (known : 0 < q → a < length S.ins) (C : ClashesAt S (left_body S.ins P q a) (right_body S.ins P q a) m) where
    left_ranked : (r : ℕ) × Ranked (Call n r) outs (left_term M P q a)
    left_ranked = term_ranked L P Left q a (lefts_below q low) known

    right_ranked : (r : ℕ) × Ranked (Call n' r) outs (right_term M' P q a)
    right_ranked = term_ranked L' P Right q a (rights_below q low) known

    abbrev mark : ℕ × ℕ
    mark = byte_mark S.bytes (at S.starts (left_body S.ins P q a) + m)

    abbrev mark' : ℕ × ℕ
    mark' = byte_mark S.bytes' (at S.starts' (right_body S.ins P q a) + m)

    abbrev spot : List ℕ
    spot = place (left_term M P q a) m

    clash_ended : Along (Ends L L' l (sorts_for S.ins q a) mark mark' (Call n left_ranked.0) (Call n' right_ranked.0)) (left_term M P q a) (right_term M' P q a) spot
    clash_ended = along_ended outs (agree_along S n n' outs l L L' P count linked q a m low known C.agree) left_ranked.1 right_ranked.1 (term_vars L P l Left q a (lefts_below q low) known) (term_vars L' P l Right q a (rights_below q low) known)

    module _ {e : ℕ} (leaf : l.symbol ≡ e) {steps : List ℕ} {child step_count b b' : ℕ} (B : BottomFound S.ins S.starts S.bytes S.starts' S.bytes' e mark.0 mark.1 mark'.0 mark'.1 steps child step_count b b') where
      abbrev below : Tree
      below = steps_tree S.ins l (part steps 0 step_count)

      clash_separates : (t u : Term (ℕ × ℕ)) → Ends L L' l (sorts_for S.ins q a) mark mark' (Call n left_ranked.0) (Call n' right_ranked.0) t u → Separates L L' l (sorts_for S.ins q a) child below b b' t u
      clash_separates t u E = separates L L' l (sorts_for S.ins q a) leaf mark.0 mark.1 mark'.0 mark'.1 E (λ z z'. symbols_differ C.clash (sym z) (sym z')) (children_differ C.clash) B

      clash_alone : q ≡ 0 → put G (0 ∷ []) child below ≡ more below none
      clash_alone z = let x = along_sub clash_ended in (clash_separates x.left x.right x.holds).alone (no_sorts S.ins q a z)

      clash_gives : Gives b b' q (tree_for G S.ins q a child below) spot
      clash_gives =
          rw (out_fill wf S.ins P Left q a child below clash_alone, out_fill wf' S.ins P Right q a child below clash_alone)
          (subst (Along (RootsAre outs b b') _ _) (append-nil spot) (along_bind _ _ (λ t u E. here (clash_separates t u E).roots) clash_ended))

      clash_shown : Shown G M M' Small (sorts_for S.ins q a) (left_term M P q a) (right_term M' P q a) spot
      clash_shown =
          let x = along_sub clash_ended in
          let s = clash_separates x.left x.right x.holds in
          record {
            spot = child;
            tree = below;
            small = s.small;
            allowed = s.allowed;
            unlike = subst (Along _ _ _) (append-nil spot) (along_bind _ _ (λ t u E. let r = (clash_separates t u E).roots in here (λ y. s.unlike (ap (λ (k : ℕ × ℕ). k.0) (sym r.left ∙ y ∙ r.right)))) clash_ended);
          }

      clash_holds : Holds S n n' outs l L L' P count linked Small q (tree_for G S.ins q a child below) spot below 0
      unfolding only_child clash_shown steps_tree
      clash_holds = shown_holds S n n' outs l L L' P count linked Small q a known clash_shown (λ z. ap only_child (clash_alone z))

      -- what shows the clash shows, where the list leads, a difference of the two transducers
      pub clash_difference : Ranks 16 S.ins → count ≤ 255 → {T : Tree} {U : List ℕ} → Path G S.ins M P q (tree_for G S.ins q a child below) spot T U → length U ≤ address_area → Difference S.ins outs M M' T U b b'
      unfolding out_of
      clash_difference R few {T} {U} r short =
          let W = path_witnessed S n n' outs l L L' P count linked Small r low clash_holds in
          let w = witness_differs wf wf' W.chain in
          let x = along_sub clash_ended in
          let s = clash_separates x.left x.right x.holds in
          let ok : Allowed G 0 T = rw W.tree at w.0 in
          let preorder : levels T ≤ 384 = omega (arith, ap levels W.tree, ap levels W.end, witness_levels W.chain, W.steps, s.small.1) in
          let thin : Slim T = rw W.tree at (witness_slim W.chain (rw W.end s.small.0)) in
          let o = roots_symbols (path_gives b b' r low clash_gives) in
          record {
            ranked = allowed_ranked l T ok;
            small = omega (arith, slim_size 4 (children_few R l) thin ok);
            few_levels_lem = preorder;
            short = short;
            left = o.0;
            right = o.1;
            unlike = s.unlike;
          }

-- ---- what inner functions ask and answer, from a clash to a shown difference
module _ {ins outs starts bytes : List ℕ} {n : ℕ} {starts' bytes' : List ℕ} {n' : ℕ} (C : Comparable ins outs starts bytes n starts' bytes' n') {P : List Pair} {q a m : ℕ} (K : Clashes (sides ins starts bytes starts' bytes') n n' P q a m) where
  lefts : StatesBelow P Left q n
  lefts p h = (K.linked p (omega (arith, K.parent))).left

  rights : StatesBelow P Right q n'
  rights p h = (K.linked p (omega (arith, K.parent))).right

  left : SideThere ins outs starts bytes n P Left q a
  left = side_there C.left P Left q a lefts K.known

  right : SideThere ins outs starts' bytes' n' P Right q a
  right = side_there C.right P Right q a rights K.known

  small : m ≤ 63
  small = mark_small C.left left.body m K.clash.agree.inside

  pub show_fits : (2 * (at starts (left_body ins P q a) + m) + 2 ≤ length bytes) × (2 * (at starts' (right_body ins P q a) + m) + 2 ≤ length bytes')
  show_fits = (mark_inside C.left left.body m K.clash.agree.inside, mark_inside C.right right.body m K.clash.agree.inside')

  module _ {e : ℕ} (leaf : e < length ins) {i j : ℕ} (f : i ≡ at starts (left_body ins P q a)) (g : j ≡ at starts' (right_body ins P q a)) where
    pub show_root : {buffer : List ℕ} → length buffer ≡ 3584 → RootAsked ins starts bytes n starts' bytes' n' e (i + m) (j + m) q a buffer
    show_root room =
        let A = K.clash.agree in
        rw (f, g) (record {
          outs = outs;
          forms = C;
          leaf = leaf;
          inside = show_fits.0;
          inside' = show_fits.1;
          state = mark_state C.left left.body m A.inside;
          state' = mark_state C.right right.body m A.inside';
          known = K.known;
          child = mark_child C.left left.body m A.inside;
          child' = mark_child C.right right.body m A.inside';
          room = room;
        })

  pub show_address_asked : {area : List ℕ} {i : ℕ} → i ≡ at starts (left_body ins P q a) → length area ≡ 16128 → AddressAsked outs bytes i m area 16128
  show_address_asked {area} {i} f h = left_address_asked C.left P q a m left K.clash.agree.inside area 16128 i f C.outs_ranks (omega (arith, small)) (omega arith)

  stands : (p : ℕ) → p < q → Stands ins starts n P p
  stands p h =
      let R = K.linked p (omega (arith, K.parent)) in
      let A = R.calls in
      let T = side_there C.left P Left (pair_parent P p) (pair_symbol P p) (λ o t. lefts o (omega (arith, R.parent))) R.symbol in
      record {
        left = R.left;
        parent = R.parent;
        symbol = R.symbol;
        child = λ o. rw (← A.left.child) (mark_child C.left T.body (pair_mark P p) A.agree.inside o);
        inside = A.agree.inside;
      }

  pub show_leading : {e : ℕ} → e < length ins → Leading ins outs starts bytes P e q
  show_leading leaf = record { states = n; layout = C.left; ins_ranks = C.ins_ranks; outs_ranks = C.outs_ranks; leaf = leaf; long = omega (arith, K.parent, K.few); stands = stands }

  module _ {e i j : ℕ} {buffer : List ℕ} {lo hi b b' : ℕ} (F : RootFound ins starts bytes starts' bytes' e (i + m) (j + m) q a buffer lo hi b b') {area₀ area : List ℕ} {w : ℕ} (Z : AddressWritten outs bytes i m area₀ 16128 area w) (long : length buffer ≡ 3584) (long₀ : length area₀ ≡ 16128) (same : length area ≡ length area₀) (f : i ≡ at starts (left_body ins P q a)) (g : j ≡ at starts' (right_body ins P q a)) where
    ends : EndsBefore (place (left_term (machine ins outs starts bytes n) P q a) m) area₀ 16128 area w
    ends = left_address C.left P q a m left K.clash.agree.inside f Z

    pub show_roomy : Roomy q buffer lo hi area w
    show_roomy = record { left = omega (arith, F.left, K.parent, K.few); ordered = F.ordered; right = omega (arith, F.right, K.parent, K.few); before = omega (arith, Z.near, small, K.parent, K.few); end = omega (arith, ends.long) }

    -- what stands at the end of the area
    address_here : drop w area ≡ place (left_term (machine ins outs starts bytes n) P q a) m
    address_here = ends_before ends (omega arith) ∙ ap (◌++◌ (place (left_term (machine ins outs starts bytes n) P q a) m)) (drop_of_length-le area₀ {i = 16128} (omega arith)) ∙ append-nil _

    -- a difference, with its tree and its address in the bytes
    module _ (leaf : e < length ins) (rank : get_or ins e 0 ≡ 0) {buffer' : List ℕ} {from to : ℕ} {area' : List ℕ} {at' : ℕ} (R : TracesBack ins outs starts bytes P e q buffer lo hi area w buffer' from to area' at') (long' : length buffer' ≡ length buffer) (same' : length area' ≡ length area) where
      abbrev l : Leaf ins
      l = record { symbol = e; there = leaf; rank = rank }

      led : LedTo ins outs starts bytes P n l q (tree_for (alphabet ins l) ins q a F.child (steps_tree ins l (part F.steps 0 F.count))) (place (left_term (machine ins outs starts bytes n) P q a) m) buffer' from to area' at'
      led = R.led n l C.left refl lefts _ _ (F.tree l refl, address_here)

      bottom : BottomFound ins starts bytes starts' bytes' e (get_or bytes (2 * (at starts (left_body ins P q a) + m)) 0) (get_or bytes (2 * (at starts (left_body ins P q a) + m) + 1) 0) (get_or bytes' (2 * (at starts' (right_body ins P q a) + m)) 0) (get_or bytes' (2 * (at starts' (right_body ins P q a) + m) + 1) 0) F.steps F.child F.count b b'
      bottom = rw (f, g) at F.bottom

      address_long : length led.address ≡ 16128 - at'
      address_long = ap length (sym led.stand.1) ∙ length-drop at' area' ∙ omega arith

      difference : Difference ins outs (machine ins outs starts bytes n) (machine ins outs starts' bytes' n') led.tree led.address b b'
      difference = clash_difference (sides ins starts bytes starts' bytes') n n' outs l C.left C.right P K.count K.linked q a m K.parent K.known K.clash refl bottom C.ins_ranks K.few led.path (omega (arith, address_long))

      pub traced : Traces ins outs (machine ins outs starts bytes n) (machine ins outs starts' bytes' n') buffer' from to area' at' b b'
      traced = record { tree = led.tree; address = led.address; difference = difference; ordered = R.ordered; inside = R.inside; end = R.end; stand = led.stand }

-- ---- the bytes that are handed out
module _ {ins outs : List ℕ} {M M' : Transducer ℕ} {buffer : List ℕ} {from to : ℕ} {area : List ℕ} {at' b b' : ℕ} (R : Traces ins outs M M' buffer from to area at' b b') where
  tree_long : to - from ≡ size R.tree
  tree_long = sym (length-slice from to buffer R.inside) ∙ ap length R.stand.0 ∙ code_size R.tree

  -- the tree fits its area
  pub show_nodes : to - from ≤ 1536
  show_nodes = omega (arith, tree_long, R.difference.small)

  tree_lent : take (to - from) (drop from buffer) ≡ slice from to buffer
  tree_lent =
      let k : from + (to - from) ≡ to = omega (arith, R.ordered) in
      sym (slice_from buffer from (to - from) (omega (arith, R.ordered, R.inside))) ∙ ap (λ t. slice from t buffer) k

  pub shown_all : length area ≡ 16128 → {tree tree' address address' : List ℕ} → tree' ≡ sets tree 0 (take (to - from) (drop from buffer)) → address' ≡ sets address 0 (take (16128 - at') (drop at' area)) → Shows ins outs M M' tree tree' address address' (to - from) (16128 - at') b b'
  shown_all long {tree} {tree'} {address} {address'} y z = record {
    shown = R.tree;
    place = R.address;
    written = record {
      nodes_are = tree_long;
      numbers_are = sym (ap length (sym R.stand.1) ∙ length-drop at' area ∙ omega arith);
      tree_wrote = y ∙ ap (sets tree 0) (tree_lent ∙ R.stand.0);
      address_wrote = z ∙ ap (sets address 0) (take_all (16128 - at') (drop at' area) (omega (arith, length-drop at' area)) ∙ R.stand.1);
    };
    difference = R.difference;
  }
