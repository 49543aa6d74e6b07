-- Laws of following an address through the output, which is never built.
-- Assumes nothing.
use Rattle.std.specs.Prelude.{Err, None, Ok, Option, Result, Some}
use Rattle.std.specs.Option.{is_some}
use Rattle.trees.specs.declared.refusal.Refusal.{Refusal}
use Rattle.trees.specs.Refusal.{outcome_of, accepted, Holds}
use Prim.Native.Nat.{ℕ, suc, ◌+◌, ◌-◌, ◌*◌, ◌≤◌, ◌<◌}
use native.Mathlib.Numerals.{add-one}
use native.Mathlib.Omega.{arith}
use mathlib.Core.Bool.{Bool, true, false}
use mathlib.Core.Option.{Option as MathOption, some, none as nothing}
use mathlib.Core.Path.{◌≡◌, refl, sym, ap, ap₂, ◌∙◌}
use mathlib.Core.List.{List, [], ◌∷◌}
use lib.Dec.{leb}
use lib.ListN.{length, get_or, drop, take, drop_of_length-le}
use lib.Seq.{drop-cons}
use borrow.Author.Tests.{leb-true}
use Rattle.theory.specs.Inner.Nodes.{child_at}
use Rattle.theory.specs.Term.{Symbol, Tree, Term, var, node, Terms, none, more, count, bind, binds, sub, subs, root, symbol_at}
use Rattle.theory.specs.Transducer.{Transducer, output, translate, run, pick}
use Rattle.theory.specs.Vars.{AllVars}
use Rattle.theory.proofs.Runs.{output_node, call_at, call as called-tree}
use Rattle.theory.proofs.Terms.{count_binds}
use Rattle.theory.proofs.Vars.{bind_ext, all_map}
use Rattle.trees.specs.Alphabets.{inputs, outputs}
use Rattle.trees.specs.Code.{Ranked, Mark, Call}
use Rattle.trees.specs.Inner.Decode.{Letter, call, symbol, unknown, firsts, rests, node_if, put, forest, first, Whole}
use Rattle.formats.specs.Inner.Layout.{mark_of, pairs, offset, body, body_number, body_count, transducer, Wholes, Starts}
use Rattle.trees.specs.Inner.Symbols.{trees, tree}
use Rattle.formats.specs.Inner.Marked.{part}
use Rattle.trees.specs.Inner.Measured.{some_extent, measured, MeasuredAll}
use Rattle.trees.specs.declared.refusal.Refusal.TheVariants.{BadTree}
use Rattle.trees.specs.declared.tree.Extent.{Extent}
use Rattle.trees.proofs.Forest.{first_tree, letters_pos, count_rests, count_firsts}
use Rattle.trees.proofs.Codes.{single}
use Rattle.trees.proofs.Extents.{seen, others_behind}
use Rattle.formats.proofs.Counts.{in_bounds, from_offsets}
use Rattle.trees.proofs.Judging.{refuse, pass, accept, better_answer}
use Rattle.formats.proofs.Letters.{call_made, symbol_made}
use Rattle.formats.proofs.Marks.{marks_length}
use Rattle.formats.proofs.Pairs.{number_less, part_cons}
use Rattle.formats.proofs.Sheets.{whole_ranked, encodes_wholes}
use Rattle.trees.proofs.Trees.{whole_input, measured_none}
use Rattle.transducer.specs.Inner.Machine.{Machine}
use Rattle.transducer.specs.Inner.Written.{Input, hop}
use Rattle.transducer.proofs.Opening.{Opened, opened_sheet}
use Rattle.transducer.proofs.Outputs.{ranked_vars, same_translate, from_parts}
use Rattle.transducer.proofs.Translating.{machine_right, output_read, read_whole}
use Rattle.transducer.proofs.Walks.{node_at, place, place_in}
use Rattle.queries.specs.Answers.{named, FindsSymbol}
use Rattle.queries.specs.Inner.Machine.{FindsBy}
use Rattle.queries.specs.Inner.Placed.{placed, Followed}

-- ---- names
-- the transducer that is read by the table of starts
abbrev pub by_table : List ℕ → List ℕ → ℕ → List ℕ → List ℕ → Transducer ℕ
by_table ins outs n starts bytes = transducer ins outs n (λ j. get_or starts j 0) bytes

-- the symbol at the address v of its output
abbrev pub sought : List ℕ → List ℕ → ℕ → List ℕ → List ℕ → List ℕ → List ℕ → MathOption Symbol
sought ins outs n starts bytes s v = symbol_at (translate (by_table ins outs n starts bytes) (tree ins s)) v

-- the terms from mark j on, in a body that ends at `to`
abbrev pub terms_at : List ℕ → ℕ → ℕ → List ℕ → ℕ → ℕ → Terms (ℕ × ℕ)
terms_at outs n r bytes j to = forest (mark_of outs n r) (part bytes j to)

-- the calls of a whole body can be made
pub whole_vars : (outs : List ℕ) (n r : ℕ) (ms : List Mark) → Whole (mark_of outs n r) ms → AllVars (Call n r) (first (forest (mark_of outs n r) ms))
whole_vars outs n r ms W = ranked_vars outs n r (first (forest (mark_of outs n r) ms)) (whole_ranked outs n r ms W).0

-- ---- children by number
-- child number k + 1 is the first tree behind k others
at_rests : {A : Type 0} (F : Terms A) (k : ℕ) → k < count F → child_at F (suc k) ≡ some (first (rests k F))
unfolding child_at count rests first
at_rests none k h = absurd (omega arith)
at_rests (more d ds) ℕ.zero h = refl
at_rests (more d ds) (suc k) h = at_rests ds k (omega arith)

-- a call on one of the first n trees gives the same among all of them
called_firsts : {Q : Type 0} (M : Transducer Q) (F : Terms ⊥) (n i : ℕ) (q : Q) → i ≤ n → n ≤ count F → called-tree M (firsts n F) (i, q) ≡ called-tree M F (i, q)
unfolding called-tree pick run count firsts
called_firsts M none ℕ.zero i q h g = refl
called_firsts M none (suc n) i q h g = absurd (omega arith)
called_firsts M (more d ds) ℕ.zero ℕ.zero q h g = refl
called_firsts M (more d ds) ℕ.zero (suc i) q h g = absurd (omega arith)
called_firsts M (more d ds) (suc n) ℕ.zero q h g = refl
called_firsts M (more d ds) (suc n) (suc ℕ.zero) q h g = refl
called_firsts M (more d ds) (suc n) (suc (suc i)) q h g = called_firsts M ds n (suc i) q (omega arith) (omega arith)

-- no child has the number 0
subs_zero : {A : Type 0} (ts : Terms A) (w : List ℕ) → subs ts 0 w ≡ nothing
unfolding subs
subs_zero none w = refl
subs_zero (more t ts) w = refl

-- nor a number above how many there are
subs_far : {A : Type 0} (ts : Terms A) (c : ℕ) (w : List ℕ) → count ts < c → subs ts c w ≡ nothing
unfolding subs count
subs_far ts ℕ.zero w h = absurd (omega arith)
subs_far none (suc c) w h = refl
subs_far (more t ts) (suc ℕ.zero) w h = absurd (omega arith)
subs_far (more t ts) (suc (suc c)) w h = subs_far ts (suc c) w (omega arith)

-- the child number k + 1 of a node of m children, the first m of G
subs_child : {A B : Type 0} (g : A → Term B) (G : Terms A) (m k : ℕ) (w : List ℕ) → k < m → m ≤ count G → subs (binds (firsts m G) g) (suc k) w ≡ sub (bind (first (rests k G)) g) w
unfolding subs bind firsts rests count first
subs_child g none ℕ.zero k w h l = absurd (omega arith)
subs_child g none (suc m) k w h l = absurd (omega arith)
subs_child g (more t ts) ℕ.zero k w h l = absurd (omega arith)
subs_child g (more t ts) (suc m) ℕ.zero w h l = refl
subs_child g (more t ts) (suc m) (suc k) w h l = subs_child g ts m k w (omega arith) (omega arith)

-- ---- a mark of a body, at which a term begins
-- the first of the terms F is the call (i, x), and it can be made
pub record CallMark (n r i x : ℕ) (F : Terms (ℕ × ℕ)) : Type 0 where
  pub near : i ≤ r
  pub state : x < n
  pub term : first F ≡ var (i, x)

-- the first of the terms F is a node of the symbol x, over as many of the terms G as its rank says
pub record SymbolMark (outs : List ℕ) (x : ℕ) (F G : Terms (ℕ × ℕ)) : Type 0 where
  pub known : x < length outs
  pub enough : get_or outs x 0 ≤ count G
  pub term : first F ≡ node x (firsts (get_or outs x 0) G)

-- a term that begins with a mark (i, x), i from 1, is a call
put_call : (outs : List ℕ) (n r i x : ℕ) (l : Letter (ℕ × ℕ)) (G : Terms (ℕ × ℕ)) → 0 < i → mark_of outs n r (i, x) ≡ l → 0 < count (put l G) → CallMark n r i x (put l G)
unfolding put count first
put_call outs n r i x (call e) G h m c = let w = call_made outs n r i x e m in record { near = w.0.child; state = w.0.state; term = ap var w.1 }
put_call outs n r i x (symbol k o) G h m c = let z : ⊥ = omega (arith, (symbol_made outs n r i x k o m).0) in absurd z
put_call outs n r i x unknown G h m c = absurd (omega arith)

-- a term that begins with a mark (0, x) is a node
put_symbol : (outs : List ℕ) (n r i x : ℕ) (l : Letter (ℕ × ℕ)) (G : Terms (ℕ × ℕ)) → i ≡ 0 → mark_of outs n r (i, x) ≡ l → 0 < count (put l G) → SymbolMark outs x (put l G) G
unfolding put count first
put_symbol outs n r i x (call e) G z m c = let z : ⊥ = omega (arith, (call_made outs n r i x e m).0.from_one) in absurd z
put_symbol outs n r i x (symbol k o) G z m c = go (leb o (count G)) refl c
  where
    go : (b : Bool) → leb o (count G) ≡ b → 0 < count (node_if b k o G) → SymbolMark outs x (node_if b k o G) G
    go true e c = let s = symbol_made outs n r i x k o m in
        record { known = s.2; enough = omega (arith, s.3, leb-true o (count G) e); term = rw (s.1, s.3) }
    go false e c = absurd (omega arith)
put_symbol outs n r i x unknown G z m c = absurd (omega arith)

module _ (outs : List ℕ) (n r : ℕ) (bytes : List ℕ) (j to : ℕ) (inside : 2 * to ≤ length bytes) (some-there : 0 < count (terms_at outs n r bytes j to)) where
  -- where a term begins, the body has not ended
  pub in_part : j < to
  unfolding count
  in_part =
      let L : length (take to (pairs bytes)) ≡ to = marks_length bytes to inside in
      go (terms_at outs n r bytes j to) refl L
    where
      go : (F : Terms (ℕ × ℕ)) → terms_at outs n r bytes j to ≡ F → length (take to (pairs bytes)) ≡ to → j < to
      go none e L = absurd (omega (arith, ap count e))
      go (more t ts) e L = omega (arith, (first_tree (mark_of outs n r) (0, 0) (take to (pairs bytes)) j e).1, letters_pos t)

  module _ {i x : ℕ} (e : i ≡ get_or bytes (2 * j) 0) (f : x ≡ get_or bytes (2 * j + 1) 0) where
    -- the mark j, before the terms from the next mark on
    by_mark : terms_at outs n r bytes j to ≡ put (mark_of outs n r (i, x)) (terms_at outs n r bytes (j + 1) to)
    unfolding forest
    by_mark = ap (forest (mark_of outs n r)) (part_cons bytes j to in_part inside ∙ ap₂ (λ a b. (a, b) ∷ part bytes (j + 1) to) (sym e) (sym f))

    pub call_mark : 0 < i → CallMark n r i x (terms_at outs n r bytes j to)
    call_mark h = rw by_mark (put_call outs n r i x (mark_of outs n r (i, x)) (terms_at outs n r bytes (j + 1) to) h refl (rw by_mark at some-there))

    pub symbol_mark : i ≡ 0 → SymbolMark outs x (terms_at outs n r bytes j to) (terms_at outs n r bytes (j + 1) to)
    symbol_mark h = rw by_mark (put_symbol outs n r i x (mark_of outs n r (i, x)) (terms_at outs n r bytes (j + 1) to) h refl (rw by_mark at some-there))

-- ---- following
-- the symbol sought is at the address from k on in what the term at mark j gives over the trees from below on
pub record Following (ins outs : List ℕ) (n : ℕ) (starts bytes s v : List ℕ) (j to r below k : ℕ) : Type 0 where
  pub there : 0 < count (terms_at outs n r bytes j to)
  pub inside : 2 * to ≤ length bytes
  pub children : r ≤ count (trees ins (drop below s))
  pub address : k ≤ length v
  pub meaning : symbol_at (bind (first (terms_at outs n r bytes j to)) (called-tree (by_table ins outs n starts bytes) (trees ins (drop below s)))) (drop k v) ≡ sought ins outs n starts bytes s v

-- a state on the tree at p: its right-hand side, over the trees behind p
output_at : {ins outs : List ℕ} {n : ℕ} {starts bytes s ends : List ℕ} → Followed ins outs n starts bytes s ends → (p x : ℕ) {a : ℕ} → p < length s → x < n → a ≡ get_or s p 0
    → output (by_table ins outs n starts bytes) (tree ins (drop p s)) x ≡ bind ((by_table ins outs n starts bytes).rhs x a) (called-tree (by_table ins outs n starts bytes) (trees ins (drop (p + 1) s)))
unfolding tree transducer first
output_at {ins} {outs} {n} {starts} {bytes} {s} S p x h g z =
    let M = by_table ins outs n starts bytes in
    let N = node_at ins s p S.input.whole h in
    let b = get_or s p 0 in
    let G = trees ins (drop (p + 1) s) in
    rw z (ap (λ T. output M (first T) x) N.there ∙ output_node M x b (firsts (get_or ins b 0) G)
    ∙ bind_ext (all_map (λ e m. called_firsts M G (get_or ins b 0) e.0 e.1 m.child N.enough) (whole_vars outs n (get_or ins b 0) (body (λ j. get_or starts j 0) bytes (body_number ins x b)) (S.wholes.rhs x b g N.known))))

module _ {ins outs : List ℕ} {n : ℕ} {starts bytes s ends : List ℕ} (S : Followed ins outs n starts bytes s ends) (v : List ℕ) where
  -- at first: the whole address, in the initial term over the input tree
  pub begin_follow : Following ins outs n starts bytes s v (get_or starts 0 0) (get_or starts 1 0) 1 0 0
  unfolding translate transducer body trees tree called-tree pick run output first
  begin_follow =
      let W = S.wholes.initial in
      let M = by_table ins outs n starts bytes in
      let F = trees ins s in
      record {
        there = omega (arith, W.one);
        inside = S.bounds.inside 1 (omega arith);
        children = omega (arith, S.one.one);
        address = omega arith;
        meaning = ap (λ t. symbol_at t v) (ap (λ G. bind M.initial (called-tree M G)) (single F S.one.one) ∙ bind_ext (all_map (λ e m. on_one e.0 e.1 m.from_one m.child) (whole_vars outs n 1 (body (λ j. get_or starts j 0) bytes 0) W)));
      }
    where
      on_one : (i q : ℕ) → 0 < i → i ≤ 1 → called-tree (by_table ins outs n starts bytes) (more (tree ins s) none) (i, q) ≡ output (by_table ins outs n starts bytes) (tree ins s) q
      on_one ℕ.zero q p l = absurd (omega arith)
      on_one (suc ℕ.zero) q p l = refl
      on_one (suc (suc i)) q p l = absurd (omega arith)

  module _ {j to r below k : ℕ} (F : Following ins outs n starts bytes s v j to r below k) {i x : ℕ} (e : i ≡ get_or bytes (2 * j) 0) (f : x ≡ get_or bytes (2 * j + 1) 0) where
    -- the term at mark j, by the mark
    call_here : 0 < i → CallMark n r i x (terms_at outs n r bytes j to)
    call_here = call_mark outs n r bytes j to F.inside F.there e f

    symbol_here : i ≡ 0 → SymbolMark outs x (terms_at outs n r bytes j to) (terms_at outs n r bytes (j + 1) to)
    symbol_here = symbol_mark outs n r bytes j to F.inside F.there e f

    -- at a call: the child can be hopped to
    pub follow_hops : 0 < i → (k : ℕ) → k < i - 1 → hop ends k below < length ends
    follow_hops h k l =
        let c = call_here h in
        omega (arith, S.input.long, place_in ins s ends S.input k below (omega (arith, c.near, F.children)))

    module _ (h : 0 < i) {p : ℕ} (g : p ≡ hop ends (i - 1) below) where
      -- it is the tree at p
      pub follow_place : (p < length s) × (below ≤ p)
      follow_place =
          let c = call_here h in
          rw g (place_in ins s ends S.input (i - 1) below (omega (arith, c.near, F.children)), (place ins s ends S.input (i - 1) below (omega (arith, c.near, F.children))).after)

      -- its symbol is one, and has a right-hand side
      pub follow_number : {a : ℕ} → a ≡ get_or s p 0 → (a < length ins) × (body_number ins x a < body_count ins n)
      follow_number {a} z =
          let N = node_at ins s p S.input.whole follow_place.0 in
          let l : a < length ins = rw z N.known in
          (l, number_less ins x n a (call_here h).state l)

      -- the child number i is the tree at p
      child_output : called-tree (by_table ins outs n starts bytes) (trees ins (drop below s)) (i, x) ≡ output (by_table ins outs n starts bytes) (tree ins (drop p s)) x
      unfolding trees tree
      child_output =
          let M = by_table ins outs n starts bytes in
          let c = call_here h in
          let P = trees ins (drop below s) in
          let w = place ins s ends S.input (i - 1) below (omega (arith, c.near, F.children)) in
          let i' : suc (i - 1) ≡ i = omega arith in
          call_at M P i x (ap (child_at P) (sym i') ∙ at_rests P (i - 1) (omega (arith, c.near, F.children)))
          ∙ ap (λ T. output M (first T) x) (sym w.terms_there ∙ ap (λ k. trees ins (drop k s)) (sym g))

      -- the right-hand side of the state called is followed over its children
      pub follow_call : {a j' to' r' : ℕ} → a ≡ get_or s p 0 → j' ≡ get_or starts (body_number ins x a) 0 → to' ≡ get_or starts (body_number ins x a + 1) 0 → r' ≡ get_or ins a 0 → Following ins outs n starts bytes s v j' to' r' (p + 1) k
      unfolding body transducer bind
      follow_call {a} {j'} {to'} {r'} z y t u =
          let M = by_table ins outs n starts bytes in
          let c = call_here h in
          let N = node_at ins s p S.input.whole follow_place.0 in
          let b = follow_number z in
          let W = S.wholes.rhs x a c.state b.0 in
          let same : bind (first (terms_at outs n r' bytes j' to')) (called-tree M (trees ins (drop (p + 1) s))) ≡ bind (first (terms_at outs n r bytes j to)) (called-tree M (trees ins (drop below s))) =
          rw (y, t, u) (sym (output_at S p x follow_place.0 c.state z) ∙ sym child_output ∙ ap (λ t. bind t (called-tree M (trees ins (drop below s)))) (sym c.term)) in
          record {
            there = rw (y, t, u) (omega (arith, W.one));
            inside = rw t (S.bounds.inside (body_number ins x a + 1) (omega (arith, b.1)));
            children = rw (u, z) N.enough;
            address = F.address;
            meaning = ap (λ t. symbol_at t (drop k v)) same ∙ F.meaning;
          }

    -- at a symbol: it is one, and the terms below it are there
    pub follow_known : i ≡ 0 → x < length outs
    follow_known h = (symbol_here h).known

    pub follow_enough : i ≡ 0 → get_or outs x 0 ≤ count (terms_at outs n r bytes (j + 1) to)
    follow_enough h = (symbol_here h).enough

    -- at the end of the address it is the symbol sought
    pub follow_end : i ≡ 0 → length v ≤ k → Ok (Some x) ≡ placed (sought ins outs n starts bytes s v)
    unfolding placed symbol_at root sub bind
    follow_end h g =
        let y = symbol_here h in
        let M = by_table ins outs n starts bytes in
        let w : drop k v ≡ [] = drop_of_length-le v {i = k} g in
        ap placed (ap₂ (λ t w. symbol_at (bind t (called-tree M (trees ins (drop below s)))) w) (sym y.term) (sym w) ∙ F.meaning)

    -- what stands below a symbol at the next number of the address
    below_symbol : i ≡ 0 → k < length v → root (subs (binds (firsts (get_or outs x 0) (terms_at outs n r bytes (j + 1) to)) (called-tree (by_table ins outs n starts bytes) (trees ins (drop below s)))) (get_or v k 0) (drop (k + 1) v)) ≡ sought ins outs n starts bytes s v
    unfolding symbol_at sub bind
    below_symbol h g =
        let y = symbol_here h in
        let M = by_table ins outs n starts bytes in
        let w : drop k v ≡ get_or v k 0 ∷ drop (k + 1) v = rw add-one (drop-cons v k 0 g) in
        ap₂ (λ t w. symbol_at (bind t (called-tree M (trees ins (drop below s)))) w) (sym y.term) (sym w) ∙ F.meaning

    -- an address that goes on to child 0, or to a child that the symbol has not, is nowhere
    pub follow_zero : i ≡ 0 → k < length v → get_or v k 0 ≡ 0 → Ok None ≡ placed (sought ins outs n starts bytes s v)
    unfolding placed root
    follow_zero h g z =
        let Ts = binds (firsts (get_or outs x 0) (terms_at outs n r bytes (j + 1) to)) (called-tree (by_table ins outs n starts bytes) (trees ins (drop below s))) in
        ap placed (sym (ap root (ap (λ c. subs Ts c (drop (k + 1) v)) z ∙ subs_zero Ts (drop (k + 1) v))) ∙ below_symbol h g)

    pub follow_far : i ≡ 0 → k < length v → get_or outs x 0 < get_or v k 0 → Ok None ≡ placed (sought ins outs n starts bytes s v)
    unfolding placed root
    follow_far h g z =
        let y = symbol_here h in
        ap placed (sym (ap root (subs_far _ (get_or v k 0) (drop (k + 1) v) (rw (count_binds, count_firsts (get_or outs x 0) (terms_at outs n r bytes (j + 1) to) y.enough) z))) ∙ below_symbol h g)

    -- else the child is followed
    pub follow_child : i ≡ 0 → k < length v → {c j' : ℕ} → c ≡ get_or v k 0 → 0 < c → c ≤ get_or outs x 0 → terms_at outs n r bytes j' to ≡ rests (c - 1) (terms_at outs n r bytes (j + 1) to) → Following ins outs n starts bytes s v j' to r below (k + 1)
    unfolding symbol_at
    follow_child h g {c} {j'} e p l q =
        let y = symbol_here h in
        let G = terms_at outs n r bytes (j + 1) to in
        let c' : suc (c - 1) ≡ get_or v k 0 = omega arith in
        let M = by_table ins outs n starts bytes in
        record {
          there = rw (q, count_rests) (omega (arith, y.enough));
          inside = F.inside;
          children = F.children;
          address = omega arith;
          meaning = ap root (ap (λ T. sub (bind (first T) (called-tree M (trees ins (drop below s)))) (drop (k + 1) v)) q
              ∙ sym (subs_child (called-tree M (trees ins (drop below s))) G (get_or outs x 0) (c - 1) (drop (k + 1) v) (omega arith) y.enough)
              ∙ ap (λ c. subs (binds (firsts (get_or outs x 0) G) (called-tree M (trees ins (drop below s)))) c (drop (k + 1) v)) c') ∙ below_symbol h g;
        }

-- ---- from one term of marks to the next
-- an answer that is not None is there
pub some_there : {A : Type 0} {o : Option A} → (o ≡ None → ⊥) → is_some o ≡ true
some_there {o = None} h = absurd (h refl)
some_there {o = Some x} h = refl

-- behind the first of the terms there is one less to pass
pub next_mark : (f : Mark → Letter (ℕ × ℕ)) (L : List Mark) (room p left e l : ℕ) → 0 < left → left < count (forest f (drop p L)) → measured room p (forest f (drop p L)) ≡ some_extent e l
    → (left - 1 < count (forest f (drop e L))) × (rests (left - 1) (forest f (drop e L)) ≡ rests left (forest f (drop p L)))
unfolding count rests
next_mark f L room p left e l h g m =
    let S = seen room p (forest f (drop p L)) e l m in
    let F : forest f (drop p L) ≡ more S.one (forest f (drop e L)) = S.these ∙ ap (more S.one) (others_behind f (0, 0) L S) in
    let z : left ≡ suc (left - 1) = omega arith in
    (omega (arith, ap count F), sym (ap₂ rests z F))

-- ---- a table of starts, or the counts
-- the transducer is the same by either
same_sheet : {ins outs : List ℕ} (counts : List ℕ) {bytes : List ℕ} (starts : List ℕ) {n : ℕ} → Starts counts starts (body_count ins n) → Wholes ins outs n (λ j. get_or starts j 0) bytes → (d : Tree) → Ranked (λ x. ⊥) ins d
    → translate (by_table ins outs n starts bytes) d ≡ translate (transducer ins outs n (offset counts) bytes) d
unfolding transducer body
same_sheet {ins} {outs} counts {bytes} starts {n} S W d o =
    same_translate ins n (by_table ins outs n starts bytes) (transducer ins outs n (offset counts) bytes)
    (λ q a h k. let l = number_less ins q n a h k in rw (S (body_number ins q a) (omega arith), S (body_number ins q a + 1) (omega arith)))
    (λ q a h k. all_map (λ e m. m.state) (whole_vars outs n (get_or ins a 0) _ (W.rhs q a h k)))
    d o (rw (S 0 (omega arith), S 1 (omega arith))) (all_map (λ e m. m.state) (whole_vars outs n 1 _ W.initial))

-- ---- the parts of a file
-- the answer is the name of the symbol
placed_named : (o : MathOption Symbol) → outcome_of (placed o) ≡ accepted (named o)
unfolding placed
placed_named nothing = refl
placed_named (some b) = refl

-- ins and outs are the ranks in the stock
module _ {stock : List ℕ} {n : ℕ} {counts bytes : List ℕ} (X : Machine stock n counts bytes) {ins : List ℕ} (e : ins ≡ inputs stock) {s : List ℕ} {r : Option Extent} (M : MeasuredAll ins s r) where
  -- what is no input tree is refused
  pub no_tree : (v : List ℕ) → r ≡ None → FindsBy stock n counts bytes s v (Err BadTree)
  no_tree v q = refuse (measured_none (rw e at M) q) tt

  module _ {d l : ℕ} (q : r ≡ some_extent d l) {outs : List ℕ} (f : outs ≡ outputs stock) (starts : List ℕ) (S : Starts counts starts (body_count ins n)) (long : length starts ≡ 2050) where
    -- the bodies are whole by the table of starts too
    by_starts : Wholes (inputs stock) (outputs stock) n (λ j. get_or starts j 0) bytes
    by_starts = from_offsets starts (machine_right X) (rw e at S) long (outputs stock) (encodes_wholes (inputs stock) (outputs stock) n counts bytes X.machine X.encodes)

    -- an address can be followed
    pub can_follow : {ends : List ℕ} → Input ins s ends → Followed ins outs n starts bytes s ends
    can_follow I = rw (e, f) (record { bounds = in_bounds starts (machine_right X) (rw e at S) long; wholes = by_starts; one = (read_whole X e M q).one; input = rw e at I })

    -- and what is found is what the file's parts promise
    pub symbol_found : (v : List ℕ) {x : Result (Option ℕ) Refusal} → x ≡ placed (sought ins outs n starts bytes s v) → FindsBy stock n counts bytes s v x
    symbol_found v {x} p =
        let T = read_whole X e M q in
        let i = whole_input T in
        let g = rw (e, f) at p in
        let c = ap outcome_of (g ∙ ap (λ t. placed (symbol_at t v)) (same_sheet counts starts (rw e at S) by_starts (tree (inputs stock) s) i.ranked)) ∙ placed_named _ in
        rw c (pass (tree (inputs stock) s, i) (accept (_, (output_read X s T, refl))))

-- ---- the file
-- what is answered of the parts of a file is answered of it
pub file_finds : {stock sheet ins counts bytes design : List ℕ} {n : ℕ} → Opened stock sheet n ins counts bytes → (v : List ℕ) (x : Result (Option ℕ) Refusal) → FindsBy stock n counts bytes design v x → FindsSymbol stock sheet design v x
unfolding Holds
file_finds {stock} {design = design} O v x D =
    let h = O.holds in
    pass h.0 (pass h.1.0 (pass h.1.1.0 (better_answer (λ o w. (w.0, (from_parts (opened_sheet O) w.1.0, w.1.1))) D)))
