-- The start of the table of patterns: the right-hand sides for a leaf have no calls, so their symbols are the bytes of a pattern; from there the cuts lead to the common prefixes.
-- Assumes nothing.
use Prim.Native.Nat.{ℕ, suc, ◌+◌, ◌-◌, ◌*◌, ◌≤◌, ◌<◌}
use native.Mathlib.Omega.{arith}
use mathlib.Core.List.{List, [], ◌∷◌, ◌++◌, map, append_assoc}
use mathlib.Core.Path.{◌≡◌, refl, sym, ap, ◌∙◌}
use lib.ListN.{length, get_or, take, drop, length-map}
use lib.Seq.{slice, slice_empty, length-slice, length-take-le, take_at, drop_at, take-take, take-append-le, sets, sets-eq, length-sets, get_or-set_same, get_or-set_other}
use borrow.Author.Count.{below_more}
use Rattle.theory.specs.Inner.Graft.{graft}
use Rattle.theory.specs.Term.{var, mapT}
use Rattle.theory.proofs.Cut.{cut_start, forget_self}
use Rattle.theory.proofs.Prefs.{common_above}
use Rattle.trees.specs.Alphabets.{Leaf}
use Rattle.trees.specs.Code.{Mark, preorder}
use Rattle.trees.specs.Inner.Decode.{forest, first, Whole, Over}
use Rattle.formats.specs.Inner.Layout.{pairs, mark_of, body, body_number, transducer}
use Rattle.formats.specs.Inner.Marked.{part}
use Rattle.trees.proofs.Codes.{preorder_bind}
use Rattle.formats.proofs.Pairs.{number_less, pairs_length, part_cons}
use Rattle.formats.proofs.Sheets.{whole_ranked}
use Rattle.transducer.specs.Inner.Written.{spell, Callable}
use Rattle.transducer.proofs.Meaning.{body_read}
use Rattle.forms.specs.Alphabet.{alphabet}
use Rattle.prefixes.specs.Inner.Patterns.{top, pattern_code, IsPattern, read_pattern, head_at}
use Rattle.prefixes.specs.declared.pattern.Patterns.{Patterns}
use Rattle.prefixes.proofs.Settling.{stays_more}
use Rattle.prefixes.specs.Inner.Heads.{Stays, head_of, Bodies, AllAbove, UnderLeaf, Settled, names, Startable, Started, AllStartable, AllStarted, Prefixable, Prefixes}
use Rattle.forms.specs.Inner.Tables.{machine, Layout}
use Rattle.forms.proofs.Slices.{slice_from}
use Rattle.prefixes.proofs.Grafts.{top_letter, over_graft, pattern_back}
use Rattle.forms.proofs.Leaves.{pref_leaf}
use Rattle.forms.proofs.Files.{machine_wf}

-- ---- the names of the marks
module _ (bytes : List ℕ) where
  -- the first
  pub names_first : (j to : ℕ) → j < to → 2 * to ≤ length bytes → names bytes j to ≡ get_or bytes (2 * j + 1) 0 ∷ names bytes (j + 1) to
  names_first j to h g = ap (map (λ m. m.1)) (part_cons bytes j to h g)

  -- no mark is left
  pub names_end : (j to : ℕ) → j ≤ to → to ≤ j → names bytes j to ≡ []
  names_end j to h g = let e : j ≡ to = omega arith in rw (e, slice_empty to (pairs bytes))

  -- one for each mark
  pub names_length : (from to : ℕ) → 2 * to ≤ length bytes → length (names bytes from to) ≡ to - from
  names_length from to h = length-map (part bytes from to) (λ m. m.1) ∙ length-slice from to (pairs bytes) (pairs_length bytes to h)

-- ---- a right-hand side without calls
-- where no call can be made, the word of the marks is that of their names
spell_names : (g : ℕ → ℕ → List ℕ) (n : ℕ) (ms : List Mark) → ((j : ℕ) → j < length ms → Callable n 0 (get_or ms j (0, 0))) → spell g ms ≡ map (λ m. m.1) ms
unfolding spell
spell_names g n [] k = refl
spell_names g n ((ℕ.zero, b) ∷ ms) k = ap (◌∷◌ b) (spell_names g n ms (λ j h. k (suc j) (omega arith)))
spell_names g n ((suc i, q) ∷ ms) k = absurd (omega (arith, (k 0 (omega arith) (omega arith)).0))

module _ (outs : List ℕ) (few : length outs ≤ 64) (n r : ℕ) (none : r ≡ 0) (ms : List Mark) (W : Whole (mark_of outs n r) ms) where
  -- it has the names of its marks for its code
  names_code : map (λ m. m.1) ms ≡ pattern_code (mapT (λ e. tt) (first (forest (mark_of outs n r) ms)))
  unfolding mapT preorder
  names_code =
      let R = body_read outs n r ms W in
      sym (spell_names (λ i q. top ∷ []) n ms (rw none at R.callable))
      ∙ sym (R.spelled (λ e. top ∷ []))
      ∙ sym (preorder_bind (λ u. top ∷ []) (λ k. k) (λ e. var tt) (first (forest (mark_of outs n r) ms)))

  -- so they are a pattern, and read as the right-hand side
  pub names_read : IsPattern outs (map (λ m. m.1) ms) × (read_pattern outs (map (λ m. m.1) ms) ≡ mapT (λ e. tt) (first (forest (mark_of outs n r) ms)))
  unfolding mapT graft Over
  names_read =
      let t = first (forest (mark_of outs n r) ms) in
      let b = pattern_back outs (mapT (λ e. tt) t) (over_graft outs n r (λ q. var tt) (λ q s. top_letter outs few tt) t (whole_ranked outs n r ms W).0) in
      (rw names_code b.0, ap (read_pattern outs) names_code ∙ b.1)

-- ---- a word that was written from an index on
module _ (l w : List ℕ) (at : ℕ) (fits : at + length w ≤ length l) where
  -- before, there and behind
  sets_parts : sets l at w ≡ take at l ++ (w ++ drop (at + length w) l)
  sets_parts = sets-eq w l at fits ∙ append_assoc (take at l) w (drop (at + length w) l)

  -- what stands before it is as it was
  sets_before : (b c : ℕ) → c ≤ at → slice b c (sets l at w) ≡ slice b c l
  sets_before b c h =
      let k : c ≤ length (take at l) = omega (arith, length-take-le at l (omega arith)) in
      ap (slice b c) sets_parts ∙ ap (drop b) (take-append-le c (take at l) (w ++ drop (at + length w) l) k ∙ take-take c at l h)

  -- and there it stands
  sets_here : slice at (at + length w) (sets l at w) ≡ w
  sets_here =
      slice_from (sets l at w) at (length w) (omega (arith, length-sets l at w))
      ∙ ap (λ m. take (length w) (drop at m)) sets_parts
      ∙ ap (take (length w)) (drop_at (take at l) (w ++ drop (at + length w) l) at (length-take-le at l (omega arith)))
      ∙ take_at w (drop (at + length w) l) (length w) refl

-- ---- the loop over the states: those before q have the names of their right-hand side for the leaf
-- the names of the right-hand side of p for the symbol leaf
abbrev pub leaf_names : List ℕ → List ℕ → List ℕ → ℕ → ℕ → List ℕ
leaf_names ins starts bytes leaf p = names bytes (get_or starts (body_number ins p leaf) 0) (get_or starts (body_number ins p leaf + 1) 0)

-- they stand in the table as the pattern of p
pub record Stands (ins starts bytes : List ℕ) (leaf : ℕ) (heads sizes : List ℕ) (p : ℕ) : Type 0 where
  pub small : get_or sizes p 0 ≤ 64
  pub head : head_at heads sizes p ≡ leaf_names ins starts bytes leaf p

pub record StartLoop (ins starts bytes : List ℕ) (leaf : ℕ) (p₀ p : Patterns) (q : ℕ) : Type 0 where
  pub inside : q ≤ length p₀.sizes.now
  pub stays : Stays p₀ p
  pub passed : (r : ℕ) → r < q → Stands ins starts bytes leaf p.heads.now p.sizes.now r

-- one state: its names have room
pub start_fits : {bytes : List ℕ} {from to : ℕ} {heads sizes : List ℕ} {q : ℕ} → Startable bytes from to heads sizes q → 64 * q + length (names bytes from to) ≤ length heads
start_fits {bytes} {from} {to} A = omega (arith, names_length bytes from to A.inside, A.few, A.room)

module _ {ins starts bytes : List ℕ} {leaf from to q : ℕ} {heads sizes heads' sizes' : List ℕ} (A : Startable bytes from to heads sizes q) (S : Started bytes from to heads sizes q heads' sizes') where
  -- then they stand in the table
  stands_here : from ≡ get_or starts (body_number ins q leaf) 0 → to ≡ get_or starts (body_number ins q leaf + 1) 0 → Stands ins starts bytes leaf heads' sizes' q
  stands_here f t =
      let s : get_or sizes' q 0 ≡ to - from = ap (λ l. get_or l q 0) S.size ∙ get_or-set_same sizes q (to - from) 0 A.state in
      let k : get_or sizes' q 0 ≡ length (names bytes from to) = s ∙ sym (names_length bytes from to A.inside) in
      record {
        small = omega (arith, A.few);
        head = rw (k, S.wrote) (sets_here heads (names bytes from to) (64 * q) (start_fits A) ∙ rw (f, t));
      }

  -- those before stay
  stands_before : {p : ℕ} → p < q → Stands ins starts bytes leaf heads sizes p → Stands ins starts bytes leaf heads' sizes' p
  stands_before {p} h P =
      let s : get_or sizes' p 0 ≡ get_or sizes p 0 = ap (λ l. get_or l p 0) S.size ∙ get_or-set_other sizes q p (to - from) 0 (λ e. omega arith) in
      record {
        small = omega (arith, P.small);
        head = rw (s, S.wrote) (sets_before heads (names bytes from to) (64 * q) (start_fits A) (64 * p) (64 * p + get_or sizes p 0) (omega (arith, P.small)) ∙ P.head);
      }

module _ {ins starts bytes : List ℕ} {leaf : ℕ} {p₀ : Patterns} (A : AllStartable ins starts bytes leaf p₀.heads.now p₀.sizes.now)
    {p : Patterns} {q : ℕ} (L : StartLoop ins starts bytes leaf p₀ p q) where
  module _ (there : q < length p₀.sizes.now) {from to : ℕ} (f : from ≡ get_or starts (body_number ins q leaf) 0) (t : to ≡ get_or starts (body_number ins q leaf + 1) 0) where
    -- each state can be started
    pub can_start : Startable bytes from to p.heads.now p.sizes.now q
    can_start =
        let Y = A.layout in
        let less = number_less ins q (length p₀.sizes.now) leaf there A.there in
        record {
          ordered = omega (arith, Y.bounds.ordered (body_number ins q leaf) less);
          inside = omega (arith, Y.bounds.inside (body_number ins q leaf + 1) (omega arith));
          few = omega (arith, Y.few (body_number ins q leaf) less);
          state = omega (arith, L.stays.long_sizes);
          room = omega (arith, A.long, L.stays.long_heads);
        }

    pub start_next : {p' : Patterns} → Stays p p' → Started bytes from to p.heads.now p.sizes.now q p'.heads.now p'.sizes.now → StartLoop ins starts bytes leaf p₀ p' (q + 1)
    start_next {p'} s S = record {
      inside = omega (arith, L.stays.long_sizes);
      stays = stays_more L.stays s;
      passed = below_more (Stands ins starts bytes leaf p'.heads.now p'.sizes.now) q (λ r h. stands_before can_start S h (L.passed r h)) (stands_here can_start S f t);
    }

  -- the bytes of each state are a pattern: its right-hand side for the leaf
  leaf_read : length p₀.sizes.now ≤ q → (outs : List ℕ) → Layout ins outs starts bytes (length p₀.sizes.now) → (r : ℕ) → r < length p₀.sizes.now → IsPattern outs (head_at p.heads.now p.sizes.now r) × (read_pattern outs (head_at p.heads.now p.sizes.now r) ≡ mapT (λ e. tt) ((machine ins outs starts bytes (length p₀.sizes.now)).rhs r leaf))
  unfolding transducer body
  leaf_read h outs Y r g =
      let n = names_read outs Y.few_symbols (length p₀.sizes.now) (get_or ins leaf 0) A.rank (body (λ j. get_or starts j 0) bytes (body_number ins r leaf)) (Y.wholes.rhs r leaf g A.there) in
      rw (L.passed r (omega arith)).head n

  -- all states are started
  pub start_end : length p₀.sizes.now ≤ q → AllStarted ins starts bytes leaf p₀.sizes.now p.heads.now p.sizes.now
  unfolding head_of
  start_end h = record {
    table = λ outs Y. record {
      long = omega (arith, A.long, L.stays.long_heads, L.stays.long_sizes);
      small = λ r g. (L.passed r (omega (arith, L.stays.long_sizes))).small;
      each = λ r g. (leaf_read h outs Y r (omega (arith, L.stays.long_sizes))).0;
    };
    started = λ outs Y r g. (leaf_read h outs Y r g).1;
  }

-- ---- the common prefixes
-- the patterns of the start are above the common prefixes
start_above : {ins outs starts bytes sizes heads' sizes' : List ℕ} (l : Leaf ins) → Layout ins outs starts bytes (length sizes) → AllStarted ins starts bytes l.symbol sizes heads' sizes' → AllAbove ins l (machine ins outs starts bytes (length sizes)) (length sizes) (head_of outs heads' sizes')
unfolding alphabet
start_above {outs = outs} l Y S q h g c = rw (S.started outs Y q h) (common_above c (cut_start (machine_wf l Y.wholes) h))

-- and the right-hand sides for the leaf do not cut them
start_under : {ins outs starts bytes sizes heads' sizes' : List ℕ} {leaf : ℕ} → Layout ins outs starts bytes (length sizes) → AllStarted ins starts bytes leaf sizes heads' sizes' → UnderLeaf (machine ins outs starts bytes (length sizes)) leaf (length sizes) (head_of outs heads' sizes')
start_under {outs = outs} Y S q h = rw (S.started outs Y q h) (forget_self _)

module _ {ins outs starts bytes heads₀ sizes₀ other₀ : List ℕ} (A : Prefixable ins outs starts bytes heads₀ sizes₀ other₀) {leaf : ℕ}
    {heads sizes : List ℕ} (S : AllStarted ins starts bytes leaf sizes₀ heads sizes) (same : length sizes ≡ length sizes₀) where
  -- after the start the patterns can be cut
  pub can_settle : Bodies ins outs starts bytes heads sizes other₀
  can_settle = record { table = S.table outs A.layout; layout = rw same A.layout; room = A.room }

  -- and the cuts end with the common prefixes
  pub all_prefixes : (leaf < length ins) × (get_or ins leaf 0 ≡ 0) × ((l : Leaf ins) → leaf ≤ l.symbol) → {heads' sizes' : List ℕ} → Settled ins outs starts bytes leaf heads sizes heads' sizes' → length sizes' ≡ length sizes → Prefixes ins outs starts bytes sizes₀ heads' sizes'
  all_prefixes found T e =
      let l₀ : Leaf ins = record { symbol = leaf; there = found.0; rank = found.1 } in
      let P = rw same at (T.prefs l₀) in
      record { table = T.table; same = e ∙ same; prefs = λ l q h. pref_leaf l₀ l (P (start_above l₀ A.layout S) (start_under A.layout S) q h) }

-- the areas that were lent hold them
pub put_back : {ins outs starts bytes sizes heads' sizes' heads'' sizes'' : List ℕ} → heads'' ≡ heads' → sizes'' ≡ sizes' → Prefixes ins outs starts bytes sizes heads' sizes' → Prefixes ins outs starts bytes sizes heads'' sizes''
put_back e f P = rw (e, f) P
