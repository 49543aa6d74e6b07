-- The address of a letter of a term by the parents above it, from the bottom up: of the trees that begin at a letter, the number of the one in which letter m stands, and the address in it.
-- Assumes nothing.
use Prim.Native.Nat.{ℕ, suc, ◌+◌, ◌-◌, ◌*◌, ◌≤◌, ◌<◌}
use native.Mathlib.Decide.{dec_lt}
use native.Mathlib.Numerals.{add-one}
use native.Mathlib.Omega.{arith}
use mathlib.Core.Bool.{Bool, true, false}
use mathlib.Core.Path.{◌≡◌, refl, sym, ap, ap₂, ◌∙◌}
use mathlib.Core.List.{List, [], ◌∷◌}
use mathlib.Core.Logic.{by_cases}
use lib.Dec.{leb, ltb}
use lib.ListN.{length, get_or, drop, take, set, get_or-eq_default}
use lib.Seq.{sets, set_comm, drop-drop, length-slice}
use borrow.Author.Tests.{lt-ltb, le-ltb, ltb-false}
use Rattle.theory.specs.Term.{Term, var, node, Terms, none, more, count}
use Rattle.trees.specs.Code.{Mark}
use Rattle.theory.specs.Inner.Forests.{letters, letters_all}
use Rattle.trees.specs.Inner.Decode.{Letter, call, symbol, unknown, firsts, rests, node_if, put, forest, first}
use Rattle.trees.specs.Inner.Symbols.{symbol_of, symbol_if}
use Rattle.formats.specs.Inner.Layout.{call_if, mark_of, mark_at, pairs}
use Rattle.formats.specs.Inner.Marked.{part}
use Rattle.trees.proofs.Codes.{single}
use Rattle.trees.proofs.Forest.{letters_pos, all_drop}
use Rattle.formats.proofs.Pairs.{part_cons, pairs_at, pairs_length}
use Rattle.prefixes.proofs.Ends.{taken}
use Rattle.earliest.specs.Inner.Places.{place, place_among, behind}
use Rattle.witness.specs.Inner.Shown.{rank_of, InBody, EndsBefore}

-- ---- the letters of the first tree, and of those behind it
module _ {A : Type 0} (t : Term A) (ts : Terms A) where
  in_first : (m : ℕ) → m < letters t → place_among (more t ts) m ≡ (0, place t m)
  unfolding place
  in_first m h = simp (lt-ltb m (letters t) h)

  in_behind : (m : ℕ) → letters t ≤ m → place_among (more t ts) m ≡ behind (place_among ts (m - letters t))
  unfolding place
  in_behind m h = simp (le-ltb m (letters t) h)

-- ---- an address is no longer than the number of its letter, and a tree's number no larger
mutual
  unfolding place

  pub place_short : {A : Type 0} (t : Term A) (m : ℕ) → length (place t m) ≤ m
  place_short (var a) m = omega arith
  place_short (node k ts) ℕ.zero = omega arith
  place_short (node k ts) (suc m) = omega (arith, among_short ts m)

  pub among_short : {A : Type 0} (ts : Terms A) (m : ℕ) → length (place_among ts m).1 ≤ m
  among_short none m = omega arith
  among_short (more t ts) m = by_cases (dec_lt m (letters t))
      (λ h. rw (in_first t ts m h) (place_short t m))
      (λ h. rw (in_behind t ts m (omega arith)) (omega (arith, among_short ts (m - letters t))))

pub among_few : {A : Type 0} (ts : Terms A) (m : ℕ) → (place_among ts m).0 ≤ m
unfolding place
among_few none m = omega arith
among_few (more t ts) m = by_cases (dec_lt m (letters t))
    (λ h. rw (in_first t ts m h) (omega arith))
    (λ h. rw (in_behind t ts m (omega arith)) (omega (arith, among_few ts (m - letters t), letters_pos t)))

-- ---- among the first n trees, or behind them
-- letter p of the trees G stands in one of the first n
record Within {A : Type 0} (n : ℕ) (G : Terms A) (p : ℕ) : Type 0 where
  low : p < letters_all (firsts n G)
  same : place_among (firsts n G) p ≡ place_among G p

-- or behind them
record Beyond {A : Type 0} (n : ℕ) (G : Terms A) (p : ℕ) : Type 0 where
  high : letters_all (firsts n G) ≤ p
  number : (place_among G p).0 ≡ n + (place_among (rests n G) (p - letters_all (firsts n G))).0
  address : (place_among G p).1 ≡ (place_among (rests n G) (p - letters_all (firsts n G))).1

module _ {A : Type 0} where
  within : (n : ℕ) (G : Terms A) (p : ℕ) → p < letters_all G → (place_among G p).0 < n → Within n G p
  unfolding firsts letters_all
  within ℕ.zero G p h g = absurd (omega arith)
  within (suc n) none p h g = absurd (omega arith)
  within (suc n) (more t ts) p h g = by_cases (dec_lt p (letters t))
      (λ l. record { low = omega arith; same = in_first t (firsts n ts) p l ∙ sym (in_first t ts p l) })
      (λ l.
      let k : letters t ≤ p = omega arith in
      let e = in_behind t ts p k in
      let w = within n ts (p - letters t) (omega arith) (omega (arith, ap (λ r. r.0) e)) in
      record { low = omega (arith, w.low); same = in_behind t (firsts n ts) p k ∙ ap behind w.same ∙ sym e })

  beyond : (n : ℕ) (G : Terms A) (p : ℕ) → p < letters_all G → n ≤ (place_among G p).0 → Beyond n G p
  unfolding firsts rests letters_all
  beyond ℕ.zero G p h g = let z : p - 0 ≡ p = omega arith in record { high = omega arith; number = ap (λ k. (place_among G k).0) (sym z) ∙ omega arith; address = ap (λ k. (place_among G k).1) (sym z) }
  beyond (suc n) none p h g = absurd (omega arith)
  beyond (suc n) (more t ts) p h g = by_cases (dec_lt p (letters t))
      (λ l. absurd (omega (arith, ap (λ r. r.0) (in_first t ts p l))))
      (λ l.
      let k : letters t ≤ p = omega arith in
      let e = in_behind t ts p k in
      let w = beyond n ts (p - letters t) (omega arith) (omega (arith, ap (λ r. r.0) e)) in
      let z : p - letters t - letters_all (firsts n ts) ≡ p - (letters t + letters_all (firsts n ts)) = omega arith in
      record {
        high = omega (arith, w.high);
        number = omega (arith, ap (λ r. r.0) e, w.number, ap (λ q. (place_among (rests n ts) q).0) z);
        address = ap (λ r. r.1) e ∙ w.address ∙ ap (λ q. (place_among (rests n ts) q).1) z;
      })

  -- letter 0 is the root of the first tree
  among_root : (G : Terms A) → 0 < letters_all G → place_among G 0 ≡ (0, [])
  unfolding letters_all place
  among_root none h = absurd (omega arith)
  among_root (more t ts) h = in_first t ts 0 (letters_pos t) ∙ ap (λ v. (0, v)) (root_place t)
    where
      root_place : (t : Term A) → place t 0 ≡ []
      root_place (var a) = refl
      root_place (node k ts) = refl

-- ---- one letter in front of the trees G, and letter p of these
module _ {A : Type 0} (G : Terms A) (p : ℕ) (low : p < letters_all G) where
  -- the letter takes the tree in which letter p stands: it is the parent
  up_parent : (l : Letter A) → 0 < letters_all (put l G) → (place_among G p).0 < taken l → place_among (put l G) (suc p) ≡ (0, suc (place_among G p).0 ∷ (place_among G p).1)
  unfolding put letters_all place
  up_parent (call a) h g = absurd (omega arith)
  up_parent (symbol k n) h g = by_rank (leb n (count G)) h
    where
      by_rank : (b : Bool) → 0 < letters_all (node_if b k n G) → place_among (node_if b k n G) (suc p) ≡ (0, suc (place_among G p).0 ∷ (place_among G p).1)
      by_rank true h = let w = within n G p low g in in_first (node k (firsts n G)) (rests n G) (suc p) (omega (arith, w.low)) ∙ ap (λ (r : ℕ × List ℕ). (0, suc r.0 ∷ r.1)) w.same
      by_rank false h = absurd (omega arith)
  up_parent unknown h g = absurd (omega arith)

  -- or it stands before that tree
  up_past : (l : Letter A) → 0 < letters_all (put l G) → taken l ≤ (place_among G p).0 → place_among (put l G) (suc p) ≡ (suc ((place_among G p).0 - taken l), (place_among G p).1)
  unfolding put letters_all
  up_past (call a) h g =
      let z : suc p - 1 ≡ p = omega arith in
      let c : (place_among G p).0 ≡ (place_among G p).0 - 0 = omega arith in
      in_behind (var a) G (suc p) (omega arith) ∙ ap (λ q. behind (place_among G q)) z ∙ ap (λ k. (suc k, (place_among G p).1)) c
  up_past (symbol k n) h g = by_rank (leb n (count G)) h
    where
      by_rank : (b : Bool) → 0 < letters_all (node_if b k n G) → place_among (node_if b k n G) (suc p) ≡ (suc ((place_among G p).0 - n), (place_among G p).1)
      by_rank true h =
          let w = beyond n G p low g in
          let z : suc p - suc (letters_all (firsts n G)) ≡ p - letters_all (firsts n G) = omega arith in
          let c : (place_among (rests n G) (p - letters_all (firsts n G))).0 ≡ (place_among G p).0 - n = omega (arith, w.number) in
          in_behind (node k (firsts n G)) (rests n G) (suc p) (omega (arith, w.high)) ∙ ap (λ q. behind (place_among (rests n G) q)) z ∙ ap₂ (λ k v. (suc k, v)) c (sym w.address)
      by_rank false h = absurd (omega arith)
  up_past unknown h g = absurd (omega arith)

-- ---- marks
-- a mark takes as many trees as its rank says
mark_takes : (outs : List ℕ) (n r : ℕ) (m : Mark) → taken (mark_of outs n r m) ≡ rank_of outs m
unfolding mark_of symbol_of rank_of
mark_takes outs n r (ℕ.zero, b) = by_symbol (ltb b (length outs)) refl
  where
    by_symbol : (x : Bool) → ltb b (length outs) ≡ x → taken (symbol_if {A = ℕ × ℕ} x b (get_or outs b 0)) ≡ get_or outs b 0
    by_symbol true e = refl
    by_symbol false e = sym (get_or-eq_default outs 0 (ltb-false b (length outs) e))
mark_takes outs n r (suc i, q) = by_call (leb (suc i) r) (ltb q n)
  where
    by_call : (x y : Bool) → taken (call_if x y (suc i, q)) ≡ 0
    by_call true true = refl
    by_call true false = refl
    by_call false y = refl

-- and at most four, if the ranks are low
pub rank_low : (outs : List ℕ) (m : Mark) → ((k : ℕ) → k < length outs → get_or outs k 0 ≤ 4) → rank_of outs m ≤ 4
unfolding rank_of
rank_low outs (ℕ.zero, b) low = by_cases (dec_lt b (length outs)) (low b) (λ h. omega (arith, get_or-eq_default outs 0 {n = b} (omega arith)))
rank_low outs (suc i, q) low = omega arith

-- what is read of a mark gives its rank
module _ (outs marks : List ℕ) (k : ℕ) (inside : 2 * k + 2 ≤ length marks) {i b : ℕ} (f : i ≡ get_or marks (2 * k) 0) (g : b ≡ get_or marks (2 * k + 1) 0) where
  mark_read : mark_at marks k ≡ (i, b)
  mark_read = pairs_at marks k (omega arith) ∙ ap₂ (λ x y. (x, y)) (sym f) (sym g)

  pub rank_call : 0 < i → 0 ≡ rank_of outs (mark_at marks k)
  unfolding rank_of
  rank_call h = let e : i ≡ suc (i - 1) = omega arith in sym (ap (rank_of outs) mark_read ∙ ap (λ j. rank_of outs (j, b)) e)

  pub rank_symbol : i ≡ 0 → get_or outs b 0 ≡ rank_of outs (mark_at marks k)
  unfolding rank_of
  rank_symbol z = sym (ap (rank_of outs) mark_read ∙ ap (λ j. rank_of outs (j, b)) z)

  pub rank_unknown : i ≡ 0 → length outs ≤ b → 0 ≡ rank_of outs (mark_at marks k)
  rank_unknown z h = sym (get_or-eq_default outs 0 h) ∙ rank_symbol z

-- ---- from letter m up to the root
-- a number in front of what was written
set_front : (v area : List ℕ) (w k x : ℕ) → k < w → set (sets area w v) k x ≡ sets (set area k x) w v
set_front [] area w k x h = refl
set_front (y ∷ v) area w k x h = set_front v (set area w y) (suc w) k x (omega arith) ∙ ap (λ l. sets l (suc w) v) (set_comm area w k y x (omega arith))

-- of the trees that begin at letter j, letter m stands in the one number c; its address there was written, from w on
pub record AddressLoop (outs marks : List ℕ) (n r from to m : ℕ) (area : List ℕ) (at : ℕ) (now : List ℕ) (w c j : ℕ) : Type 0 where
  pub inside : j ≤ m
  pub address : List ℕ
  pub reached : place_among (forest (mark_of outs n r) (part marks (from + j) to)) (m - j) ≡ (c, address)
  pub ends : EndsBefore address area at now w

module _ {outs marks : List ℕ} {n r from to m : ℕ} (B : InBody outs marks n r from to m) where
  abbrev trees_from : ℕ → Terms (ℕ × ℕ)
  trees_from j = forest (mark_of outs n r) (part marks (from + j) to)

  -- every letter is read
  trees_letters : (j : ℕ) → letters_all (trees_from j) ≡ to - (from + j)
  trees_letters j =
      let s = take to (pairs marks) in
      let e : drop j (drop from s) ≡ drop (from + j) s = drop-drop j from s in
      sym (ap (λ l. letters_all (forest (mark_of outs n r) l)) e) ∙ all_drop (mark_of outs n r) (part marks from to) j B.whole.all ∙ ap length e ∙ length-slice (from + j) to (pairs marks) (pairs_length marks to B.inside)

  module _ {area : List ℕ} {at : ℕ} where
    -- nothing is written
    pub address_start : AddressLoop outs marks n r from to m area at area at 0 m
    address_start =
        let z : m - m ≡ 0 = omega arith in
        record {
          inside = omega arith;
          address = [];
          reached = ap (place_among (trees_from m)) z ∙ among_root (trees_from m) (omega (arith, trees_letters m, B.there));
          ends = record { wrote = refl; long = omega arith };
        }

    module _ {now : List ℕ} {w c j : ℕ} (C : AddressLoop outs marks n r from to m area at now w c j) where
      -- no more numbers were written than letters passed
      pub address_room : at + j ≤ w + m
      address_room = omega (arith, C.ends.long, C.inside, among_short (trees_from j) (m - j), ap (λ (r : ℕ × List ℕ). length r.1) C.reached)

      pub address_few : c + j ≤ m
      address_few = omega (arith, C.inside, among_few (trees_from j) (m - j), ap (λ (r : ℕ × List ℕ). r.0) C.reached)

      pub address_done : j ≡ 0 → EndsBefore (place (first (forest (mark_of outs n r) (part marks from to))) m) area at now w
      unfolding letters_all
      address_done z =
          let F = forest (mark_of outs n r) (part marks from to) in
          let t = first F in
          let one = single F B.whole.one in
          let a : from ≡ from + 0 = omega arith in
          let b : m ≡ m - 0 = omega arith in
          let low : m < letters t = omega (arith, ap letters_all one, B.whole.all, length-slice from to (pairs marks) (pairs_length marks to B.inside), B.there) in
          let e : place_among F m ≡ (c, C.address) = ap₂ (λ k i. place_among (forest (mark_of outs n r) (part marks k to)) i) a b ∙ ap (λ k. place_among (trees_from k) (m - k)) (sym z) ∙ C.reached in
          let v : place t m ≡ C.address = sym (ap (λ (x : ℕ × List ℕ). x.1) (ap (λ f. place_among f m) one ∙ in_first t none m low)) ∙ ap (λ (x : ℕ × List ℕ). x.1) e in
          rw v C.ends

      module _ (more : 0 < j) {rank : ℕ} (right : rank ≡ rank_of outs (mark_at marks (from + (j - 1)))) where
        abbrev letter : Letter (ℕ × ℕ)
        letter = mark_of outs n r (mark_at marks (from + (j - 1)))

        -- the trees from letter j - 1 on are that letter in front of those from letter j on
        trees_put : trees_from (j - 1) ≡ put letter (trees_from j)
        unfolding forest
        trees_put =
            let k = from + (j - 1) in
            let e : k + 1 ≡ from + j = omega arith in
            let p = part_cons marks k to (omega (arith, C.inside, B.there)) B.inside in
            let q = pairs_at marks k (omega (arith, C.inside, B.there, B.inside)) in
            ap (forest (mark_of outs n r)) p ∙ ap₂ (λ x i. put (mark_of outs n r x) (forest (mark_of outs n r) (part marks i to))) (sym q) e

        letter_low : m - j < letters_all (trees_from j)
        letter_low = omega (arith, trees_letters j, C.inside, B.there)

        letter_read : 0 < letters_all (put letter (trees_from j))
        letter_read = omega (arith, ap letters_all trees_put, trees_letters (j - 1), C.inside, B.there)

        step_number : m - (j - 1) ≡ suc (m - j)
        step_number = omega (arith, C.inside)

        takes : taken letter ≡ rank
        takes = mark_takes outs n r (mark_at marks (from + (j - 1))) ∙ sym right

        among : (place_among (trees_from j) (m - j)).0 ≡ c
        among = ap (λ (y : ℕ × List ℕ). y.0) C.reached

        -- it is the parent
        pub address_up : c < rank → {after : List ℕ} → after ≡ set now (w - 1) (c + 1) → 0 < w → AddressLoop outs marks n r from to m area at after (w - 1) 0 (j - 1)
        address_up h q u =
            let x = w - 1 in
            let k : w ≡ suc x = omega arith in
            record {
              inside = omega (arith, C.inside);
              address = suc c ∷ C.address;
              reached = ap₂ place_among trees_put step_number ∙ up_parent (trees_from j) (m - j) letter_low letter letter_read (omega (arith, takes, among)) ∙ ap (λ (y : ℕ × List ℕ). (0, suc y.0 ∷ y.1)) C.reached;
              ends = record {
                wrote = q ∙ ap (λ l. set l x (c + 1)) C.ends.wrote ∙ set_front C.address area w x (c + 1) (omega arith) ∙ ap₂ (λ y i. sets (set area x y) i C.address) (add-one c) k;
                long = omega (arith, C.ends.long);
              };
            }

        -- or it stands before
        pub address_past : rank ≤ c → AddressLoop outs marks n r from to m area at now w (c + 1 - rank) (j - 1)
        address_past h =
            let z : suc ((place_among (trees_from j) (m - j)).0 - taken letter) ≡ c + 1 - rank = omega (arith, takes, among) in
            record {
              inside = omega (arith, C.inside);
              address = C.address;
              reached = ap₂ place_among trees_put step_number ∙ up_past (trees_from j) (m - j) letter_low letter letter_read (omega (arith, takes, among)) ∙ ap₂ (λ i v. (i, v)) z (ap (λ (y : ℕ × List ℕ). y.1) C.reached);
              ends = C.ends;
            }
