-- What is noted of states and trees: the sizes and levels of what states write, and where it stands. Nothing at first, then one more.
-- Assumes nothing.
use Prim.Native.Nat.{ℕ, suc, ◌+◌, ◌-◌, ◌/◌, ◌%◌, ◌≤◌, ◌<◌}
use native.Mathlib.Numerals.{add-one}
use native.Mathlib.Omega.{arith}
use mathlib.Core.Bool.{Bool, true, false}
use mathlib.Core.Path.{◌≡◌, refl, sym, ap, ap₂, ◌∙◌}
use mathlib.Core.List.{List, [], ◌∷◌, ◌++◌, append_assoc}
use lib.Dec.{eqb}
use lib.ListN.{length, get_or, set, take, drop, length-set, length-drop, replicate, length-replicate}
use lib.Seq.{sets, sets-eq, length-sets, take_at, drop_at, length-take-le, take-suc, get_or-drop, drop-set-add, take-set-le, get_or-set_same, get_or-set_other}
use borrow.Author.Tests.{eqb-true, eqb-false}
use Rattle.formats.proofs.Writing.{sets-append}
use Rattle.transducer.specs.Inner.Written.{applied, applied_levels, note_key, few_levels, Noted, StandsAt, Standing, Wrote}

zeros : (n k : ℕ) → ◌≡◌ {A = ℕ} (get_or (replicate n 0) k 0) 0
zeros ℕ.zero k = refl
zeros (suc n) ℕ.zero = refl
zeros (suc n) (suc k) = zeros n k

pub nothing_noted : (ins starts bytes depths s : List ℕ) → Noted ins starts bytes depths s (replicate 4096 0) (replicate 4096 0)
nothing_noted ins starts bytes depths s = record {
  long = length-replicate {A = ℕ} 4096 0;
  wide = length-replicate {A = ℕ} 4096 0;
  right = λ k q p h e. absurd (omega (arith, zeros 4096 k));
  levels = λ k q p h e. absurd (omega (arith, zeros 4096 k));
}

pub one_noted : {ins starts bytes depths s keys sizes keys' sizes' : List ℕ} → Noted ins starts bytes depths s keys sizes → (k q p n note : ℕ) → k < 4096 → p < 4096 → n ≡ length (applied ins starts bytes s q p) → note / 512 ≡ note_key q p → note % 512 ≡ few_levels (applied_levels ins starts bytes depths s q p) → keys' ≡ set keys k note → sizes' ≡ set sizes k n → Noted ins starts bytes depths s keys' sizes'
one_noted {ins} {starts} {bytes} {depths} {s} {keys} {sizes} {keys'} {sizes'} N k q p n note h l e u v f g = record {
  long = ap length f ∙ length-set keys k note ∙ N.long;
  wide = ap length g ∙ length-set sizes k n ∙ N.wide;
  right = λ j r o b d. go j r o b (rw f at d) (eqb j k) refl;
  levels = λ j r o b d. rw f (levels_go j r o b (rw f at d) (eqb j k) refl);
}
  where
    noted_there : get_or (set keys k note) k 0 ≡ note
    noted_there = get_or-set_same keys k note 0 (omega (arith, N.long))

    -- the entry at k is of q and p
    same_key : (j r o : ℕ) → o < 4096 → get_or (set keys k note) j 0 / 512 ≡ note_key r o → eqb j k ≡ true → (j ≡ k) × (q ≡ r) × (p ≡ o)
    same_key j r o i d t =
        let z : j ≡ k = eqb-true j k t in
        let b : get_or (set keys k note) j 0 ≡ note = ap (λ v. get_or (set keys k note) v 0) z ∙ noted_there in
        let x : note_key q p ≡ note_key r o = sym u ∙ sym (ap (λ v. v / 512) b) ∙ d in
        (z, omega arith, omega arith)

    go : (j r o : ℕ) → o < 4096 → get_or (set keys k note) j 0 / 512 ≡ note_key r o → (b : Bool) → eqb j k ≡ b → get_or sizes' j 0 ≡ length (applied ins starts bytes s r o)
    go j r o i d true t =
        let (z, x, y) = same_key j r o i d t in
        ap (λ v. get_or v j 0) g ∙ ap (λ v. get_or (set sizes k n) v 0) z ∙ get_or-set_same sizes k n 0 (omega (arith, N.wide)) ∙ e ∙ rw (x, y)
    go j r o i d false t =
        let z = eqb-false j k t in
        ap (λ v. get_or v j 0) g ∙ get_or-set_other sizes k j n 0 z ∙ N.right j r o i (sym (ap (λ v. v / 512) (get_or-set_other keys k j note 0 z)) ∙ d)

    levels_go : (j r o : ℕ) → o < 4096 → get_or (set keys k note) j 0 / 512 ≡ note_key r o → (b : Bool) → eqb j k ≡ b → get_or (set keys k note) j 0 % 512 ≡ few_levels (applied_levels ins starts bytes depths s r o)
    levels_go j r o i d true t =
        let (z, x, y) = same_key j r o i d t in
        ap (λ v. get_or (set keys k note) v 0 % 512) z ∙ ap (λ v. v % 512) noted_there ∙ v ∙ rw (x, y)
    levels_go j r o i d false t =
        let z = eqb-false j k t in
        let w = get_or-set_other keys k j note 0 z in
        ap (λ v. v % 512) w ∙ N.levels j r o i (sym (ap (λ v. v / 512) w) ∙ d)

-- ---- where it stands
-- what stands before a place stays when something is written from there on
before_sets : (v l : List ℕ) (a n i : ℕ) → a + n ≤ i → take n (drop a (sets l i v)) ≡ take n (drop a l)
before_sets [] l a n i h = refl
before_sets (x ∷ v) l a n i h =
    let e : a + (i - a) ≡ i = omega arith in
    before_sets v (set l i x) a n (suc i) (omega arith)
    ∙ ap (λ k. take n (drop a (set l k x))) (sym e)
    ∙ ap (take n) (drop-set-add a l (i - a) x)
    ∙ take-set-le n (drop a l) (i - a) x (omega arith)

-- what was written can be read there
read_back : (w l : List ℕ) (at : ℕ) → at + length w ≤ length l → take (length w) (drop at (sets l at w)) ≡ w
read_back w l at h =
    let rest = drop (at + length w) l in
    ap (λ m. take (length w) (drop at m)) (sets-eq w l at h ∙ append_assoc (take at l) w rest)
    ∙ ap (take (length w)) (drop_at (take at l) (w ++ rest) at (length-take-le at l (omega arith)))
    ∙ take_at w rest (length w) refl

stands_on : {w area : List ℕ} {e at : ℕ} (v : List ℕ) → StandsAt w area e at → StandsAt w (sets area at v) e (at + length v)
stands_on {w} {area} {e} {at} v S = record { before = omega (arith, S.before); long = S.long; there = λ h. before_sets v area (e - length w) (length w) at (omega (arith, S.before, S.long)) ∙ S.there (omega (arith, length-sets area at v)) }

-- what was just written, if there was room for it, stands
just_written : (w area : List ℕ) (at : ℕ) {area' : List ℕ} → length area' ≡ length area → (at + length w ≤ length area → area' ≡ sets area at w) → StandsAt w area' (at + length w) (at + length w)
just_written w area at {area'} same wrote =
    let z : at + length w - length w ≡ at = omega arith in
    record { before = omega arith; long = omega arith; there = λ h. let r : at + length w ≤ length area = omega (arith, same) in ap₂ (λ i l. take (length w) (drop i l)) z (wrote r) ∙ read_back w area at r }

module _ {ins starts bytes depths s : List ℕ} where
  pub nothing_standing : {keys sizes : List ℕ} (area : List ℕ) → Noted ins starts bytes depths s keys sizes → Standing ins starts bytes depths s keys sizes (replicate 4096 0) area 0
  nothing_standing area N = record { noted = N; all_places = length-replicate {A = ℕ} 4096 0; stands = λ k q p h e f. absurd (omega (arith, zeros 4096 k)) }

  -- more was written
  pub standing_on : {keys sizes places area area' : List ℕ} {at r : ℕ} (v : List ℕ) → Standing ins starts bytes depths s keys sizes places area at → area' ≡ sets area at v → r ≡ at + length v → Standing ins starts bytes depths s keys sizes places area' r
  standing_on v S e f = record { noted = S.noted; all_places = S.all_places; stands = λ k q p h g i. rw (e, f) (stands_on v (S.stands k q p h g i)) }

  -- it stands where it stood, if more is counted
  pub standing_later : {keys sizes places area : List ℕ} {at r : ℕ} → Standing ins starts bytes depths s keys sizes places area at → at ≤ r → Standing ins starts bytes depths s keys sizes places area r
  standing_later S l = record { noted = S.noted; all_places = S.all_places; stands = λ k q p h g i. let A = S.stands k q p h g i in record { before = omega (arith, A.before); long = A.long; there = A.there } }

  -- what state q writes on the tree at p was written from `at` on, if there was room for it, and ends at r
  pub one_standing : {keys sizes places area' keys' sizes' places' : List ℕ} {r : ℕ} (area : List ℕ) → Standing ins starts bytes depths s keys sizes places area' r → (k q p n at note : ℕ) → k < 4096 → p < 4096
      → length area' ≡ length area → r ≡ at + length (applied ins starts bytes s q p) → (at + length (applied ins starts bytes s q p) ≤ length area → area' ≡ sets area at (applied ins starts bytes s q p))
      → n ≡ r - at → note / 512 ≡ note_key q p → note % 512 ≡ few_levels (applied_levels ins starts bytes depths s q p) → keys' ≡ set keys k note → sizes' ≡ set sizes k n → places' ≡ set places k r → Standing ins starts bytes depths s keys' sizes' places' area' r
  one_standing {keys} {sizes} {places} {area'} {keys'} {sizes'} {places'} {r} area S k q p n at note h l same end wrote e x m f g i = record {
    noted = one_noted S.noted k q p n note h l (omega arith) x m f g;
    all_places = ap length i ∙ length-set places k r ∙ S.all_places;
    stands = λ j t o b c d. rw i (go j t o b (rw f at c) (rw i at d) (eqb j k) refl);
  }
    where
      go : (j t o : ℕ) → o < 4096 → get_or (set keys k note) j 0 / 512 ≡ note_key t o → 0 < get_or (set places k r) j 0 → (b : Bool) → eqb j k ≡ b → StandsAt (applied ins starts bytes s t o) area' (get_or (set places k r) j 0) r
      go j t o b c d true u =
          let z : j ≡ k = eqb-true j k u in
          let w : get_or (set keys k note) j 0 ≡ note = ap (λ v. get_or (set keys k note) v 0) z ∙ get_or-set_same keys k note 0 (omega (arith, S.noted.long)) in
          let y = ap (λ v. get_or (set places k r) v 0) z ∙ get_or-set_same places k r 0 (omega (arith, S.all_places)) in
          let same_key : note_key q p ≡ note_key t o = sym x ∙ sym (ap (λ v. v / 512) w) ∙ c in
          let m : t ≡ q = omega arith in
          let m' : o ≡ p = omega arith in
          rw (y, m, m', end) (just_written (applied ins starts bytes s q p) area at same wrote)
      go j t o b c d false u =
          let z = eqb-false j k u in
          let y = get_or-set_other places k j r 0 z in
          rw y (S.stands j t o b (sym (ap (λ v. v / 512) (get_or-set_other keys k j note 0 z)) ∙ c) (omega (arith, y)))

-- ---- copying from where it stands
getD_before : (v l : List ℕ) (i at : ℕ) → i < at → get_or (sets l at v) i 0 ≡ get_or l i 0
getD_before [] l i at h = refl
getD_before (x ∷ v) l i at h = getD_before v (set l at x) i (suc at) (omega arith) ∙ get_or-set_other l at i x 0 (omega arith)

-- k of n elements from one place on are copied to another, and one more
pub copy_more : (l : List ℕ) (from n at k : ℕ) {m m' : List ℕ} → from + n ≤ at → at + n ≤ length l → k < n → m ≡ sets l at (take k (drop from l)) → m' ≡ set m (at + k) (get_or m (from + k) 0) → m' ≡ sets l at (take (k + 1) (drop from l))
copy_more l from n at k {m} {m'} h g i e f =
    let D = drop from l in
    let x = get_or D k 0 in
    let less : k < length D = omega (arith, length-drop from l) in
    let y : get_or m (from + k) 0 ≡ x = ap (λ l. get_or l (from + k) 0) e ∙ getD_before (take k D) l (from + k) at (omega arith) ∙ sym (get_or-drop from l k 0) in
    let z : at + length (take k D) ≡ at + k = ap (λ n. at + n) (length-take-le k D (omega arith)) in
    let s : take k D ++ (x ∷ []) ≡ take (k + 1) D = rw add-one (sym (take-suc D k 0 less)) in
    f ∙ ap (set m (at + k)) y ∙ ap (λ l. set l (at + k) x) e ∙ ap (λ i. set (sets l at (take k D)) i x) (sym z) ∙ sym (sets-append (take k D) (x ∷ []) l at) ∙ ap (sets l at) s

-- what state q writes on the tree at p is noted at k, n symbols
module _ {ins starts bytes depths s keys sizes places area : List ℕ} {at : ℕ} (S : Standing ins starts bytes depths s keys sizes places area at) (k q p : ℕ) {n : ℕ} (h : p < 4096) (e : get_or keys k 0 / 512 ≡ note_key q p) (z : n ≡ get_or sizes k 0) where
  pub size_there : n ≡ length (applied ins starts bytes s q p)
  size_there = z ∙ S.noted.right k q p h e

  -- r is where it ends from `at` on
  module _ {limit r : ℕ} (f : (r ≡ at + n) × (r ≤ limit)) where
    ends_at : r ≡ at + length (applied ins starts bytes s q p)
    ends_at = omega (arith, f.0, size_there)

    -- there is no room for it
    pub no_room : length area < r → Wrote (applied ins starts bytes s q p) at limit area area r × Standing ins starts bytes depths s keys sizes places area r
    no_room g = (record { end = ends_at; low = f.1; wrote = λ l. absurd (omega (arith, ends_at)) }, standing_later S (omega (arith, ends_at)))

    -- there is, and it stands already, up to m
    module _ {m : ℕ} (g : r ≤ length area) (y : m ≡ get_or places k 0) (i : 0 < m) where
      stood : StandsAt (applied ins starts bytes s q p) area m at
      stood = rw y (S.stands k q p h e (omega arith))

      pub copy_fits : (n ≤ m) × (m - n + n ≤ at) × (at + n ≤ length area)
      copy_fits = (omega (arith, size_there, stood.long), omega (arith, size_there, stood.long, stood.before), omega (arith, f.0))

      pub copied_again : {area' : List ℕ} → area' ≡ sets area at (take n (drop (m - n) area)) → Wrote (applied ins starts bytes s q p) at limit area area' r × Standing ins starts bytes depths s keys sizes places area' r
      copied_again w =
          let v = w ∙ ap (λ n. sets area at (take n (drop (m - n) area))) size_there ∙ ap (sets area at) (stood.there (omega (arith, stood.before, f.0))) in
          (record { end = ends_at; low = f.1; wrote = λ _. v }, standing_on (applied ins starts bytes s q p) S v ends_at)
