-- Marks of two transducers side by side: where they go in step, where they clash, and what that says of the right-hand sides that they spell.
-- Assumes nothing.
use Prim.Native.Nat.{ℕ, suc, ◌+◌, ◌-◌, ◌*◌, ◌≤◌, ◌<◌}
use native.Mathlib.Decide.{ℕ_discrete, dec_lt}
use native.Mathlib.Omega.{arith}
use mathlib.Core.List.{List, [], ◌++◌, append_assoc, append-nil, map-append}
use mathlib.Core.Logic.{by_cases}
use mathlib.Core.Path.{◌≡◌, refl, sym, ap, ap₂, ◌∙◌, subst}
use lib.ListN.{length, get_or, take, drop, length-map, length-take, length-drop, take-append-drop, get_or-map, get_or-append}
use lib.Seq.{ext_get_or, length-slice, get_or-take, get_or-append-add}
use Rattle.std.specs.Prelude.{Some, None}
use Rattle.theory.proofs.Terms.{conflict}
use Rattle.theory.specs.Term.{Term, var, node, Terms, none, more, count}
use Rattle.theory.proofs.Along.{Along, here, under, Alongs, first, later, Are, Differ, node_node, node_call, call_node, call_call}
use Rattle.theory.proofs.Match.{Match, calls, nodes, Matches, nil, cons, Related}
use Rattle.trees.specs.Code.{Ranked, AllRanked, Mark, Call, preorder, marks}
use Rattle.theory.specs.Inner.Forests.{letters, letters_all}
use Rattle.trees.specs.Inner.Decode.{unknown, forest, Whole, first as first_of}
use Rattle.formats.specs.Inner.Layout.{pairs, mark_of}
use Rattle.formats.specs.Inner.Marked.{part}
use Rattle.trees.proofs.Codes.{word_length}
use Rattle.formats.proofs.Pairs.{pairs_length, pairs_at, getD_slice}
use Rattle.formats.proofs.Sheets.{whole_ranked}
use Rattle.transducer.proofs.Meaning.{body_read}
use Rattle.classes.specs.Inner.Classes.{key_of, keyed, at}
use Rattle.classes.proofs.Keys.{key_symbol, key_call, key_first, term_marks}
use Rattle.pairs.specs.Inner.Pairs.{InStep, FirstClash, Clashing, two_symbols, symbol_call, call_symbol, two_children}
use Rattle.earliest.specs.Inner.Places.{place, place_among}
use Rattle.earliest.proofs.Places.{place_first, place_behind}

-- ---- two marks
module _ (bytes bytes' : List ℕ) (i j : ℕ) where
  -- their first bytes are two
  pub clash_first : (get_or bytes (2 * i) 0 ≡ get_or bytes' (2 * j) 0 → ⊥) → Clashing bytes bytes' i j
  clash_first n = by_cases (ℕ_discrete (get_or bytes (2 * i) 0) 0)
      (λ e. symbol_call e (by_cases (ℕ_discrete (get_or bytes' (2 * j) 0) 0) (λ f. absurd (n (omega arith))) (λ f. omega arith)))
      (λ e. by_cases (ℕ_discrete (get_or bytes' (2 * j) 0) 0) (λ f. call_symbol (omega arith) f) (λ f. two_children (omega arith) (omega arith) n))

  -- they are two symbols
  pub clash_second : get_or bytes (2 * i) 0 ≡ get_or bytes' (2 * j) 0 → get_or bytes (2 * i) 0 ≡ 0 → (get_or bytes (2 * i + 1) 0 ≡ get_or bytes' (2 * j + 1) 0 → ⊥) → Clashing bytes bytes' i j
  clash_second e z n = two_symbols z (omega arith) n

-- ---- the first marks that clash
module _ {bytes bytes' : List ℕ} {i j n : ℕ} where
  pub clashes_at : (m : ℕ) → m < n → ((k : ℕ) → k < m → InStep bytes bytes' (i + k) (j + k)) → Clashing bytes bytes' (i + m) (j + m) → FirstClash bytes bytes' i j n (Some m)
  clashes_at m h s c = record {
    none = λ e. conflict (cc);
    small = λ k e. let z : m ≡ k = cc in rw (← z) h;
    step = λ k e. let z : m ≡ k = cc in rw (← z) s;
    clash = λ k e. let z : m ≡ k = cc in rw (← z) c;
  }

  pub no_clash : ((k : ℕ) → k < n → InStep bytes bytes' (i + k) (j + k)) → FirstClash bytes bytes' i j n None
  no_clash s = record { none = λ e. s; small = λ k e. conflict (cc); step = λ k e. conflict (cc); clash = λ k e. conflict (cc) }

-- ---- one key
-- marks in step whose calls are of states of one class have one key
key_same : (C D : List ℕ) (i j x y : ℕ) → i ≡ j → (i ≡ 0 → x ≡ y) → (0 < i → at C x ≡ at D y) → key_of C (i, x) ≡ key_of D (j, y)
key_same C D i j x y e f g = by_cases (ℕ_discrete i 0)
    (λ z. key_symbol C i x z ∙ ap (λ b. (0, b)) (f z) ∙ sym (key_symbol D j y (sym e ∙ z)))
    (λ z. key_call C i x (omega arith) ∙ ap₂ (λ a b. (a, b)) e (g (omega arith)) ∙ sym (key_call D j y (omega arith)))

-- ---- keys and terms
-- calls of states of one class
abbrev pub SameCall : List ℕ → List ℕ → ℕ × ℕ → ℕ × ℕ → Type 0
SameCall C D = Related (λ r r'. at C r ≡ at D r')

-- a call on a child, these counted from 1
abbrev FromOne : ℕ × ℕ → Type 0
FromOne e = 1 ≤ e.0

mutual
  unfolding Ranked

  call_ranked : (n r : ℕ) (outs : List ℕ) (t : Term (ℕ × ℕ)) → Ranked (Call n r) outs t → Ranked FromOne outs t
  call_ranked n r outs (var e) o = o.from_one
  call_ranked n r outs (node k ts) o = (o.0, o.1, calls_ranked n r outs ts o.2)

  calls_ranked : (n r : ℕ) (outs : List ℕ) (ts : Terms (ℕ × ℕ)) → AllRanked (Call n r) outs ts → AllRanked FromOne outs ts
  calls_ranked n r outs none o = o
  calls_ranked n r outs (more t ts) o = (call_ranked n r outs t o.0, calls_ranked n r outs ts o.1)

module _ (C D outs : List ℕ) where
  same_call : (e e' : ℕ × ℕ) → FromOne e → FromOne e' → key_of C e ≡ key_of D e' → SameCall C D e e'
  same_call e e' o p x = record {
    child = sym (key_first C e) ∙ ap (λ m. m.0) x ∙ key_first D e';
    state = ap (λ m. m.1) (sym (key_call C e.0 e.1 o) ∙ x ∙ key_call D e'.0 e'.1 p);
  }

  same_symbol : (k j : ℕ) → key_of C (0, k) ≡ key_of D (0, j) → k ≡ j
  same_symbol k j x = ap (λ m. m.1) (sym (key_symbol C 0 k refl) ∙ x ∙ key_symbol D 0 j refl)

  mutual
    unfolding preorder Ranked count

    -- terms over one alphabet that have the same keys match up to classes
    keys_match : (t u : Term (ℕ × ℕ)) (l m : List Mark) → Ranked FromOne outs t → Ranked FromOne outs u → keyed C (marks t ++ l) ≡ keyed D (marks u ++ m) → Match (SameCall C D) t u × (keyed C l ≡ keyed D m)
    keys_match (var e) (var e') l m o p x = (calls (same_call e e' o p (cc)), (cc))
    keys_match (var e) (node k us) l m o p x = let y : key_of C e ≡ key_of D (0, k) = cc in absurd (omega (arith, o, key_first C e, key_first D (0, k), ap (λ m. m.0) y))
    keys_match (node k ts) (var e) l m o p x = let y : key_of C (0, k) ≡ key_of D e = cc in absurd (omega (arith, p, key_first D e, key_first C (0, k), ap (λ m. m.0) y))
    keys_match (node k ts) (node j us) l m o p x =
        let s : k ≡ j = same_symbol k j (cc) in
        let w = keys_matches ts us l m (o.1 ∙ ap (λ k. get_or outs k 0) s ∙ sym p.1) o.2 p.2 (cc) in
        (nodes s w.0, w.1)

    keys_matches : (ts us : Terms (ℕ × ℕ)) (l m : List Mark) → count ts ≡ count us → AllRanked FromOne outs ts → AllRanked FromOne outs us → keyed C (term_marks ts ++ l) ≡ keyed D (term_marks us ++ m) → Matches (SameCall C D) ts us × (keyed C l ≡ keyed D m)
    keys_matches none none l m c o p x = (nil, x)
    keys_matches none (more u us) l m c o p x = absurd (omega arith)
    keys_matches (more t ts) none l m c o p x = absurd (omega arith)
    keys_matches (more t ts) (more u us) l m c o p x =
        let y = keys_match t u (term_marks ts ++ l) (term_marks us ++ m) o.0 p.0 (rw (append_assoc, append_assoc) at x) in
        let z = keys_matches ts us l m (omega arith) o.1 p.1 y.1 in
        (cons y.0 z.0, z.1)

-- ---- marks in step
-- the first m marks of two words have the same symbols and the same children
abbrev pub SameKeys : ℕ → List Mark → List Mark → Type 0
SameKeys m X Y = (k : ℕ) → k < m → key_of [] (get_or X k (0, 0)) ≡ key_of [] (get_or Y k (0, 0))

pub marks_length : (t : Term (ℕ × ℕ)) → length (marks t) ≡ letters t
marks_length t = word_length (λ x. unknown) (λ e. e) (λ b. (0, b)) t

-- two words with the same keys all along the first
same_keyed : (X Y : List Mark) → length X ≤ length Y → SameKeys (length X) X Y → keyed [] (X ++ drop (length X) Y) ≡ keyed [] (Y ++ [])
unfolding key_of
same_keyed X Y h s =
    let n = length X in
    let l : length (keyed [] X) ≡ n = length-map X (key_of []) in
    let l' : length (keyed [] (take n Y)) ≡ n = length-map (take n Y) (key_of []) ∙ length-take n Y ∙ omega arith in
    let e : keyed [] X ≡ keyed [] (take n Y) = ext_get_or (0, 0) _ _ (l ∙ sym l') (λ k g.
    let i : k < n = omega arith in
    get_or-map (key_of []) X k (0, 0) ∙ s k i ∙ ap (key_of []) (sym (get_or-take n Y k (0, 0) i)) ∙ sym (get_or-map (key_of []) (take n Y) k (0, 0))) in
    map-append (key_of []) X (drop n Y) ∙ ap (λ z. z ++ keyed [] (drop n Y)) e ∙ sym (map-append (key_of []) (take n Y) (drop n Y)) ∙ ap (keyed []) (take-append-drop n Y ∙ sym (append-nil Y))

module _ (outs : List ℕ) where
  no_longer : (t u : Term (ℕ × ℕ)) → Ranked FromOne outs t → Ranked FromOne outs u → letters t ≤ letters u → SameKeys (letters t) (marks t) (marks u) → letters u ≤ letters t
  no_longer t u o p h s =
      let l = marks_length t in
      let l' = marks_length u in
      let e = same_keyed (marks t) (marks u) (omega arith) (λ k g. s k (omega arith)) in
      let w = (keys_match [] [] outs t u (drop (length (marks t)) (marks u)) [] o p e).1 in
      omega (arith, sym (length-map (drop (length (marks t)) (marks u)) (key_of [])) ∙ ap length w, length-drop (length (marks t)) (marks u))

  -- of two terms in step, none ends before the other
  pub step_size : (t u : Term (ℕ × ℕ)) → Ranked FromOne outs t → Ranked FromOne outs u → ((k : ℕ) → k < letters t → k < letters u → key_of [] (get_or (marks t) k (0, 0)) ≡ key_of [] (get_or (marks u) k (0, 0))) → letters t ≡ letters u
  step_size t u o p s = by_cases (dec_lt (letters t) (letters u))
      (λ h. omega (arith, no_longer t u o p (omega arith) (λ k g. s k g (omega arith))))
      (λ h. omega (arith, no_longer u t p o (omega arith) (λ k g. sym (s k (omega arith) g))))

-- ---- the first mark of a term
-- it is m, which is a call on a child or a symbol
unfoldable pub Root : Mark → Term (ℕ × ℕ) → Type 0
Root m (var e) = (e ≡ m) × FromOne e
Root m (node k ts) = (0, k) ≡ m

-- the two terms begin with these marks
abbrev pub Begin : Mark → Mark → Term (ℕ × ℕ) → Term (ℕ × ℕ) → Type 0
Begin e e' t u = Root e t × Root e' u

pub root_call : (e : Mark) (t : Term (ℕ × ℕ)) → Root e t → 1 ≤ e.0 → t ≡ var e
unfolding Root
root_call e (var e') h o = ap var h.0
root_call e (node k ts) h o = absurd (omega (arith, ap (λ m. m.0) h))

-- ---- terms in step up to letter m, along its address
module _ (outs : List ℕ) (e e' : Mark) where
  mutual
    unfolding preorder Ranked count letters place Root

    along_step : (t u : Term (ℕ × ℕ)) (m : ℕ) → Ranked FromOne outs t → Ranked FromOne outs u → m < letters t → m < letters u → SameKeys m (marks t) (marks u) → get_or (marks t) m (0, 0) ≡ e → get_or (marks u) m (0, 0) ≡ e' → Along (Begin e e') t u (place t m)
    along_step (var a) (var b) ℕ.zero o p h g s x y = let z : Begin e e' (var a) (var b) = ((x, o), (y, p)) in here z
    along_step (var a) (node j us) ℕ.zero o p h g s x y = let z : Begin e e' (var a) (node j us) = ((x, o), y) in here z
    along_step (node k ts) (var b) ℕ.zero o p h g s x y = let z : Begin e e' (node k ts) (var b) = (x, (y, p)) in here z
    along_step (node k ts) (node j us) ℕ.zero o p h g s x y = let z : Begin e e' (node k ts) (node j us) = (x, y) in here z
    along_step (var a) u (suc m) o p h g s x y = absurd (omega arith)
    along_step (node k ts) (var b) (suc m) o p h g s x y = absurd (omega arith)
    along_step (node k ts) (node j us) (suc m) o p h g s x y =
        let z : k ≡ j = same_symbol [] [] outs k j (s 0 (omega arith)) in
        under z (alongs_step ts us m (o.1 ∙ ap (λ k. get_or outs k 0) z ∙ sym p.1) o.2 p.2 (omega arith) (omega arith) (λ i l. s (suc i) (omega arith)) x y)

    alongs_step : (ts us : Terms (ℕ × ℕ)) (m : ℕ) → count ts ≡ count us → AllRanked FromOne outs ts → AllRanked FromOne outs us → m < letters_all ts → m < letters_all us → SameKeys m (term_marks ts) (term_marks us) → get_or (term_marks ts) m (0, 0) ≡ e → get_or (term_marks us) m (0, 0) ≡ e' → Alongs (Begin e e') ts us (suc (place_among ts m).0) (place_among ts m).1
    alongs_step none us m c o p h g s x y = absurd (omega arith)
    alongs_step (more t ts) none m c o p h g s x y = absurd (omega arith)
    alongs_step (more t ts) (more u us) m c o p h g s x y =
        let l = marks_length t in
        let l' = marks_length u in
        let at-t : (k : ℕ) → k < letters t → get_or (marks t ++ term_marks ts) k (0, 0) ≡ get_or (marks t) k (0, 0) = λ k i. get_or-append (marks t) (term_marks ts) (0, 0) k (omega arith) in
        let at-u : (k : ℕ) → k < letters u → get_or (marks u ++ term_marks us) k (0, 0) ≡ get_or (marks u) k (0, 0) = λ k i. get_or-append (marks u) (term_marks us) (0, 0) k (omega arith) in
        let both : (k : ℕ) → k < m → k < letters t → k < letters u → key_of [] (get_or (marks t) k (0, 0)) ≡ key_of [] (get_or (marks u) k (0, 0)) = λ k i a b. ap (key_of []) (sym (at-t k a)) ∙ s k i ∙ ap (key_of []) (at-u k b) in
        by_cases (dec_lt m (letters t))
        (λ i.
        let q : m < letters u = by_cases (dec_lt m (letters u)) (λ d. d) (λ d. absurd (omega (arith, step_size outs t u o.0 p.0 (λ k a b. both k (omega arith) a b)))) in
        subst (λ v. Alongs (Begin e e') (more t ts) (more u us) (suc v.0) v.1) (sym (place_first t ts m i)) (first (along_step t u m o.0 p.0 i q (λ k a. both k a (omega arith) (omega arith)) (sym (at-t m i) ∙ x) (sym (at-u m q) ∙ y))))
        (λ i.
        let d = m - letters t in
        let z : letters t ≡ letters u = step_size outs t u o.0 p.0 (λ k a b. both k (omega arith) a b) in
        let w : m ≡ letters t + d = omega arith in
        let far-t : (k : ℕ) → get_or (marks t ++ term_marks ts) (letters t + k) (0, 0) ≡ get_or (term_marks ts) k (0, 0) = λ k. ap (λ a. get_or (marks t ++ term_marks ts) (a + k) (0, 0)) (sym l) ∙ get_or-append-add (marks t) (term_marks ts) k (0, 0) in
        let far-u : (k : ℕ) → get_or (marks u ++ term_marks us) (letters t + k) (0, 0) ≡ get_or (term_marks us) k (0, 0) = λ k. ap (λ a. get_or (marks u ++ term_marks us) (a + k) (0, 0)) (z ∙ sym l') ∙ get_or-append-add (marks u) (term_marks us) k (0, 0) in
        let below = alongs_step ts us d (omega arith) o.1 p.1 (omega arith) (omega arith)
        (λ k a. ap (key_of []) (sym (far-t k)) ∙ s (letters t + k) (omega arith) ∙ ap (key_of []) (far-u k))
        (sym (far-t d) ∙ ap (λ a. get_or (marks t ++ term_marks ts) a (0, 0)) (sym w) ∙ x)
        (sym (far-u d) ∙ ap (λ a. get_or (marks u ++ term_marks us) a (0, 0)) (sym w) ∙ y) in
        subst (λ v. Alongs (Begin e e') (more t ts) (more u us) (suc v.0) v.1) (sym (ap (place_among (more t ts)) w ∙ place_behind t ts d)) (later below))

module _ {A B : Type 0} {R S : Term A → Term B → Type 0} (f : (t : Term A) (u : Term B) → R t u → S t u) where
  mutual
    -- what R implies holds along the same address
    pub along_map : {X : Term A} {Y : Term B} {v : List ℕ} → Along R X Y v → Along S X Y v
    along_map (here r) = here (f _ _ r)
    along_map (under e ms) = under e (alongs_map ms)

    alongs_map : {X : Terms A} {Y : Terms B} {i : ℕ} {v : List ℕ} → Alongs R X Y i v → Alongs S X Y i v
    alongs_map (first m) = first (along_map m)
    alongs_map (later ms) = later (alongs_map ms)

-- ---- bodies in bytes
-- the marks number from up to to are one right-hand side over r children
pub record Spelt (outs : List ℕ) (n r : ℕ) (bytes : List ℕ) (from to : ℕ) : Type 0 where
  pub ordered : from ≤ to
  pub inside : 2 * to ≤ length bytes
  pub whole : Whole (mark_of outs n r) (part bytes from to)

-- that right-hand side
abbrev pub spelt : List ℕ → ℕ → ℕ → List ℕ → ℕ → ℕ → Term (ℕ × ℕ)
spelt outs n r bytes from to = first_of (forest (mark_of outs n r) (part bytes from to))

-- the mark number j, by its bytes
abbrev pub byte_mark : List ℕ → ℕ → Mark
byte_mark bytes j = (get_or bytes (2 * j) 0, get_or bytes (2 * j + 1) 0)

module _ {outs : List ℕ} {n r : ℕ} {bytes : List ℕ} {from to : ℕ} (X : Spelt outs n r bytes from to) where
  spelt_ranked : Ranked FromOne outs (spelt outs n r bytes from to)
  spelt_ranked = call_ranked n r outs (spelt outs n r bytes from to) (whole_ranked outs n r (part bytes from to) X.whole).0

  spelt_marks : marks (spelt outs n r bytes from to) ≡ part bytes from to
  spelt_marks = (whole_ranked outs n r (part bytes from to) X.whole).1

  part_length : length (part bytes from to) ≡ to - from
  part_length = length-slice from to (pairs bytes) (pairs_length bytes to X.inside)

  pub spelt_size : letters (spelt outs n r bytes from to) ≡ to - from
  spelt_size = sym (marks_length (spelt outs n r bytes from to)) ∙ ap length spelt_marks ∙ part_length

  part_at : (k : ℕ) → k < to - from → get_or (part bytes from to) k (0, 0) ≡ byte_mark bytes (from + k)
  part_at k h =
      let g = getD_slice from to k (pairs bytes) (pairs_length bytes to X.inside) (omega (arith, part_length)) in
      g.1 ∙ pairs_at bytes (from + k) (omega (arith, X.inside, g.0))

  pub spelt_at : (k : ℕ) → k < to - from → get_or (marks (spelt outs n r bytes from to)) k (0, 0) ≡ byte_mark bytes (from + k)
  spelt_at k h = ap (λ l. get_or l k (0, 0)) spelt_marks ∙ part_at k h

  -- its calls are of the n states
  pub spelt_state : (k : ℕ) → k < to - from → 0 < get_or bytes (2 * (from + k)) 0 → get_or bytes (2 * (from + k) + 1) 0 < n
  spelt_state k h c =
      let d = part_at k h in
      rw (← ap (λ m. m.1) d) ((body_read outs n r (part bytes from to) X.whole).callable k (omega (arith, part_length)) (rw (ap (λ m. m.0) d) c)).1

  -- on one of its r children
  pub spelt_child : (k : ℕ) → k < to - from → 0 < get_or bytes (2 * (from + k)) 0 → get_or bytes (2 * (from + k)) 0 ≤ r
  spelt_child k h c =
      let d = part_at k h in
      rw (← ap (λ m. m.0) d) ((body_read outs n r (part bytes from to) X.whole).callable k (omega (arith, part_length)) (rw (ap (λ m. m.0) d) c)).0

module _ {outs : List ℕ} {n n' r : ℕ} {bytes bytes' : List ℕ} {from to from' to' : ℕ} (X : Spelt outs n r bytes from to) (Y : Spelt outs n' r bytes' from' to') where
  step_key : (k : ℕ) → k < to - from → k < to' - from' → InStep bytes bytes' (from + k) (from' + k) → key_of [] (get_or (marks (spelt outs n r bytes from to)) k (0, 0)) ≡ key_of [] (get_or (marks (spelt outs n' r bytes' from' to')) k (0, 0))
  step_key k h g s = ap (key_of []) (spelt_at X k h) ∙ key_same [] [] _ _ _ _ s.first s.second (λ o. refl) ∙ sym (ap (key_of []) (spelt_at Y k g))

  -- bodies in step have one size
  pub same_size : ((k : ℕ) → k < to - from → k < to' - from' → InStep bytes bytes' (from + k) (from' + k)) → to - from ≡ to' - from'
  same_size s =
      let l = spelt_size X in
      let l' = spelt_size Y in
      omega (arith, step_size outs _ _ (spelt_ranked X) (spelt_ranked Y) (λ k h g. step_key k (omega arith) (omega arith) (s k (omega arith) (omega arith))))

  -- bodies that are one up to classes are right-hand sides that match
  pub spelt_match : (C D : List ℕ) → to - from ≡ to' - from' → ((k : ℕ) → k < to - from → InStep bytes bytes' (from + k) (from' + k)) → ((k : ℕ) → k < to - from → 0 < get_or bytes (2 * (from + k)) 0 → at C (get_or bytes (2 * (from + k) + 1) 0) ≡ at D (get_or bytes' (2 * (from' + k) + 1) 0)) → Match (SameCall C D) (spelt outs n r bytes from to) (spelt outs n' r bytes' from' to')
  unfolding key_of
  spelt_match C D e s c =
      let t = spelt outs n r bytes from to in
      let u = spelt outs n' r bytes' from' to' in
      let l : length (keyed C (marks t)) ≡ to - from = length-map (marks t) (key_of C) ∙ marks_length t ∙ spelt_size X in
      let l' : length (keyed D (marks u)) ≡ to' - from' = length-map (marks u) (key_of D) ∙ marks_length u ∙ spelt_size Y in
      let same : keyed C (marks t) ≡ keyed D (marks u) = ext_get_or (0, 0) _ _ (l ∙ e ∙ sym l') (λ k h.
      let i : k < to - from = omega arith in
      get_or-map (key_of C) (marks t) k (0, 0) ∙ ap (key_of C) (spelt_at X k i) ∙ key_same C D _ _ _ _ (s k i).first (s k i).second (c k i) ∙ sym (ap (key_of D) (spelt_at Y k (omega arith))) ∙ sym (get_or-map (key_of D) (marks u) k (0, 0))) in
      (keys_match C D outs t u [] [] (spelt_ranked X) (spelt_ranked Y) (rw (append-nil, append-nil) same)).0

  module _ (m : ℕ) (h : m < to - from) (g : m < to' - from') (s : (k : ℕ) → k < m → InStep bytes bytes' (from + k) (from' + k)) where
    -- bodies in step up to mark m, along its address
    pub spelt_along : Along (Begin (byte_mark bytes (from + m)) (byte_mark bytes' (from' + m))) (spelt outs n r bytes from to) (spelt outs n' r bytes' from' to') (place (spelt outs n r bytes from to) m)
    spelt_along =
        let l = spelt_size X in
        let l' = spelt_size Y in
        along_step outs (byte_mark bytes (from + m)) (byte_mark bytes' (from' + m)) (spelt outs n r bytes from to) (spelt outs n' r bytes' from' to') m (spelt_ranked X) (spelt_ranked Y) (omega arith) (omega arith) (λ k i. step_key k (omega arith) (omega arith) (s k i)) (spelt_at X m h) (spelt_at Y m g)

-- two calls on one child
pub begin_calls : {c x y : ℕ} → 1 ≤ c → (t u : Term (ℕ × ℕ)) → Begin (c, x) (c, y) t u → Are (var (c, x)) (var (c, y)) t u
begin_calls o t u b = (root_call _ t b.0 o, root_call _ u b.1 o)

-- of two symbols that clash the names are two
pub symbols_differ : {bytes bytes' : List ℕ} {i j : ℕ} → Clashing bytes bytes' i j → 0 ≡ get_or bytes (2 * i) 0 → 0 ≡ get_or bytes' (2 * j) 0 → get_or bytes (2 * i + 1) 0 ≡ get_or bytes' (2 * j + 1) 0 → ⊥
symbols_differ (two_symbols e f n) z w h = n h
symbols_differ (symbol_call e f) z w h = omega arith
symbols_differ (call_symbol e f) z w h = omega arith
symbols_differ (two_children e f n) z w h = omega arith

-- of two calls that clash the children are two
pub children_differ : {bytes bytes' : List ℕ} {i j : ℕ} → Clashing bytes bytes' i j → 0 < get_or bytes (2 * i) 0 → 0 < get_or bytes' (2 * j) 0 → get_or bytes (2 * i) 0 ≡ get_or bytes' (2 * j) 0 → ⊥
children_differ (two_symbols e f n) z w h = omega arith
children_differ (symbol_call e f) z w h = omega arith
children_differ (call_symbol e f) z w h = omega arith
children_differ (two_children e f n) z w h = n h

-- marks that clash are the roots of terms that differ
pub begin_differ : {bytes bytes' : List ℕ} {i j : ℕ} → Clashing bytes bytes' i j → (t u : Term (ℕ × ℕ)) → Begin (byte_mark bytes i) (byte_mark bytes' j) t u → Differ t u
unfolding Root
begin_differ c (node k ts) (node l us) b = node_node (λ e. symbols_differ c (ap (λ m. m.0) b.0) (ap (λ m. m.0) b.1) (sym (ap (λ m. m.1) b.0) ∙ ap (λ m. m.0) e ∙ ap (λ m. m.1) b.1))
begin_differ c (node k ts) (var e) b = node_call
begin_differ c (var e) (node k us) b = call_node
begin_differ c (var e) (var e') b = call_call (λ h. children_differ c (omega (arith, b.0.1, ap (λ m. m.0) b.0.0)) (omega (arith, b.1.1, ap (λ m. m.0) b.1.0)) (sym (ap (λ m. m.0) b.0.0) ∙ h ∙ ap (λ m. m.0) b.1.0))
