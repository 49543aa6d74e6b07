-- Renumbering by a rule: equivalent canonical transducers become identical, and what is numbered by a rule stays as it is (02, F-12).
use Prim.Native.Nat.{ℕ, ◌<◌, ◌≤◌, suc, ◌+◌}
use native.Mathlib.Decide.{dec_lt, ℕ_discrete}
use native.Mathlib.Omega.{arith}
use mathlib.Core.Path.{◌≡◌, refl, sym, ap, ap₂, subst, ◌∙◌}
use mathlib.Core.Logic.{◌↔◌}
use mathlib.Core.List.{List, [], ◌∷◌, map, map-id, Memᴰ}
use mathlib.Core.Option.{Option, some, some-injective}
use lib.ListN.{get_elem?, length}
use Rattle.theory.specs.Canonical.{Canonical}
use Rattle.theory.specs.Equivalent.{Equivalent}
use Rattle.theory.specs.Grammar.{Grammar}
use Rattle.theory.specs.Inner.Closed.{Closed, Listed}
use Rattle.theory.specs.Inner.CodesForm.{CodesForm}
use Rattle.theory.specs.Inner.Keeps.{Keeps}
use Rattle.theory.specs.Listing.{Indexes, listed}
use Rattle.theory.specs.NormalForm.{Identical, NormalForm}
use Rattle.theory.specs.Numbered.{Numbered, count_up}
use Rattle.theory.specs.Orders.{first_meeting}
use Rattle.theory.specs.Reached.{Reached, by_initial, by_rhs, AllReached}
use Rattle.theory.specs.Registry.{History}
use Rattle.theory.specs.Rule.{Order, IsRule, Renumbers, NumberedBy, NormalFormBy, CodesFormBy}
use Rattle.theory.specs.Term.{Term, Terms, var, sub, subs, mapT}
use Rattle.theory.specs.Transducer.{Transducer, renamed}
use Rattle.theory.specs.Wf.{Wf}
use Rattle.theory.proofs.Agree.{EquivValid}
use Rattle.theory.proofs.Discovery.{Every, distinct_indexes}
use Rattle.theory.proofs.DiscoveryExists.{pigeon_list}
use Rattle.theory.proofs.Equivalences.{equivalent_refl, equivalent_sym, equivalent_trans}
use Rattle.theory.proofs.Existence.{normal_exists}
use Rattle.theory.proofs.Identity.{identical_sym, identical_trans, identical_equivalent, identical_canonical}
use Rattle.theory.proofs.Listings.{listed_sort, listed_rhs, listed_equivalent, listed_canonical}
use Rattle.theory.proofs.Lists.{get_lt}
use Rattle.theory.proofs.Match.{Match, Related, Matches, calls, nodes, nil, cons, match_bind}
use Rattle.theory.proofs.Morphism.{renamed_id}
use Rattle.theory.proofs.Numbers.{count_get, count_length, own_indexes, own_identical}
use Rattle.theory.proofs.OpenRuns.{all_vars}
use Rattle.theory.proofs.Pigeon.{pigeon}
use Rattle.theory.proofs.Preorders.{stands_listed}
use Rattle.theory.proofs.Readings.{mapped_identical}
use Rattle.theory.proofs.Registry.{numbers_exact}
use Rattle.theory.proofs.Renaming.{renaming}
use Rattle.theory.proofs.Rules.{finite_below, reached_valid, renumbers_maps, meeting_rule}
use Rattle.theory.proofs.Terms.{conflict, bind_var}
use Rattle.theory.proofs.Vars.{at_all}

mutual
  unfolding sub subs

  -- where one of two matching terms has a variable, the other has one, and the two are related
  match_at : {A B : Type 0} {R : A → B → Type 0} {X : Term A} {Y : Term B} {a : A} → Match R X Y → (v : List ℕ) → sub X v ≡ some (var a) → (b : B) × R a b
  match_at {a} (calls {a = x} {b = b} r) [] e = let z : x ≡ a = cc in (b, rw z at r)
  match_at (calls r) (i ∷ v) e = conflict (cc)
  match_at (nodes z ms) [] e = conflict (cc)
  match_at (nodes z ms) (i ∷ v) e = matches_at ms i v e

  matches_at : {A B : Type 0} {R : A → B → Type 0} {X : Terms A} {Y : Terms B} {a : A} → Matches R X Y → (i : ℕ) (v : List ℕ) → subs X i v ≡ some (var a) → (b : B) × R a b
  matches_at nil i v e = conflict (cc)
  matches_at (cons m ms) ℕ.zero v e = conflict (cc)
  matches_at (cons m ms) (suc ℕ.zero) v e = match_at m v e
  matches_at (cons m ms) (suc (suc i)) v e = matches_at ms (suc i) v e

-- terms that match up to a relation that f gives are renamed by f
match_renamed : {Q Q' : Type 0} {R : Q → Q' → Type 0} {X : Term (ℕ × Q)} {Y : Term (ℕ × Q')} (f : Q → Q') → ((q : Q) (q' : Q') → R q q' → f q ≡ q') → Match (Related R) X Y → Y ≡ renamed f X
unfolding renamed mapT
match_renamed {X = X} {Y} f g m = sym (match_bind {P = λ a. Unit {0}} {P' = λ a. Unit {0}} m (all_vars (λ a. tt) X) (all_vars (λ a. tt) Y) (λ a b u v r i. var (r.child i, g a.1 b.1 r.state i)) ∙ bind_var Y)

-- the value of f below n, and 0 from n on
total : {n : ℕ} → ((q : ℕ) → q < n → ℕ) → (q : ℕ) → Dec (q < n) → ℕ
total f q (yes l) = f q l
total f q (no g) = 0

total_below : {n : ℕ} (P : ℕ → ℕ → Type 0) (f : (q : ℕ) → q < n → ℕ) → ((q : ℕ) (l : q < n) → P q (f q l)) → (q : ℕ) → q < n → (d : Dec (q < n)) → P q (total f q d)
unfolding total
total_below P f h q l (yes l') = h q l'
total_below P f h q l (no g) = absurd (g l)

module _ {G : Grammar} {M M' : Transducer ℕ} {n n' : ℕ} (C : Canonical G M (λ q. q < n)) (C' : Canonical G M' (λ q. q < n')) (h : Equivalent G M M') where
  -- a reached state has an equivalent one in the other transducer
  partner : {q : ℕ} → Reached G M q → (q' : ℕ) × EquivValid G M M' (λ q. q < n) (λ q. q < n') q q'
  partner (by_initial c) = let x = match_at (renaming C C' h).initial c.address c.there in (x.0.1, x.1.state)
  partner (by_rhs {p} {a = a} r k c) =
      let y = partner r in
      let x = match_at ((renaming C C' h).rhs p y.0 a y.1 k) c.address c.there in
      (x.0.1, x.1.state)

  module _ (all : AllReached G M n) where
    -- the number of the equivalent state
    to : ℕ → ℕ
    to q = total {n = n} (λ q l. (partner (all q l)).0) q (dec_lt q n)

    to_equiv : (q : ℕ) → q < n → EquivValid G M M' (λ q. q < n) (λ q. q < n') q (to q)
    unfolding to
    to_equiv q l = total_below (EquivValid G M M' (λ q. q < n) (λ q. q < n')) (λ q l. (partner (all q l)).0) (λ q l. (partner (all q l)).1) q l (dec_lt q n)

    to_inj : (q r : ℕ) → q < n → r < n → to q ≡ to r → q ≡ r
    to_inj q r l m e = (renaming C C' h).one_left q r (to r) (rw e at (to_equiv q l)) (to_equiv r m)

    to_le : n ≤ n'
    to_le = pigeon n' n (λ j l. to j) (λ j l. (to_equiv j l).valid') (λ i j k l e. to_inj i j k l e)

    to_that : (q q' : ℕ) → EquivValid G M M' (λ q. q < n) (λ q. q < n') q q' → to q ≡ q'
    to_that q q' r = (renaming C C' h).one_right q (to q) q' (to_equiv q r.valid) r

-- Equivalent canonical transducers, all of whose states are reached, are one with other numbers.
pub canonical_renumbers : {G : Grammar} {M M' : Transducer ℕ} {n n' : ℕ} → Canonical G M (λ q. q < n) → Canonical G M' (λ q. q < n') → Equivalent G M M' → AllReached G M n → AllReached G M' n' → (n ≡ n') × ((f : ℕ → ℕ) × Renumbers G M M' n f)
canonical_renumbers {n = n} {n'} C C' h all all' =
    let f = to C C' h all in
    let l = to_le C C' h all in
    let l' = to_le C' C (equivalent_sym h) all' in
    let e : n ≡ n' = omega arith in (
      e,
      (
        f,
        record {
          below = λ q l. let b = (to_equiv C C' h all q l).valid' in omega (arith, e);
          one_to_one = to_inj C C' h all;
          sort = λ q l. sym (to_equiv C C' h all q l).equiv.sort;
          initial = match_renamed f (to_that C C' h all) (renaming C C' h).initial;
          rhs = λ q a l k. match_renamed f (to_that C C' h all) ((renaming C C' h).rhs q (f q) a (to_equiv C C' h all q l) k);
        },
      ),
    )

-- a list under a map that gives each of its items the number where it stands is 0, 1, …
count_map : (f : ℕ → ℕ) (p : ℕ) (L : List ℕ) → ((k q : ℕ) → get_elem? L k ≡ some q → f q ≡ p + k) → map f L ≡ count_up p (length L)
unfolding count_up
count_map f p [] h = refl
count_map f p (q ∷ L) h = ap₂ ◌∷◌ (h 0 q refl ∙ omega arith) (count_map f (suc p) L (λ k r e. h (suc k) r e ∙ omega arith))

module _ {G : Grammar} {Lists : Order} (R : IsRule G Lists) where
  module _ {M : Transducer ℕ} {n : ℕ} {L : List ℕ} (W : Wf G M (λ q. q < n)) (r : Lists M n L) where
    -- the listed states are below n
    pub rule_valid : Every (λ q. q < n) L
    rule_valid = record { every = λ k q e. reached_valid W ((R.reached W r q).1 (record { number = k; there = e })) }

    -- the list of a rule is closed
    pub rule_closed : {idx : ℕ → ℕ} → Indexes L idx → Closed G M L idx
    rule_closed {idx} I = record {
      initial = at_all M.initial (λ v e s. stands_listed I ((R.reached W r e.1).0 (by_initial (record { address = v; child = e.0; there = s }))));
      rhs = λ q a l k. at_all (M.rhs q a) (λ v e s. stands_listed I ((R.reached W r e.1).0 (by_rhs ((R.reached W r q).1 (record { number = idx q; there = l })) k (record { address = v; child = e.0; there = s }))));
    }

    -- the list has n states, if all are reached
    pub rule_length : {idx : ℕ → ℕ} → Indexes L idx → AllReached G M n → length L ≡ n
    rule_length {idx} I all =
        let here : (q : ℕ) → q < n → Listed L idx q = λ q l. stands_listed I ((R.reached W r q).0 (all q l)) in
        let more = pigeon (length L) n (λ q l. idx q) (λ q l. get_lt L (idx q) (here q l)) (λ i j k l e. some-injective _ _ (sym (here i k) ∙ (ap (get_elem? L) e ∙ here j l))) in
        omega (arith, pigeon_list (R.once W r) rule_valid (finite_below n), count_length 0 n)

  -- Alike, renumbered by one rule: equivalent canonical transducers, all of whose states are reached, are identical once they are listed by the rule.
  pub rule_identical : {M M' : Transducer ℕ} {n n' : ℕ} {L L' : List ℕ} {idx idx' : ℕ → ℕ} → Canonical G M (λ q. q < n) → Canonical G M' (λ q. q < n') → Equivalent G M M' → AllReached G M n → AllReached G M' n' → Lists M n L → Lists M' n' L' → Indexes L idx → Indexes L' idx' → Identical G (listed M L idx) (listed M' L' idx') (length L) (length L')
  rule_identical {M} {M'} {n} {n'} {L} {L'} C C' h all all' r r' I I' =
      let (e, x) = canonical_renumbers C C' h all all' in
      let f = x.0 in
      let z : map f L ≡ L' = R.one_list C'.wf (subst (λ m. Lists M' m (map f L)) e (R.same_order C.wf x.1 r)) r' in
      rw z at (mapped_identical C.wf (renumbers_maps x.1) x.1.sort x.1.one_to_one (rule_closed C.wf r I) (rule_valid C.wf r) I (rw (← z) at I'))

  -- listed by the rule a transducer has other numbers
  listed_renumbers : {M : Transducer ℕ} {n : ℕ} {L : List ℕ} {idx : ℕ → ℕ} → Wf G M (λ q. q < n) → AllReached G M n → Lists M n L → Indexes L idx → Renumbers G M (listed M L idx) n idx
  unfolding listed
  listed_renumbers {M} {n} {L} {idx} W all r I =
      let here : (q : ℕ) → q < n → Listed L idx q = λ q l. stands_listed I ((R.reached W r q).0 (all q l)) in
      let e : length L ≡ n = rule_length W r I all in
      record {
        below = λ q l. let b = get_lt L (idx q) (here q l) in omega (arith, e);
        one_to_one = λ q s l m z. some-injective _ _ (sym (here q l) ∙ (ap (get_elem? L) z ∙ here s m));
        sort = λ q l. listed_sort M L idx (idx q) (here q l);
        initial = refl;
        rhs = λ q a l k. listed_rhs M L idx (idx q) a (here q l);
      }

  -- what is listed by the rule is numbered by it
  listed_numbered : {M : Transducer ℕ} {n : ℕ} {L : List ℕ} {idx : ℕ → ℕ} → Wf G M (λ q. q < n) → AllReached G M n → Lists M n L → Indexes L idx → NumberedBy Lists (listed M L idx) (length L)
  listed_numbered {M} {n} {L} {idx} W all r I =
      let e : length L ≡ n = rule_length W r I all in
      let z : map idx L ≡ count_up 0 (length L) = count_map idx 0 L (λ k q s. I.index k q s ∙ omega arith) in
      subst (λ K. Lists (listed M L idx) (length L) K) z (subst (λ m. Lists (listed M L idx) m (map idx L)) (sym e) (R.same_order W (listed_renumbers W all r I) r))

  -- The normal form by the rule: a canonical transducer equivalent to M, all of whose states are reached, listed by the rule.
  pub rule_normal : {Q : Type 0} {M : Transducer Q} {N : Transducer ℕ} {n : ℕ} {L : List ℕ} {idx : ℕ → ℕ} → Equivalent G M N → Canonical G N (λ q. q < n) → AllReached G N n → Lists N n L → Indexes L idx → NormalFormBy G Lists M (listed N L idx) (length L)
  rule_normal {n = n} {L} {idx} h C all r I =
      let valid : (q : ℕ) → Listed L idx q → q < n = λ q l. (rule_valid C.wf r).every (idx q) q l in
      let c = rule_closed C.wf r I in
      record {
        equivalent = equivalent_trans h (listed_equivalent C.wf I c valid);
        canonical = listed_canonical C.wf I c valid (λ q l. C.earliest q (valid q l)) (λ p q k l. C.reduced p q (valid p k) (valid q l));
        numbered = listed_numbered C.wf all r I;
      }

  module _ {N : Transducer ℕ} {n : ℕ} (W : Wf G N (λ q. q < n)) (r : NumberedBy Lists N n) where
    -- all states of a transducer that is numbered by a rule are reached
    pub numbered_reached : AllReached G N n
    numbered_reached q l = (R.reached W r q).1 (record { number = q; there = count_get 0 n q l ∙ ap some (omega arith) })

  -- Two transducers are equivalent exactly if their normal forms by one rule are identical.
  pub rule_unique : {Q Q' : Type 0} {M : Transducer Q} {M' : Transducer Q'} {N N' : Transducer ℕ} {n n' : ℕ} → NormalFormBy G Lists M N n → NormalFormBy G Lists M' N' n' → Equivalent G M M' ↔ Identical G N N' n n'
  rule_unique {N = N} {N'} {n} {n'} F F' = (
    λ e. identical_trans (own_identical N n) (identical_trans
        (rule_identical F.canonical F'.canonical (equivalent_trans (equivalent_sym F.equivalent) (equivalent_trans e F'.equivalent)) (numbered_reached F.canonical.wf F.numbered) (numbered_reached F'.canonical.wf F'.numbered) F.numbered F'.numbered (own_indexes n) (own_indexes n'))
        (identical_sym (own_identical N' n'))),
    λ i. equivalent_trans F.equivalent (equivalent_trans (identical_equivalent i F.canonical.wf) (equivalent_sym F'.equivalent)),
  )

  -- A canonical transducer that is numbered by the rule is its own normal form by it.
  pub rule_self : {N : Transducer ℕ} {n : ℕ} → Canonical G N (λ q. q < n) → NumberedBy Lists N n → NormalFormBy G Lists N N n
  rule_self C r = record { equivalent = equivalent_refl; canonical = C; numbered = r }

  -- So the normal form of a normal form by the rule is itself.
  pub rule_again : {Q : Type 0} {M : Transducer Q} {N N' : Transducer ℕ} {n n' : ℕ} → NormalFormBy G Lists M N n → NormalFormBy G Lists N N' n' → Identical G N N' n n'
  rule_again F F' = (rule_unique (rule_self F.canonical F.numbered) F').0 equivalent_refl

-- identical transducers have their states under the same numbers
same_renumbers : {G : Grammar} {N N' : Transducer ℕ} {n n' : ℕ} → Identical G N N' n n' → Renumbers G N N' n (λ q. q)
same_renumbers {N = N} i = record {
  below = λ q l. l;
  one_to_one = λ q r l m e. e;
  sort = λ q l. sym (i.sort q l);
  initial = sym i.initial ∙ sym (renamed_id N.initial);
  rhs = λ q a l k. sym (i.rhs q a _ l k) ∙ sym (renamed_id (N.rhs q a));
}

module _ {G : Grammar} {Lists : Order} (R : IsRule G Lists) where
  -- identical transducers have one list
  pub lists_same : {N N' : Transducer ℕ} {n n' : ℕ} {L : List ℕ} → Identical G N N' n n' → Wf G N (λ q. q < n) → Lists N n L → Lists N' n' L
  lists_same {N' = N'} {L = L} i W r = subst (λ m. Lists N' m L) i.number (subst (Lists N' _) (map-id L) (R.same_order W (same_renumbers i) r))

  -- What is identical to a normal form by the rule is one.
  pub rule_same : {Q : Type 0} {M : Transducer Q} {N N' : Transducer ℕ} {n n' : ℕ} → Identical G N N' n n' → NormalFormBy G Lists M N n → NormalFormBy G Lists M N' n'
  rule_same {N' = N'} {n' = n'} i F = record {
    equivalent = equivalent_trans F.equivalent (identical_equivalent i F.canonical.wf);
    canonical = identical_canonical i F.canonical;
    numbered = subst (λ m. Lists N' n' (count_up 0 m)) i.number (lists_same i F.canonical.wf F.numbered);
  }

  -- Where the items of a registry code normal forms by the rule, one code for identical ones, two numbers are equal exactly if the transducers entered are equivalent.
  pub rule_exact : {S T I : Type 0} {First : S → Type 0} {Step : S → T → Option ℕ → S → Type 0} {items : S → List I} {Item : T → Option I → Type 0} (States : T → Type 0) (meaning : (t : T) → Transducer (States t)) (Codes : I → Transducer ℕ → ℕ → Type 0) → Keeps First Step items Item → ((t : T) (x : I) → Item t (some x) → CodesFormBy G Lists (meaning t) Codes x) → ((x x' : I) (N N' : Transducer ℕ) (n n' : ℕ) → Codes x N n → Codes x' N' n' → Identical G N N' n n' ↔ (x ≡ x')) → {log : List (T × Option ℕ)} {s : S} {t t' : T} {n n' : ℕ} → History First Step log s → Memᴰ (t, some n) log → Memᴰ (t', some n') log → Equivalent G (meaning t) (meaning t') ↔ (n ≡ n')
  rule_exact States meaning Codes K form one_code h m m' = numbers_exact K {E = λ t t'. Equivalent G (meaning t) (meaning t')} (λ t t' x x' p p'.
      let f = form t x p in
      let f' = form t' x' p' in
      let u = rule_unique R f.normal f'.normal in
      let w = one_code x x' f.form f'.form f.states f'.states f.codes f'.codes in
      (λ e. w.0 (u.0 e), λ e. u.1 (w.1 e))) h m m'

-- M has a normal form by the rule
pub record HasFormBy {Q : Type 0} (G : Grammar) (Lists : Order) (M : Transducer Q) : Type 0 where
  pub form : Transducer ℕ
  pub states : ℕ
  pub normal : NormalFormBy G Lists M form states

-- The normal form of M is its normal form by rule 1.
pub normal_first : {Q : Type 0} {G : Grammar} {M : Transducer Q} {N : Transducer ℕ} {n : ℕ} → NormalForm G M N n ↔ NormalFormBy G (first_meeting G) M N n
unfolding Numbered
normal_first = (λ F. record { equivalent = F.equivalent; canonical = F.canonical; numbered = F.numbered }, λ F. record { equivalent = F.equivalent; canonical = F.canonical; numbered = F.numbered })

-- What codes the normal form of M codes its normal form by rule 1.
pub codes_first : {Q I : Type 0} {G : Grammar} {M : Transducer Q} {Codes : I → Transducer ℕ → ℕ → Type 0} {x : I} → CodesForm G M Codes x ↔ CodesFormBy G (first_meeting G) M Codes x
codes_first = (
  λ c. record { form = c.form; states = c.states; normal = normal_first.0 c.normal; codes = c.codes },
  λ c. record { form = c.form; states = c.states; normal = normal_first.1 c.normal; codes = c.codes },
)

-- All states of a normal form are reached.
pub normal_reached : {Q : Type 0} {G : Grammar} {M : Transducer Q} {N : Transducer ℕ} {n : ℕ} → NormalForm G M N n → AllReached G N n
normal_reached {G = G} F = numbered_reached (meeting_rule G) F.canonical.wf (normal_first.0 F).numbered

-- The normal form of M, listed by a rule, is its normal form by that rule.
pub normal_by : {Q : Type 0} {G : Grammar} {Lists : Order} (R : IsRule G Lists) {M : Transducer Q} {N : Transducer ℕ} {n : ℕ} {L : List ℕ} {idx : ℕ → ℕ} → NormalForm G M N n → Lists N n L → Indexes L idx → NormalFormBy G Lists M (listed N L idx) (length L)
normal_by R F r I = rule_normal R F.equivalent F.canonical (normal_reached F) r I

-- Every finite well-formed transducer has a normal form by the rule.
pub rule_exists : {G : Grammar} {Lists : Order} (R : IsRule G Lists) {M : Transducer ℕ} {n : ℕ} → Wf G M (λ q. q < n) → HasFormBy G Lists M
rule_exists R W =
    let x = normal_exists W in
    let r = R.some_list x.form x.states x.normal.canonical.wf in
    record { form = _; states = _; normal = normal_by R x.normal r.1 (distinct_indexes ℕ_discrete (R.once x.normal.canonical.wf r.1)) }
