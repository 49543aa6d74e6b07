-- Cut upon cut: what one cut does to the patterns, what many do, and that the patterns are the common prefixes when no cut takes anything away.
-- Assumes nothing.
use Prim.Native.Nat.{ℕ, ◌+◌, ◌-◌, ◌*◌, ◌^◌, ◌≤◌, ◌<◌}
use native.Mathlib.Decide.{ℕ_discrete}
use native.Mathlib.Omega.{arith}
use mathlib.Core.Bool.{Bool, true, false, ◌||◌}
use mathlib.Core.List.{List}
use mathlib.Core.Logic.{◌≢◌, by_cases, ⊎_elim}
use mathlib.Core.Path.{◌≡◌, refl, sym, ap, ◌∙◌, fun_ext}
use lib.ListN.{length, get_or}
use borrow.Author.Count.{below_more}
use Rattle.theory.specs.EarliestForm.{expand, opened}
use Rattle.theory.specs.Inner.Graft.{graft}
use Rattle.theory.specs.Inner.Total.{total}
use Rattle.theory.specs.Lcp.{lcp}
use Rattle.theory.specs.Pref.{Prefs}
use Rattle.theory.specs.Prefix.{Pattern}
use Rattle.theory.specs.Size.{size}
use Rattle.theory.specs.Term.{var}
use Rattle.theory.specs.Transducer.{Transducer}
use Rattle.theory.specs.Wf.{Wf}
use Rattle.theory.proofs.Cut.{lcp_graft}
use Rattle.theory.proofs.Lcps.{lcp_left}
use Rattle.theory.proofs.Prefixes.{prefix_trans}
use Rattle.theory.proofs.PrefsExist.{total_falls}
use Rattle.theory.proofs.Sizes.{lcp_same, lcp_smaller}
use Rattle.theory.proofs.Terms.{conflict}
use Rattle.trees.specs.Alphabets.{Leaf}
use Rattle.trees.specs.Inner.Decode.{Whole}
use Rattle.formats.specs.Inner.Layout.{mark_of, body, body_number, transducer}
use Rattle.formats.specs.Inner.Marked.{part}
use Rattle.trees.specs.Refusal.{Decides}
use Rattle.formats.proofs.Pairs.{number_less}
use Rattle.forms.specs.Alphabet.{alphabet, children_inside}
use Rattle.prefixes.specs.Inner.Patterns.{top}
use Rattle.prefixes.specs.declared.pattern.Patterns.{Patterns}
use Rattle.prefixes.specs.Inner.Heads.{Stays, Heads, head_of, Cuttable, CutBy, Bodies, FixedAt, AllAbove, UnderLeaf, Cuts, CutRhs, CutState, Swept, Followed, Settled}
use Rattle.forms.specs.Inner.Tables.{machine}
use Rattle.prefixes.proofs.Grafts.{head_top}
use Rattle.prefixes.proofs.Above.{prefix_self, cut_above, above_end}
use Rattle.theory.proofs.NothingEarlier.{prefix_bind}
use Rattle.forms.proofs.Files.{machine_wf}

-- ---- the table stays where it is
pub stays_self : (p : Patterns) → Stays p p
stays_self p = record { heads = refl; sizes = refl; long_heads = refl; long_sizes = refl }

pub stays_more : {p q r : Patterns} → Stays p q → Stays q r → Stays p r
stays_more S R = record {
  heads = R.heads ∙ S.heads;
  sizes = R.sizes ∙ S.sizes;
  long_heads = R.long_heads ∙ S.long_heads;
  long_sizes = R.long_sizes ∙ S.long_sizes;
}

-- ---- one cut
module _ {ins : List ℕ} {M : Transducer ℕ} {n : ℕ} (W : (l : Leaf ins) → Wf (alphabet ins l) M (λ q. q < n))
    {h h' : ℕ → Pattern} (q a : ℕ) (state : q < n) (there : a < length ins) (e : h' q ≡ lcp (h q) (graft h (M.rhs q a))) (others : (p : ℕ) → p ≢ q → h' p ≡ h p) {b : Bool} (told : Decides (h' q ≡ h q → ⊥) b) where
  -- the pattern of q stays, or has fewer symbols
  stays : b ≡ false → h' q ≡ h q
  stays f = ⊎_elim (λ s. e ∙ s) (λ l. conflict (let z = told.complete (λ k. omega (arith, ap size (sym e ∙ k))) in let x = sym f ∙ z in cc)) (lcp_smaller (h q) (graft h (M.rhs q a)))

  smaller : b ≡ true → size (h' q) < size (h q)
  smaller t = ⊎_elim (λ s. absurd (told.sound t (e ∙ s))) (λ l. omega (arith, ap size e)) (lcp_smaller (h q) (graft h (M.rhs q a)))

  pub one_cut : Cuts ins M n h h' b
  one_cut = record {
    above = λ l all. cut_above l (W l) all h' q a state there e others;
    under = λ p v. by_cases (ℕ_discrete p q) (λ z. rw (z, e) (lcp_left (h q) (graft h (M.rhs q a)))) (λ k. rw (others p k) (prefix_self (h p)));
    less = λ t. total_falls h h' q n state others (smaller t);
    kept = λ f p. by_cases (ℕ_discrete p q) (λ z. rw z (stays f)) (others p);
  }

  pub one_fixed : b ≡ false → lcp (h q) (graft h (M.rhs q a)) ≡ h q
  one_fixed f = sym e ∙ stays f

-- ---- many
pub no_cut : {ins : List ℕ} {M : Transducer ℕ} {n : ℕ} (h : ℕ → Pattern) → Cuts ins M n h h false
no_cut h = record { above = λ l a. a; under = λ q v. prefix_self (h q); less = λ e. conflict (cc); kept = λ e p. refl }

pub same_patterns : {ins : List ℕ} {M : Transducer ℕ} {n : ℕ} {h h' : ℕ → Pattern} {b : Bool} → Cuts ins M n h h' b → b ≡ false → h' ≡ h
same_patterns C e = fun_ext (C.kept e)

module _ {ins : List ℕ} {M : Transducer ℕ} {n : ℕ} {h h₁ : ℕ → Pattern} {any : Bool} (C : Cuts ins M n h h₁ any) where
  -- no more than before
  pub not_more : total h₁ n ≤ total h n
  not_more = go any refl
    where
      go : (b : Bool) → any ≡ b → total h₁ n ≤ total h n
      go true e = omega (arith, C.less e)
      go false e = omega (arith, ap (λ k. total k n) (same_patterns C e))

both_false : (a b : Bool) → (a || b) ≡ false → (a ≡ false) × (b ≡ false)
both_false true b e = conflict (cc)
both_false false b e = (refl, e)

pub then_cuts : {ins : List ℕ} {M : Transducer ℕ} {n : ℕ} {h h₁ h₂ : ℕ → Pattern} {any b : Bool} → Cuts ins M n h h₁ any → Cuts ins M n h₁ h₂ b → Cuts ins M n h h₂ (any || b)
then_cuts {n = n} {h} {h₂ = h₂} {any} {b} C D = record {
  above = λ l a. D.above l (C.above l a);
  under = λ q v. prefix_trans (D.under q v) (C.under q v);
  less = go any refl;
  kept = λ e p. let w = both_false any b e in D.kept w.1 p ∙ C.kept w.0 p;
}
  where
    go : (a : Bool) → any ≡ a → (a || b) ≡ true → total h₂ n < total h n
    go true e t = omega (arith, C.less e, not_more D)
    go false e t = omega (arith, not_more C, D.less t)

-- ---- the end: the right-hand side for the leaf cuts nothing either
pub all_fixed : {ins : List ℕ} {M : Transducer ℕ} {n : ℕ} (l : Leaf ins) {leaf : ℕ} → Wf (alphabet ins l) M (λ q. q < n) → {h : ℕ → Pattern} → AllAbove ins l M n h → UnderLeaf M leaf n h → ((q : ℕ) → q < n → FixedAt ins leaf M h q) → Prefs (alphabet ins l) M (λ q. q < n) h
unfolding alphabet expand
all_fixed {ins} {M} l {leaf} W {h} all under fix = above_end l W all (λ q a sorts v k. by_cases (ℕ_discrete a leaf)
    (λ e. rw e (prefix_trans (under q v) (prefix_bind (M.rhs q leaf) (opened h))))
    (λ n. lcp_same (lcp_graft (h q) h (M.rhs q a) ∙ fix q v a (children_inside ins a k).0 n)))

-- ---- one right-hand side
module _ {ins outs starts bytes heads sizes other : List ℕ} (B : Bodies ins outs starts bytes heads sizes other) (q a : ℕ) (state : q < length sizes) (there : a < length ins)
    {from to : ℕ} (f : from ≡ get_or starts (body_number ins q a) 0) (t : to ≡ get_or starts (body_number ins q a + 1) 0) where
  -- the body of q and a is whole, and can be cut by
  body_whole : Whole (mark_of outs (length sizes) (get_or ins a 0)) (part bytes from to)
  unfolding body
  body_whole = rw (f, t) (B.layout.wholes.rhs q a state there)

  pub can_cut : Cuttable outs heads sizes bytes from to q other
  unfolding body
  can_cut =
      let less = number_less ins q (length sizes) a state there in
      record {
        table = B.table;
        few_symbols = B.layout.few_symbols;
        state = state;
        ordered = omega (arith, B.layout.bounds.ordered (body_number ins q a) less);
        inside = omega (arith, B.layout.bounds.inside (body_number ins q a + 1) (omega arith));
        few = omega (arith, B.layout.few (body_number ins q a) less);
        children = get_or ins a 0;
        whole = body_whole;
        room = B.room;
      }

  module _ {heads' sizes' : List ℕ} {b : Bool} (C : CutBy outs bytes from to q heads sizes heads' sizes' b) where
    cut_eq : head_of outs heads' sizes' q ≡ lcp (head_of outs heads sizes q) (graft (head_of outs heads sizes) ((machine ins outs starts bytes (length sizes)).rhs q a))
    unfolding transducer body
    cut_eq = rw (f, t) at (C.cut (get_or ins a 0) body_whole)

    pub body_cut : (leaf : ℕ) → CutRhs ins outs starts bytes leaf q a heads sizes heads' sizes' b
    body_cut leaf = record {
      table = C.table;
      cuts = one_cut (λ l. machine_wf l B.layout.wholes) q a state there cut_eq C.others C.told;
      fixed = λ e n. one_fixed (λ l. machine_wf l B.layout.wholes) q a state there cut_eq C.others C.told e;
    }

-- that for the leaf is left out
pub leaf_out : {ins outs starts bytes heads sizes : List ℕ} {leaf q a : ℕ} → Heads outs heads sizes → a ≡ leaf → CutRhs ins outs starts bytes leaf q a heads sizes heads sizes false
leaf_out T e = record { table = T; cuts = no_cut _; fixed = λ z n. absurd (n e) }

-- the pattern ⊤ cannot be cut
pub top_kept : {ins outs starts bytes heads sizes other : List ℕ} → Bodies ins outs starts bytes heads sizes other → (leaf q : ℕ) → q < length sizes → get_or heads (64 * q) 0 ≡ top → CutState ins outs starts bytes leaf q heads sizes heads sizes false
unfolding lcp
top_kept {outs = outs} {heads = heads} {sizes} B leaf q state e =
    let t : head_of outs heads sizes q ≡ var tt = head_top B.table B.layout.few_symbols q state e in
    record { table = B.table; cuts = no_cut _; fixed = λ z a h n. rw t }

-- ---- the loop over the right-hand sides of q: those before a are passed
pub record StateLoop (ins outs starts bytes : List ℕ) (leaf q : ℕ) (p₀ : Patterns) (other₀ : List ℕ) (p : Patterns) (other : List ℕ) (any : Bool) (a : ℕ) : Type 0 where
  pub inside : a ≤ length ins
  pub table : Heads outs p.heads.now p.sizes.now
  pub stays : Stays p₀ p
  pub same_other : length other ≡ length other₀
  pub cuts : Cuts ins (machine ins outs starts bytes (length p₀.sizes.now)) (length p₀.sizes.now) (head_of outs p₀.heads.now p₀.sizes.now) (head_of outs p.heads.now p.sizes.now) any
  pub passed : any ≡ false → (b : ℕ) → b < a → b ≢ leaf → lcp (head_of outs p₀.heads.now p₀.sizes.now q) (graft (head_of outs p₀.heads.now p₀.sizes.now) ((machine ins outs starts bytes (length p₀.sizes.now)).rhs q b)) ≡ head_of outs p₀.heads.now p₀.sizes.now q

pub state_start : {ins outs starts bytes other : List ℕ} {p : Patterns} (leaf q : ℕ) → Heads outs p.heads.now p.sizes.now → StateLoop ins outs starts bytes leaf q p other p other false 0
state_start leaf q T = record { inside = omega arith; table = T; stays = stays_self _; same_other = refl; cuts = no_cut _; passed = λ e b h. absurd (omega arith) }

module _ {ins outs starts bytes other₀ : List ℕ} {p₀ : Patterns} (B : Bodies ins outs starts bytes p₀.heads.now p₀.sizes.now other₀) {leaf q : ℕ}
    {p : Patterns} {other : List ℕ} {any : Bool} {a : ℕ} (L : StateLoop ins outs starts bytes leaf q p₀ other₀ p other any a) where
  module _ (there : a < length ins) {p' : Patterns} {b : Bool} (C : CutRhs ins outs starts bytes leaf q a p.heads.now p.sizes.now p'.heads.now p'.sizes.now b) (s : Stays p p') where
    rhs_here : Cuts ins (machine ins outs starts bytes (length p₀.sizes.now)) (length p₀.sizes.now) (head_of outs p.heads.now p.sizes.now) (head_of outs p'.heads.now p'.sizes.now) b
    rhs_here = rw (← L.stays.long_sizes) C.cuts

    pub state_next : {other' : List ℕ} → length other' ≡ length other → StateLoop ins outs starts bytes leaf q p₀ other₀ p' other' (any || b) (a + 1)
    state_next so = record {
      inside = omega arith;
      table = C.table;
      stays = stays_more L.stays s;
      same_other = so ∙ L.same_other;
      cuts = then_cuts L.cuts rhs_here;
      passed = λ z. let w = both_false any b z in below_more (λ b. b ≢ leaf → lcp (head_of outs p₀.heads.now p₀.sizes.now q) (graft (head_of outs p₀.heads.now p₀.sizes.now) ((machine ins outs starts bytes (length p₀.sizes.now)).rhs q b)) ≡ head_of outs p₀.heads.now p₀.sizes.now q) a (L.passed w.0) (rw (← same_patterns L.cuts w.0, ← L.stays.long_sizes) (C.fixed w.1));
    }

  pub state_end : length ins ≤ a → CutState ins outs starts bytes leaf q p₀.heads.now p₀.sizes.now p.heads.now p.sizes.now any
  state_end h = record { table = L.table; cuts = L.cuts; fixed = λ e b g. L.passed e b (omega arith) }

-- ---- the loop over the states, from the last to the first: those from q on are passed
pub record SweepLoop (ins outs starts bytes : List ℕ) (leaf : ℕ) (p₀ : Patterns) (other₀ : List ℕ) (p : Patterns) (other : List ℕ) (any : Bool) (q : ℕ) : Type 0 where
  pub inside : q ≤ length p₀.sizes.now
  pub table : Heads outs p.heads.now p.sizes.now
  pub stays : Stays p₀ p
  pub same_other : length other ≡ length other₀
  pub cuts : Cuts ins (machine ins outs starts bytes (length p₀.sizes.now)) (length p₀.sizes.now) (head_of outs p₀.heads.now p₀.sizes.now) (head_of outs p.heads.now p.sizes.now) any
  pub passed : any ≡ false → (r : ℕ) → q ≤ r → r < length p₀.sizes.now → FixedAt ins leaf (machine ins outs starts bytes (length p₀.sizes.now)) (head_of outs p₀.heads.now p₀.sizes.now) r

pub sweep_start : {ins outs starts bytes other : List ℕ} {p : Patterns} (leaf : ℕ) → Heads outs p.heads.now p.sizes.now → SweepLoop ins outs starts bytes leaf p other p other false (length p.sizes.now)
sweep_start leaf T = record { inside = omega arith; table = T; stays = stays_self _; same_other = refl; cuts = no_cut _; passed = λ e r h g. absurd (omega arith) }

module _ {ins outs starts bytes other₀ : List ℕ} {p₀ : Patterns} (B : Bodies ins outs starts bytes p₀.heads.now p₀.sizes.now other₀) {leaf : ℕ}
    {p : Patterns} {other : List ℕ} {any : Bool} {k : ℕ} (L : SweepLoop ins outs starts bytes leaf p₀ other₀ p other any k) where
  module _ (some : 0 < k) {p' : Patterns} {b : Bool} (C : CutState ins outs starts bytes leaf (k - 1) p.heads.now p.sizes.now p'.heads.now p'.sizes.now b) (s : Stays p p') where
    cuts_here : Cuts ins (machine ins outs starts bytes (length p₀.sizes.now)) (length p₀.sizes.now) (head_of outs p.heads.now p.sizes.now) (head_of outs p'.heads.now p'.sizes.now) b
    cuts_here = rw (← L.stays.long_sizes) C.cuts

    pub sweep_next : {other' : List ℕ} → length other' ≡ length other → SweepLoop ins outs starts bytes leaf p₀ other₀ p' other' (any || b) (k - 1)
    sweep_next so = record {
      inside = omega (arith, L.inside);
      table = C.table;
      stays = stays_more L.stays s;
      same_other = so ∙ L.same_other;
      cuts = then_cuts L.cuts cuts_here;
      passed = λ z r h g. let w = both_false any b z in by_cases (ℕ_discrete r (k - 1)) (λ f. rw f (rw (← same_patterns L.cuts w.0, ← L.stays.long_sizes) (C.fixed w.1))) (λ f. L.passed w.0 r (omega arith) g);
    }

  pub sweep_end : k ≡ 0 → Swept ins outs starts bytes leaf p₀.heads.now p₀.sizes.now p.heads.now p.sizes.now any
  sweep_end h = record { table = L.table; cuts = L.cuts; fixed = λ e r g. L.passed e r (omega arith) g }

-- ---- any number of cuts
-- what is left to cut of n states, and the words of flags together, which are less than 2 ^ 129
abbrev pub ahead : List ℕ → List ℕ → List ℕ → ℕ → ℕ → ℕ
ahead outs heads sizes n flags = 2 ^ 129 * total (head_of outs heads sizes) n + flags

-- the loops of `follow` and `settle`: the table was cut, and stays where it is
pub record FollowLoop (ins outs starts bytes : List ℕ) (p₀ : Patterns) (other₀ : List ℕ) (p : Patterns) (other : List ℕ) : Type 0 where
  pub stays : Stays p₀ p
  pub same_other : length other ≡ length other₀
  pub followed : Followed ins outs starts bytes p₀.heads.now p₀.sizes.now p.heads.now p.sizes.now

pub follow_start : {ins outs starts bytes other : List ℕ} {p : Patterns} → Heads outs p.heads.now p.sizes.now → FollowLoop ins outs starts bytes p other p other
follow_start T = record { stays = stays_self _; same_other = refl; followed = record { table = T; any = false; cuts = no_cut _ } }

module _ {ins outs starts bytes other₀ : List ℕ} {p₀ : Patterns} (B : Bodies ins outs starts bytes p₀.heads.now p₀.sizes.now other₀)
    {p : Patterns} {other : List ℕ} (L : FollowLoop ins outs starts bytes p₀ other₀ p other) where
  cuts_on : {h' : ℕ → Pattern} {b : Bool} → Cuts ins (machine ins outs starts bytes (length p.sizes.now)) (length p.sizes.now) (head_of outs p.heads.now p.sizes.now) h' b → Cuts ins (machine ins outs starts bytes (length p₀.sizes.now)) (length p₀.sizes.now) (head_of outs p.heads.now p.sizes.now) h' b
  cuts_on C = rw (← L.stays.long_sizes) C

  module _ {p' : Patterns} {b : Bool} (C : Cuts ins (machine ins outs starts bytes (length p.sizes.now)) (length p.sizes.now) (head_of outs p.heads.now p.sizes.now) (head_of outs p'.heads.now p'.sizes.now) b) where
    -- more cuts
    pub follow_next : Heads outs p'.heads.now p'.sizes.now → Stays p p' → {other' : List ℕ} → length other' ≡ length other → FollowLoop ins outs starts bytes p₀ other₀ p' other'
    follow_next T s so = record {
      stays = stays_more L.stays s;
      same_other = so ∙ L.same_other;
      followed = record { table = T; any = L.followed.any || b; cuts = then_cuts L.followed.cuts (cuts_on C) };
    }

  module _ {leaf q : ℕ} {p' : Patterns} {b : Bool} (C : CutState ins outs starts bytes leaf q p.heads.now p.sizes.now p'.heads.now p'.sizes.now b) (s : Stays p p') where
    pub less_cut : (k : ℕ) {k' : ℕ} → b ≡ true → k' < 2 ^ 129 → ahead outs p'.heads.now p'.sizes.now (length p₀.sizes.now) k' < ahead outs p.heads.now p.sizes.now (length p₀.sizes.now) k
    less_cut k e h = omega (arith, (cuts_on C.cuts).less e)

module _ {ins outs starts bytes other₀ : List ℕ} {p₀ : Patterns} (B : Bodies ins outs starts bytes p₀.heads.now p₀.sizes.now other₀)
    {p : Patterns} {other : List ℕ} (L : FollowLoop ins outs starts bytes p₀ other₀ p other) where
  -- ---- until nothing is cut
  module _ {leaf : ℕ} {p' : Patterns} {b : Bool} (C : Swept ins outs starts bytes leaf p.heads.now p.sizes.now p'.heads.now p'.sizes.now b) (s : Stays p p') where
    -- what cuts is not done, and leaves less to cut
    pub settle_less : b ≡ true → {p'' : Patterns} → Followed ins outs starts bytes p'.heads.now p'.sizes.now p''.heads.now p''.sizes.now → Stays p' p'' → total (head_of outs p''.heads.now p''.sizes.now) (length p''.sizes.now) < total (head_of outs p.heads.now p.sizes.now) (length p.sizes.now)
    settle_less t F r = rw (r.long_sizes, s.long_sizes) (let k = rw s.long_sizes at (not_more F.cuts) in omega (arith, C.cuts.less t))

    -- what cuts nothing ends with the common prefixes
    pub settle_end : b ≡ false → Settled ins outs starts bytes leaf p₀.heads.now p₀.sizes.now p'.heads.now p'.sizes.now
    settle_end e =
        let cuts = (follow_next B L C.cuts C.table s {other' = other} refl).followed.cuts in
        record {
          table = C.table;
          prefs = λ l a u. all_fixed l (machine_wf l B.layout.wholes) (cuts.above l a) (λ q v. prefix_trans (cuts.under q v) (u q v))
              (λ q h. rw (same_patterns C.cuts e, ← L.stays.long_sizes) (C.fixed e q (omega (arith, L.stays.long_sizes))));
        }
