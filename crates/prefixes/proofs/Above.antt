-- Patterns above the common prefixes: what holds the pref(q) of every state is above them, a cut keeps it so, and patterns that nothing cuts are the pref(q).
-- Assumes nothing.
use Prim.Native.Nat.{ℕ, ◌<◌}
use native.Mathlib.Decide.{ℕ_discrete}
use mathlib.Core.List.{List}
use mathlib.Core.Logic.{◌≢◌, by_cases}
use mathlib.Core.Path.{◌≡◌, refl, sym, ◌∙◌}
use lib.ListN.{length}
use Rattle.theory.specs.Inner.Graft.{graft}
use Rattle.theory.specs.Lcp.{lcp, lcps}
use Rattle.theory.specs.Pref.{Prefs}
use Rattle.theory.specs.Prefix.{Pattern, Prefix, any, keeps, Prefixes, no_more, also}
use Rattle.theory.specs.Term.{Term, Terms, var, bind, binds}
use Rattle.theory.specs.Transducer.{Transducer}
use Rattle.theory.specs.Vars.{AllVars, one, each, EachVars, done, both}
use Rattle.theory.specs.Wf.{Wf}
use Rattle.theory.proofs.Cut.{lcp_graft, prefs_fixed}
use Rattle.theory.proofs.Lcps.{lcp_keeps, lcp_right}
use Rattle.theory.proofs.NothingEarlier.{prefix_bind}
use Rattle.theory.proofs.Prefixes.{prefixes_count, prefix_trans, prefix_antisym}
use Rattle.theory.proofs.Prefs.{Fixed, fixpoint, pref_largest}
use Rattle.theory.proofs.PrefsExist.{prefs_exist}
use Rattle.theory.proofs.Terms.{bind_var}
use Rattle.theory.proofs.Vars.{all_map}
use Rattle.trees.specs.Alphabets.{Leaf}
use Rattle.forms.specs.Alphabet.{alphabet, children_of_lem}
use Rattle.prefixes.specs.Inner.Heads.{AllAbove, AllUnder}

-- ---- prefixes
-- a term is a prefix of itself
pub prefix_self : {A : Type 0} (t : Term A) → Prefix t t
prefix_self t = rw (bind_var t) at (prefix_bind t (λ a. var a))

module _ {A B C : Type 0} {f : A → Term B} {g : A → Term C} where
  mutual
    unfolding bind

    -- if what f puts for each variable is a prefix of what g puts for it, so is the whole
    bind_larger : {t : Term A} → AllVars (λ a. Prefix (f a) (g a)) t → Prefix (bind t f) (bind t g)
    bind_larger (one p) = p
    bind_larger (each ps) = keeps (binds_larger ps)

    binds_larger : {ts : Terms A} → EachVars (λ a. Prefix (f a) (g a)) ts → Prefixes (binds ts f) (binds ts g)
    binds_larger done = no_more
    binds_larger (both p ps) = also (bind_larger p) (binds_larger ps)

-- a grafted term is larger where the patterns of the states that it calls are
graft_larger : {Q : Type 0} (p h : Q → Pattern) {t : Term (ℕ × Q)} → AllVars (λ e. Prefix (p e.1) (h e.1)) t → Prefix (graft p t) (graft h t)
unfolding graft
graft_larger p h a = bind_larger a

mutual
  unfolding lcp

  -- a prefix of two terms is a prefix of the largest common prefix
  lcp_largest : {A B C : Type 0} {g : Term A} {h : Term B} {t : Term C} → Prefix g h → Prefix g t → Prefix g (lcp h t)
  lcp_largest any q = any
  lcp_largest (keeps {ts = hs} ps) (keeps {ts = ts} qs) = rw (lcp_keeps hs ts refl (sym (prefixes_count ps) ∙ prefixes_count qs)) (keeps (lcps_largest ps qs))

  lcps_largest : {A B C : Type 0} {gs : Terms A} {hs : Terms B} {ts : Terms C} → Prefixes gs hs → Prefixes gs ts → Prefixes gs (lcps hs ts)
  lcps_largest no_more no_more = no_more
  lcps_largest (also p ps) (also q qs) = also (lcp_largest p q) (lcps_largest ps qs)

-- ---- the pref(q)
module _ {ins : List ℕ} {M : Transducer ℕ} {n : ℕ} (l : Leaf ins) (W : Wf (alphabet ins l) M (λ q. q < n)) where
  -- the pattern pref(q) of each state
  pref : ℕ → Pattern
  pref = (prefs_exist W).0

  -- it is the largest common prefix of its outputs
  is_pref : Prefs (alphabet ins l) M (λ q. q < n) pref
  unfolding pref
  is_pref = (prefs_exist W).1

  -- no grafted right-hand side cuts one
  pref_fixed : (q a : ℕ) → q < n → a < length ins → Prefix (pref q) (graft pref (M.rhs q a))
  unfolding alphabet
  pref_fixed q a v there =
      let t = M.rhs q a in
      prefix_trans (rw (lcp_graft (pref q) pref t) at (lcp_largest (prefix_self (pref q)) (prefs_fixed W pref is_pref q a _ v (children_of_lem ins a there)))) (lcp_right (pref q) (graft pref t))

  -- what holds them is above the common prefixes
  pref_enough : (h : ℕ → Pattern) → AllUnder n pref h → AllAbove ins l M n h
  pref_enough h u q v g c = prefix_trans (pref_largest c (is_pref q v)) (u q v)

  -- and what is above the common prefixes holds them
  pref_under : {h : ℕ → Pattern} → AllAbove ins l M n h → AllUnder n pref h
  pref_under all q v = all q v (pref q) (is_pref q v).common

  module _ {h : ℕ → Pattern} (all : AllAbove ins l M n h) where
    -- a cut keeps the patterns above the common prefixes
    pub cut_above : (h' : ℕ → Pattern) (q a : ℕ) → q < n → a < length ins → h' q ≡ lcp (h q) (graft h (M.rhs q a)) → ((r : ℕ) → r ≢ q → h' r ≡ h r) → AllAbove ins l M n h'
    unfolding alphabet
    cut_above h' q a v there e others = pref_enough h' (λ r w. by_cases (ℕ_discrete r q)
        (λ z. rw (z, e) (lcp_largest (pref_under all q v) (prefix_trans (pref_fixed q a v there) (graft_larger pref h (all_map (λ c f. pref_under all c.1 f.valid) (W.rhs q a v (children_of_lem ins a there)))))))
        (λ k. rw (others r k) (pref_under all r w)))

    -- patterns above the common prefixes that no expanded right-hand side cuts are the pref(q)
    pub above_end : Fixed (alphabet ins l) M (λ q. q < n) h → Prefs (alphabet ins l) M (λ q. q < n) h
    above_end fix q v = rw (prefix_antisym (pref_largest (fixpoint W h fix q v) (is_pref q v)) (pref_under all q v)) (is_pref q v)
