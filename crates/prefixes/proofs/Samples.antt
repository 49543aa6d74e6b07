-- A sample of document 01: the transducer M over the alphabets `pairs`, its file, and its common prefix.
-- Assumes nothing.
use Prim.Native.Nat.{ℕ, suc, ◌<◌}
use native.Mathlib.Omega.{arith}
use mathlib.Core.List.{List, [], ◌∷◌}
use mathlib.Core.Option.{some}
use mathlib.Core.Path.{◌≡◌, refl, ap}
use lib.ListN.{get_or}
use Rattle.theory.specs.Earliest.{Splits}
use Rattle.theory.specs.Grammar.{Grammar, Allowed, rule, AllAllowed, end, next}
use Rattle.theory.specs.Lcp.{Patterns}
use Rattle.theory.specs.Pref.{IsPref}
use Rattle.theory.specs.Prefix.{Prefix, any, keeps, no_more, also, Pattern, Open}
use Rattle.theory.specs.Term.{Term, var, node, Terms, none, more, Tree, bind, count, sub, subs, root, symbol_at}
use Rattle.theory.specs.Transducer.{Transducer, output, closed, run, pick}
use Rattle.theory.proofs.Terms.{conflict, subs_zero}
use Rattle.trees.specs.Alphabets.{inputs, outputs, Leaf}
use Rattle.trees.specs.Code.{Ranked, preorder, Call}
use Rattle.formats.specs.Samples.{pairs, M, d, e, M-pref}
use Rattle.formats.specs.Sheet.{Sheet, count_bytes, mark_bytes, body_bytes, each, terms}
use Rattle.transducer.proofs.Samples.{below, leaf}
use Rattle.forms.specs.Alphabet.{alphabet, children_of}

-- ---- P holds of each address where the pattern has ⊤: so of whatever address is open
abbrev mutual
  pub EachOpen : Pattern → (List ℕ → Type 0) → Type 0
  EachOpen (var x) P = P []
  EachOpen (node k hs) P = EachOpens hs (λ i v. P (suc i ∷ v))

  pub EachOpens : Patterns → (ℕ → List ℕ → Type 0) → Type 0
  EachOpens none P = Unit {0}
  EachOpens (more h hs) P = EachOpen h (P 0) × EachOpens hs (λ i. P (suc i))

mutual
  unfolding sub

  pub at_open : (h : Pattern) (P : List ℕ → Type 0) → EachOpen h P → (v : List ℕ) → Open h v → P v
  at_open (var x) P w [] o = w
  at_open (var x) P w (i ∷ v) o = conflict (cc)
  at_open (node k hs) P w [] o = conflict (cc)
  at_open (node k hs) P w (ℕ.zero ∷ v) o = conflict (cc (subs_zero hs v))
  at_open (node k hs) P w (suc i ∷ v) o = at_opens hs (λ i v. P (suc i ∷ v)) w i v o

  at_opens : (hs : Patterns) (P : ℕ → List ℕ → Type 0) → EachOpens hs P → (i : ℕ) (v : List ℕ) → subs hs (suc i) v ≡ some (var tt) → P i v
  at_opens none P w i v o = conflict (cc)
  at_opens (more h hs) P w ℕ.zero v o = at_open h (P 0) w.0 v o
  at_opens (more h hs) P w (suc i) v o = at_opens hs (λ i. P (suc i)) w.1 i v o

-- ---- the transducer
-- the right-hand sides of its one state
unfoldable pub line : ℕ → Term (ℕ × ℕ)
line ℕ.zero = d (var (1, 0)) (d (var (1, 0)) e)
line (suc a) = d (d e e) (d e e)

unfoldable pub M-machine : Transducer ℕ
M-machine = record { sort = λ q. 0; initial = var (1, 0); rhs = λ q a. line a }

line_ranked : (a : ℕ) → a < 2 → Ranked (Call 1 (get_or (inputs pairs) a 0)) (outputs pairs) (line a)
unfolding line inputs outputs Ranked count
line_ranked = below 2 _ (omega arith)

-- M is its file
pub M-sheet : Sheet (inputs pairs) (outputs pairs) M 1 M-machine
unfolding M-machine line inputs outputs Ranked count preorder count_bytes mark_bytes body_bytes each terms
M-sheet = record {
  counts = 0 ∷ 1 ∷ 0 ∷ 5 ∷ 0 ∷ 7 ∷ [];
  bytes = 1 ∷ 0 ∷ 0 ∷ 0 ∷ 1 ∷ 0 ∷ 0 ∷ 0 ∷ 1 ∷ 0 ∷ 0 ∷ 1 ∷ 0 ∷ 0 ∷ 0 ∷ 0 ∷ 0 ∷ 1 ∷ 0 ∷ 1 ∷ 0 ∷ 0 ∷ 0 ∷ 1 ∷ 0 ∷ 1 ∷ [];
  coded = refl;
  encodes = record {
    over = record { initial = omega arith; rhs = λ q a h. line_ranked a; sort = λ q h. refl };
    contents = record { states = omega arith; bodies = refl; some = below 3 _ (omega arith); few = below 3 _ (omega arith); all = omega arith };
    counts_coded = refl;
    marks_coded = refl;
  };
}

-- ---- its common prefix
-- d(d(s, t), d(u, e)) begins with the pattern
shaped : {s t u : Tree} → Prefix M-pref (d (d s t) (d u e))
shaped = keeps (also (keeps (also any (also any no_more))) (also (keeps (also any (also (keeps no_more) no_more))) no_more))

-- where t begins with it, so does d(t, d(t, e))
again : {t : Tree} → Prefix M-pref t → Prefix M-pref (d t (d t e))
again (keeps (also x (also y no_more))) = shaped

-- the input tree a(e, e)
pair : Tree
pair = node 0 (more leaf (more leaf none))

module _ (l : Leaf (inputs pairs)) where
  abbrev pub G : Grammar
  G = alphabet (inputs pairs) l

  -- every output begins with the pattern
  mutual
    unfolding M-machine line alphabet children_of inputs bind output closed run pick

    begins : {s : ℕ} {t : Tree} → Allowed G s t → Prefix M-pref (output M-machine t 0)
    begins (rule {a = ℕ.zero} c As) = begins_a As c
    begins (rule {a = suc a} c As) = shaped

    begins_a : {sorts : List ℕ} {ts : Terms ⊥} → AllAllowed G sorts ts → children_of (inputs pairs) 0 ≡ some sorts → Prefix M-pref (output M-machine (node 0 ts) 0)
    begins_a end c = conflict (cc)
    begins_a (next A As) c = again (begins A)

  leaf_allowed : Allowed G 0 leaf
  unfolding leaf alphabet children_of inputs
  leaf_allowed = rule refl end

  pair_allowed : Allowed G 0 pair
  unfolding pair alphabet children_of inputs
  pair_allowed = rule refl (next leaf_allowed (next leaf_allowed end))

  -- an address splits if e gives the symbol e there, and a(e, e) gives d
  split : {v : List ℕ} → symbol_at (output M-machine leaf 0) v ≡ some (1, 0) → symbol_at (output M-machine pair 0) v ≡ some (0, 2) → Splits G M-machine 0 v
  unfolding M-machine
  split x y = record {
    one = (1, 0);
    two = (0, 2);
    shows_one = record { tree = leaf; allowed = leaf_allowed; shown = x };
    shows_two = record { tree = pair; allowed = pair_allowed; shown = y };
    differ = λ s. omega (arith, ap (λ b. b.0) s);
  }

  -- so the three open addresses of the pattern split
  opens_split : EachOpen M-pref (Splits G M-machine 0)
  unfolding M-machine line leaf pair bind output closed run pick symbol_at root sub count
  opens_split = ((split refl refl, (split refl refl, tt)), ((split refl refl, (tt, tt)), tt))

  pub M-is_pref : IsPref G M-machine 0 M-pref
  M-is_pref = record { common = λ t A. begins A; splits = at_open M-pref (Splits G M-machine 0) opens_split }
