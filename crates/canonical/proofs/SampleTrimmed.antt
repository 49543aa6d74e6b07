-- The earliest forms of T' and U (document 01): two states, the ⊤ of pref(q) = f(⊤, ⊤).
-- Assumes nothing.
use Prim.Native.Nat.{ℕ, suc, ◌<◌, ◌-◌}
use native.Mathlib.Omega.{arith}
use mathlib.Core.List.{List, [], ◌∷◌}
use mathlib.Core.Logic.{◌≢◌}
use mathlib.Core.Option.{some, Option-elim, some-injective}
use mathlib.Core.Path.{◌≡◌, refl, ap, sym}
use lib.ListN.{get_or, get_elem?}
use Rattle.theory.specs.Discovered.{Discovered, Read, ReadRhs, read_call, read_node, read_none, read_more, no_rhs, read_rhs, read_initial, read_state}
use Rattle.theory.specs.Earliest.{Splits}
use Rattle.theory.specs.EarliestForm.{earliest_form, expand, opened, label}
use Rattle.theory.specs.Listing.{Indexes, listed}
use Rattle.theory.specs.Pref.{IsPref, Prefs}
use Rattle.theory.specs.Prefix.{Pattern, any, keeps, no_more, also}
use Rattle.theory.specs.Registry.{found, added}
use Rattle.theory.specs.Term.{Term, var, bind, mapT, count, sub, root, symbol_at}
use Rattle.theory.specs.Transducer.{Transducer, output, closed, run, pick, renamed}
use Rattle.theory.specs.Trimmed.{Trimmed}
use Rattle.theory.proofs.Identity.{identical_refl}
use Rattle.theory.proofs.Terms.{conflict}
use Rattle.trees.specs.Alphabets.{inputs, outputs, Leaf}
use Rattle.trees.specs.Code.{Ranked, preorder, Call}
use Rattle.formats.specs.Samples.{S, T', U}
use Rattle.formats.specs.Sheet.{Encodes, count_bytes, mark_bytes, body_bytes, each, terms}
use Rattle.transducer.proofs.Samples.{S-alphabets, below, leaf, chain}
use Rattle.forms.specs.Alphabet.{alphabet, children_of}
use Rattle.prefixes.proofs.Samples.{EachOpen, at_open}
use Rattle.earliest.specs.Answers.{EarliestFile}
use Rattle.canonical.proofs.Samples.{T'-sheet, U-sheet, one_state_lem, once, late, f, G, leaf_allowed, chain_allowed, doubles}

-- T' and U by their initial terms
abbrev machine : Term (ℕ × ℕ) → Transducer ℕ
machine t = one_state_lem t late

abbrev prefix : ℕ → Pattern
prefix q = f (var tt) (var tt)

-- the two states, and their numbers
abbrev states : List (ℕ × List ℕ)
states = (0, 1 ∷ []) ∷ (0, 2 ∷ []) ∷ []

abbrev number : ℕ × List ℕ → ℕ
number s = get_or s.1 0 0 - 1

numbers : Indexes states number
numbers = record { index = index }
  where
    index : (n : ℕ) (q : ℕ × List ℕ) → get_elem? states n ≡ some q → number q ≡ n
    index ℕ.zero q e = ap number (sym (some-injective _ _ e))
    index (suc ℕ.zero) q e = ap number (sym (some-injective _ _ e))
    index (suc (suc n)) q e = conflict (cc)

-- p(a(x)) = q(a(x)) = f(p(x), q(x)), p(e) = q(e) = e; of T' the initial term is f(p(x), q(x)), of U f(f(p(x), q(x)), f(p(x), q(x)))
unfoldable form : Term (ℕ × ℕ) → Transducer ℕ
form t = listed (earliest_form (machine t) prefix) states number

-- the call q(x) with pref(q) put in
abbrev both : Term (ℕ × (ℕ × List ℕ))
both = f (var (1, (0, 1 ∷ []))) (var (1, (0, 2 ∷ [])))

-- it calls both states, in their order
again : Read both states states
again = read_node (read_more (read_call (found {n = 0} refl)) (read_more (read_call (found {n = 1} refl)) read_none))

-- first met, it meets the one and then the other
first : Read both [] states
first = read_node (read_more (read_call (added empty)) (read_more (read_call (added unlike)) read_none))
  where
    empty : (n : ℕ) → get_elem? {A = ℕ × List ℕ} [] n ≢ some (0, 1 ∷ [])
    empty n e = conflict (cc)

    unlike : (n : ℕ) → get_elem? {A = ℕ × List ℕ} ((0, 1 ∷ []) ∷ []) n ≢ some (0, 2 ∷ [])
    unlike ℕ.zero e = omega (arith, ap number (some-injective _ _ e))
    unlike (suc n) e = conflict (cc)

module _ (l : Leaf (inputs S)) (t : Term (ℕ × ℕ)) where
  -- an address splits if e gives the symbol e there, and a(e) gives f
  split : {v : List ℕ} → symbol_at (output (machine t) leaf 0) v ≡ some (1, 0) → symbol_at (output (machine t) chain 0) v ≡ some (0, 2) → Splits (G l) (machine t) 0 v
  unfolding one_state_lem
  split x y = record {
    one = (1, 0);
    two = (0, 2);
    shows_one = record { tree = leaf; allowed = leaf_allowed l; shown = x };
    shows_two = record { tree = chain; allowed = chain_allowed l; shown = y };
    differ = λ s. omega (arith, ap (λ b. b.0) s);
  }

  opens_split : EachOpen (prefix 0) (Splits (G l) (machine t) 0)
  unfolding one_state_lem late leaf chain bind output closed run pick symbol_at root sub count
  opens_split = (split refl refl, (split refl refl, tt))

  is_pref : IsPref (G l) (machine t) 0 (prefix 0)
  is_pref = record { common = λ u A. rw (doubles l t t A 0) (keeps (also any (also any no_more))); splits = at_open (prefix 0) (Splits (G l) (machine t) 0) opens_split }

  prefs : Prefs (G l) (machine t) (λ q. q < 1) prefix
  prefs ℕ.zero h = is_pref
  prefs (suc q) h = absurd (omega arith)

  first_rhs : ReadRhs (G l) (earliest_form (machine t) prefix) (0, 1 ∷ []) states 2 states
  unfolding one_state_lem late earliest_form expand opened label bind sub alphabet children_of inputs
  first_rhs = read_rhs (read_rhs no_rhs refl again) refl (read_node read_none)

  second_rhs : ReadRhs (G l) (earliest_form (machine t) prefix) (0, 2 ∷ []) states 2 states
  unfolding one_state_lem late earliest_form expand opened label bind sub alphabet children_of inputs
  second_rhs = read_rhs (read_rhs no_rhs refl again) refl (read_node read_none)

  -- where the initial term with pref(q) put in meets both states
  module _ (initial : Read (expand prefix t) [] states) where
    met : Discovered (G l) (earliest_form (machine t) prefix) states
    unfolding one_state_lem late earliest_form alphabet inputs
    met = read_state (read_state (read_initial initial) refl first_rhs) refl second_rhs

    trimmed : Trimmed (G l) (machine t) (λ q. q < 1) (form t) 2
    unfolding form
    trimmed = record { prefix = prefix; prefs = prefs; states = states; number = number; numbers = numbers; met = met; form = identical_refl _ 2 }

form_ranked : (t : Term (ℕ × ℕ)) (q a : ℕ) → q < 2 → a < 2 → Ranked (Call 2 (get_or (inputs S) a 0)) (outputs S) ((form t).rhs q a)
unfolding form one_state_lem late earliest_form expand opened label bind sub Option-elim listed renamed mapT inputs outputs Ranked count
form_ranked t q a h = below 2 (λ q. (a : ℕ) → a < 2 → Ranked (Call 2 (get_or (inputs S) a 0)) (outputs S) ((form t).rhs q a)) (below 2 _ (omega arith), (below 2 _ (omega arith), tt)) q h a

-- ---- T'
abbrev pub T'-counts : List ℕ
T'-counts = 0 ∷ 3 ∷ 0 ∷ 3 ∷ 0 ∷ 1 ∷ 0 ∷ 3 ∷ 0 ∷ 1 ∷ []

abbrev pub T'-bytes : List ℕ
T'-bytes = 0 ∷ 0 ∷ 1 ∷ 0 ∷ 1 ∷ 1 ∷ 0 ∷ 0 ∷ 1 ∷ 0 ∷ 1 ∷ 1 ∷ 0 ∷ 1 ∷ 0 ∷ 0 ∷ 1 ∷ 0 ∷ 1 ∷ 1 ∷ 0 ∷ 1 ∷ []

T'-encodes : Encodes (inputs S) (outputs S) 2 T'-counts T'-bytes (form once)
unfolding form one_state_lem late earliest_form expand opened label bind sub Option-elim listed renamed mapT inputs outputs Ranked count preorder count_bytes mark_bytes body_bytes each terms
T'-encodes = record {
  over = record { initial = omega arith; rhs = form_ranked once; sort = below 2 _ (refl, (refl, tt)) };
  contents = record { states = omega arith; bodies = refl; some = below 5 _ (omega arith); few = below 5 _ (omega arith); all = omega arith };
  counts_coded = refl;
  marks_coded = refl;
}

pub T'-trims : EarliestFile S T' 2 T'-counts T'-bytes
unfolding expand opened label bind
T'-trims = record { alphabets = S-alphabets; states = 1; machine = machine once; sheet = T'-sheet; form = form once; trimmed = trimmed S-alphabets.leaf once first; encodes = T'-encodes }

-- ---- U
abbrev pub U-early_counts : List ℕ
U-early_counts = 0 ∷ 7 ∷ 0 ∷ 3 ∷ 0 ∷ 1 ∷ 0 ∷ 3 ∷ 0 ∷ 1 ∷ []

abbrev pub U-early_bytes : List ℕ
U-early_bytes = 0 ∷ 0 ∷ 0 ∷ 0 ∷ 1 ∷ 0 ∷ 1 ∷ 1 ∷ 0 ∷ 0 ∷ 1 ∷ 0 ∷ 1 ∷ 1 ∷ 0 ∷ 0 ∷ 1 ∷ 0 ∷ 1 ∷ 1 ∷ 0 ∷ 1 ∷ 0 ∷ 0 ∷ 1 ∷ 0 ∷ 1 ∷ 1 ∷ 0 ∷ 1 ∷ []

U-early_encodes : Encodes (inputs S) (outputs S) 2 U-early_counts U-early_bytes (form (f once once))
unfolding form one_state_lem late earliest_form expand opened label bind sub Option-elim listed renamed mapT inputs outputs Ranked count preorder count_bytes mark_bytes body_bytes each terms
U-early_encodes = record {
  over = record { initial = omega arith; rhs = form_ranked (f once once); sort = below 2 _ (refl, (refl, tt)) };
  contents = record { states = omega arith; bodies = refl; some = below 5 _ (omega arith); few = below 5 _ (omega arith); all = omega arith };
  counts_coded = refl;
  marks_coded = refl;
}

pub U-trims : EarliestFile S U 2 U-early_counts U-early_bytes
unfolding expand opened label bind
U-trims = record { alphabets = S-alphabets; states = 1; machine = machine (f once once); sheet = U-sheet; form = form (f once once); trimmed = trimmed S-alphabets.leaf (f once once) (read_node (read_more first (read_more again read_none))); encodes = U-early_encodes }
