-- M (document 01, from section 4 of document 002), and its normal form: three states, the ⊤ of pref(q) = d(d(⊤, ⊤), d(⊤, e)).
-- Assumes nothing.
use Prim.Native.Nat.{ℕ, suc, ◌+◌, ◌-◌, ◌*◌, ◌<◌, ◌/◌}
use native.Mathlib.Decide.{dec_lt, ℕ_discrete}
use native.Mathlib.Omega.{arith}
use mathlib.Core.List.{List, [], ◌∷◌}
use mathlib.Core.Logic.{◌≢◌}
use mathlib.Core.Option.{some, bind as obind, Option-elim, some-injective}
use mathlib.Core.Path.{◌≡◌, refl, ap, sym, ◌∙◌}
use lib.ListN.{get_or, get_elem?}
use Rattle.theory.specs.Canonical.{Reduced}
use Rattle.theory.specs.Discovered.{Discovered, Read, read_call, read_node, read_none, read_more, no_rhs, read_rhs, read_initial, read_state}
use Rattle.theory.specs.Earliest.{Earliest, Splits}
use Rattle.theory.specs.EarliestForm.{earliest_form, expand, opened, label}
use Rattle.theory.specs.Equivalent.{Equivalent}
use Rattle.theory.specs.Grammar.{Allowed, AllAllowed, rule, end, next}
use Rattle.theory.specs.Listing.{Indexes, listed}
use Rattle.theory.specs.NormalForm.{NormalForm, Identical}
use Rattle.theory.specs.Pref.{Prefs}
use Rattle.theory.specs.Prefix.{Pattern}
use Rattle.theory.specs.Registry.{found, added}
use Rattle.theory.specs.Size.{size}
use Rattle.theory.specs.Term.{Term, var, node, Terms, none, more, Tree, bind, mapT, count, sub, root, symbol_at}
use Rattle.theory.specs.Transducer.{Transducer, translate, output, closed, run, pick, renamed}
use Rattle.theory.proofs.Numbers.{scanned_numbered}
use Rattle.theory.proofs.Scanning.{scan, scan_states, scan_rhss, scan_rhs, see, tally, only_if, Scanned}
use Rattle.theory.proofs.Terms.{conflict}
use Rattle.trees.specs.Alphabets.{Alphabets, stock, inputs, outputs, Leaf}
use Rattle.trees.specs.Code.{Ranked, preorder, Call}
use Rattle.formats.specs.Samples.{pairs, M, d, e, M-pref}
use Rattle.formats.specs.Sheet.{Encodes, count_bytes, mark_bytes, body_bytes, each, terms}
use Rattle.transducer.proofs.Samples.{below, leaf}
use Rattle.forms.specs.Alphabet.{alphabet, children_of}
use Rattle.prefixes.proofs.Samples.{M-machine, M-sheet, M-is_pref, line, G}
use Rattle.earliest.specs.Answers.{EarliestFile}
use Rattle.forms.proofs.Files.{encoded_wf}
use Rattle.canonical.specs.Answers.{NormalFile}

pairs_alphabets : Alphabets pairs
unfolding stock inputs outputs
pairs_alphabets = record {
  coded = refl;
  ins = record { some = omega arith; few = omega arith; low = below 2 _ (omega arith) };
  outs = record { some = omega arith; few = omega arith; low = below 2 _ (omega arith) };
  leaf = record { symbol = 1; there = omega arith; rank = refl };
}

-- ---- the normal form
abbrev pub M-counts : List ℕ
M-counts = 0 ∷ 7 ∷ 0 ∷ 3 ∷ 0 ∷ 1 ∷ 0 ∷ 3 ∷ 0 ∷ 1 ∷ 0 ∷ 7 ∷ 0 ∷ 1 ∷ []

abbrev pub M-bytes : List ℕ
M-bytes = 0 ∷ 0 ∷ 0 ∷ 0 ∷ 1 ∷ 0 ∷ 1 ∷ 1 ∷ 0 ∷ 0 ∷ 1 ∷ 2 ∷ 0 ∷ 1 ∷ 0 ∷ 0 ∷ 1 ∷ 0 ∷ 1 ∷ 1 ∷ 0 ∷ 1 ∷ 0 ∷ 0 ∷ 1 ∷ 2 ∷ 0 ∷ 1 ∷ 0 ∷ 1 ∷ 0 ∷ 0 ∷ 0 ∷ 0 ∷ 1 ∷ 0 ∷ 1 ∷ 1 ∷ 0 ∷ 0 ∷ 1 ∷ 2 ∷ 0 ∷ 1 ∷ 0 ∷ 1 ∷ []

-- the right-hand sides for a
unfoldable on_pair : ℕ → Term (ℕ × ℕ)
on_pair ℕ.zero = d (var (1, 0)) (var (1, 1))
on_pair (suc ℕ.zero) = d (var (1, 2)) e
on_pair (suc (suc q)) = d (d (var (1, 0)) (var (1, 1))) (d (var (1, 2)) e)

unfoldable form_rhs : ℕ → ℕ → Term (ℕ × ℕ)
form_rhs q ℕ.zero = on_pair q
form_rhs q (suc a) = e

unfoldable M-form : Transducer ℕ
M-form = record { sort = λ q. 0; initial = on_pair 2; rhs = form_rhs }

form_ranked : (q a : ℕ) → q < 3 → a < 2 → Ranked (Call 3 (get_or (inputs pairs) a 0)) (outputs pairs) (form_rhs q a)
unfolding form_rhs on_pair inputs outputs Ranked count
form_ranked q a h = below 3 (λ q. (a : ℕ) → a < 2 → Ranked (Call 3 (get_or (inputs pairs) a 0)) (outputs pairs) (form_rhs q a)) (below 2 _ (omega arith), (below 2 _ (omega arith), (below 2 _ (omega arith), tt))) q h a

M-encodes : Encodes (inputs pairs) (outputs pairs) 3 M-counts M-bytes M-form
unfolding M-form form_rhs on_pair inputs outputs Ranked count preorder count_bytes mark_bytes body_bytes each terms
M-encodes = record {
  over = record { initial = omega arith; rhs = form_ranked; sort = λ q h. refl };
  contents = record { states = omega arith; bodies = refl; some = below 7 _ (omega arith); few = below 7 _ (omega arith); all = omega arith };
  counts_coded = refl;
  marks_coded = refl;
}

-- ---- its outputs
-- the input trees a(e, e) and a(a(e, e), e)
pair : Tree
pair = node 0 (more leaf (more leaf none))

pair_left_lem : Tree
pair_left_lem = node 0 (more pair (more leaf none))

-- on a(a(e, e), e) the three states give trees of 7, 9 and 17 nodes
told : (q : ℕ) → q < 3 → size (output M-form pair_left_lem q) / 8 ≡ q
unfolding M-form form_rhs on_pair leaf pair pair_left_lem bind output closed run pick size
told = below 3 _ (refl, (refl, (refl, tt)))

-- the outputs of the three states on t, in pref(q)
abbrev joined : Tree → Tree
joined t = d (d (output M-form t 0) (output M-form t 1)) (d (output M-form t 2) e)

module _ (l : Leaf (inputs pairs)) where
  mutual
    unfolding M-machine line M-form form_rhs on_pair alphabet children_of inputs bind output closed run pick

    -- M gives pref(q) with the outputs of the three states at its ⊤
    joins : {s : ℕ} {t : Tree} → Allowed (G l) s t → output M-machine t 0 ≡ joined t
    joins (rule {a = ℕ.zero} c As) = joins_a As c
    joins (rule {a = suc a} c As) = refl

    joins_a : {sorts : List ℕ} {ts : Terms ⊥} → AllAllowed (G l) sorts ts → children_of (inputs pairs) 0 ≡ some sorts → output M-machine (node 0 ts) 0 ≡ joined (node 0 ts)
    joins_a end c = conflict (cc)
    joins_a (next A As) c = ap (λ u. d u (d u e)) (joins A)

  M-equivalent : Equivalent (G l) M-machine M-form
  unfolding M-machine M-form on_pair bind translate
  M-equivalent = record { translation = λ t ok. joins ok }

  leaf_allowed : Allowed (G l) 0 leaf
  unfolding leaf alphabet children_of inputs
  leaf_allowed = rule refl end

  pair_allowed : Allowed (G l) 0 pair
  unfolding pair alphabet children_of inputs
  pair_allowed = rule refl (next leaf_allowed (next leaf_allowed end))

  pair_left_allowed : Allowed (G l) 0 pair_left_lem
  unfolding pair_left_lem alphabet children_of inputs
  pair_left_allowed = rule refl (next pair_allowed (next leaf_allowed end))

  -- each state gives e on e, and d on a(e, e)
  split : {q : ℕ} → symbol_at (output M-form leaf q) [] ≡ some (1, 0) → symbol_at (output M-form pair q) [] ≡ some (0, 2) → Splits (G l) M-form q []
  unfolding M-form
  split x y = record {
    one = (1, 0);
    two = (0, 2);
    shows_one = record { tree = leaf; allowed = leaf_allowed; shown = x };
    shows_two = record { tree = pair; allowed = pair_allowed; shown = y };
    differ = λ s. omega (arith, ap (λ b. b.0) s);
  }

  M-earliest : Earliest (G l) M-form (λ q. q < 3)
  unfolding M-form form_rhs on_pair leaf pair bind output closed run pick symbol_at root sub count
  M-earliest = below 3 _ (split refl refl, (split refl refl, (split refl refl, tt)))

  M-scanned : Scanned (G l) M-form 3
  unfolding M-form form_rhs on_pair alphabet children_of inputs Scanned scan see tally scan_states scan_rhss scan_rhs only_if obind dec_lt ℕ_discrete
  M-scanned = refl

  M-reduced : Reduced (G l) M-form (λ q. q < 3)
  unfolding M-form
  M-reduced q r h k s = sym (told q h) ∙ (ap (λ t. size t / 8) (s.output pair_left_lem pair_left_allowed) ∙ told r k)

  M-normal : NormalForm (G l) M-machine M-form 3
  M-normal = record { equivalent = M-equivalent; canonical = record { wf = encoded_wf pairs_alphabets.ins.few l M-encodes; earliest = M-earliest; reduced = M-reduced }; numbered = scanned_numbered _ _ _ M-scanned }

pub M-cleans : NormalFile pairs M 3 M-counts M-bytes
M-cleans = record { alphabets = pairs_alphabets; states = 1; machine = M-machine; sheet = M-sheet; form = M-form; normal = M-normal; encodes = M-encodes }

-- ---- the earliest form: the three ⊤ of pref(q) are states as they are met, and no two of them are equivalent
abbrev prefix : ℕ → Pattern
prefix q = M-pref

abbrev tops : List (ℕ × List ℕ)
tops = (0, 1 ∷ 1 ∷ []) ∷ (0, 1 ∷ 2 ∷ []) ∷ (0, 2 ∷ 1 ∷ []) ∷ []

-- their numbers, by their addresses
abbrev top_number : ℕ × List ℕ → ℕ
top_number s = 2 * get_or s.1 0 0 + get_or s.1 1 0 - 3

tops_numbered : Indexes tops top_number
tops_numbered = record { index = index }
  where
    index : (n : ℕ) (q : ℕ × List ℕ) → get_elem? tops n ≡ some q → top_number q ≡ n
    index ℕ.zero q e = ap top_number (sym (some-injective _ _ e))
    index (suc ℕ.zero) q e = ap top_number (sym (some-injective _ _ e))
    index (suc (suc ℕ.zero)) q e = ap top_number (sym (some-injective _ _ e))
    index (suc (suc (suc n))) q e = conflict (cc)

-- d(p(x), q(x)), d(r(x), e) and both in d, as the calls with pref(q) put in say them
abbrev left_half : Term (ℕ × (ℕ × List ℕ))
left_half = d (var (1, (0, 1 ∷ 1 ∷ []))) (var (1, (0, 1 ∷ 2 ∷ [])))

abbrev right_half : Term (ℕ × (ℕ × List ℕ))
right_half = d (var (1, (0, 2 ∷ 1 ∷ []))) e

left_read : Read left_half tops tops
left_read = read_node (read_more (read_call (found {n = 0} refl)) (read_more (read_call (found {n = 1} refl)) read_none))

right_read : Read right_half tops tops
right_read = read_node (read_more (read_call (found {n = 2} refl)) (read_more (read_node read_none) read_none))

both_read : Read (d left_half right_half) tops tops
both_read = read_node (read_more left_read (read_more right_read read_none))

-- read first, they are met one after the other
first_read : Read (d left_half right_half) [] tops
first_read = read_node (read_more (read_node (read_more (read_call (added none_yet)) (read_more (read_call (added one_yet)) read_none))) (read_more (read_node (read_more (read_call (added two_yet)) (read_more (read_node read_none) read_none))) read_none))
  where
    none_yet : (n : ℕ) → get_elem? {A = ℕ × List ℕ} [] n ≢ some (0, 1 ∷ 1 ∷ [])
    none_yet n e = conflict (cc)

    one_yet : (n : ℕ) → get_elem? {A = ℕ × List ℕ} ((0, 1 ∷ 1 ∷ []) ∷ []) n ≢ some (0, 1 ∷ 2 ∷ [])
    one_yet ℕ.zero e = omega (arith, ap top_number (some-injective _ _ e))
    one_yet (suc n) e = conflict (cc)

    two_yet : (n : ℕ) → get_elem? {A = ℕ × List ℕ} ((0, 1 ∷ 1 ∷ []) ∷ (0, 1 ∷ 2 ∷ []) ∷ []) n ≢ some (0, 2 ∷ 1 ∷ [])
    two_yet ℕ.zero e = omega (arith, ap top_number (some-injective _ _ e))
    two_yet (suc ℕ.zero) e = omega (arith, ap top_number (some-injective _ _ e))
    two_yet (suc (suc n)) e = conflict (cc)

rhs_same : (p a : ℕ) → p < 3 → M-form.rhs p a ≡ (listed (earliest_form M-machine prefix) tops top_number).rhs p a
unfolding M-machine line M-form form_rhs on_pair earliest_form expand opened label bind sub Option-elim listed renamed mapT
rhs_same ℕ.zero ℕ.zero h = refl
rhs_same ℕ.zero (suc a) h = refl
rhs_same (suc ℕ.zero) ℕ.zero h = refl
rhs_same (suc ℕ.zero) (suc a) h = refl
rhs_same (suc (suc ℕ.zero)) ℕ.zero h = refl
rhs_same (suc (suc ℕ.zero)) (suc a) h = refl
rhs_same (suc (suc (suc p))) a h = absurd (omega arith)

module _ (l : Leaf (inputs pairs)) where
  prefs : Prefs (G l) M-machine (λ q. q < 1) prefix
  prefs ℕ.zero h = M-is_pref l
  prefs (suc q) h = absurd (omega arith)

  met : Discovered (G l) (earliest_form M-machine prefix) tops
  unfolding M-machine line earliest_form expand opened label bind sub alphabet children_of inputs
  met = read_state (read_state (read_state (read_initial first_read) refl (read_rhs (read_rhs no_rhs refl left_read) refl (read_node read_none))) refl (read_rhs (read_rhs no_rhs refl right_read) refl (read_node read_none))) refl (read_rhs (read_rhs no_rhs refl both_read) refl (read_node read_none))

  form_same : Identical (G l) M-form (listed (earliest_form M-machine prefix) tops top_number) 3 3
  unfolding M-machine line M-form form_rhs on_pair earliest_form expand opened label bind sub Option-elim listed renamed mapT alphabet children_of inputs
  form_same = record { number = refl; initial = refl; sort = below 3 _ (refl, (refl, (refl, tt))); rhs = λ p a sorts h k. rhs_same p a h }

pub M-trims : EarliestFile pairs M 3 M-counts M-bytes
M-trims = record {
  alphabets = pairs_alphabets;
  states = 1;
  machine = M-machine;
  sheet = M-sheet;
  form = M-form;
  trimmed = let l = pairs_alphabets.leaf in record { prefix = prefix; prefs = prefs l; states = tops; number = top_number; numbers = tops_numbered; met = met l; form = form_same l };
  encodes = M-encodes;
}
