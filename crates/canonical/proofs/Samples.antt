-- Samples of document 01 over the alphabets S: the transducers of the files, and what makes their clean files normal forms.
-- Assumes nothing.
use Prim.Native.Nat.{ℕ, suc, ◌<◌}
use native.Mathlib.Decide.{dec_lt, ℕ_discrete}
use native.Mathlib.Omega.{arith}
use mathlib.Core.List.{List, [], ◌∷◌}
use mathlib.Core.Option.{some, bind as obind}
use mathlib.Core.Path.{◌≡◌, refl, ap, sym}
use lib.ListN.{length, get_or}
use Rattle.theory.specs.Canonical.{Canonical}
use Rattle.theory.specs.Earliest.{Earliest}
use Rattle.theory.specs.Equivalent.{Equivalent}
use Rattle.theory.specs.Grammar.{Grammar, Allowed, AllAllowed, rule, end, next}
use Rattle.theory.specs.NormalForm.{NormalForm}
use Rattle.theory.specs.Term.{Term, var, node, Terms, none, more, Tree, bind, count, sub, root, symbol_at}
use Rattle.theory.specs.Transducer.{Transducer, translate, output, closed, run, pick}
use Rattle.theory.specs.Wf.{Wf}
use Rattle.theory.proofs.NormalForms.{normal_self}
use Rattle.theory.proofs.Numbers.{scanned_numbered}
use Rattle.theory.proofs.Scanning.{scan, scan_states, scan_rhss, scan_rhs, see, tally, only_if, Scanned}
use Rattle.theory.proofs.Terms.{conflict}
use Rattle.trees.specs.Alphabets.{inputs, outputs, Leaf}
use Rattle.trees.specs.Code.{Ranked, preorder, Call}
use Rattle.formats.specs.Samples.{leaf_file, T', U, S, T}
use Rattle.formats.specs.Sheet.{Encodes, Sheet, count_bytes, mark_bytes, body_bytes, each, terms}
use Rattle.transducer.proofs.Samples.{S-alphabets, T-machine, T-sheet, twice, line, below, leaf, chain}
use Rattle.forms.specs.Alphabet.{alphabet, children_of}
use Rattle.forms.proofs.Files.{encoded_wf}
use Rattle.canonical.specs.Answers.{NormalFile}

-- ---- no state: the initial term is e
unfoldable leaf_machine : Transducer ℕ
leaf_machine = record { sort = λ q. 0; initial = node 1 none; rhs = λ q a. node 1 none }

leaf_encodes : Encodes (inputs S) (outputs S) 0 (0 ∷ 1 ∷ []) (0 ∷ 1 ∷ []) leaf_machine
unfolding leaf_machine inputs outputs Ranked count preorder count_bytes mark_bytes body_bytes each terms
leaf_encodes = record {
  over = record { initial = omega arith; rhs = λ q a h. absurd (omega arith); sort = λ q h. refl };
  contents = record { states = omega arith; bodies = refl; some = below 1 _ (omega arith); few = below 1 _ (omega arith); all = omega arith };
  counts_coded = refl;
  marks_coded = refl;
}

leaf_scanned : (l : Leaf (inputs S)) → Scanned (alphabet (inputs S) l) leaf_machine 0
unfolding leaf_machine Scanned scan scan_states obind
leaf_scanned l = refl

leaf_normal : (l : Leaf (inputs S)) → NormalForm (alphabet (inputs S) l) leaf_machine leaf_machine 0
leaf_normal l = normal_self (record { wf = encoded_wf S-alphabets.ins.few l leaf_encodes; earliest = λ q h. absurd (omega arith); reduced = λ q r h. absurd (omega arith) }) (scanned_numbered _ _ _ (leaf_scanned l))

pub leaf_cleans : NormalFile S leaf_file 0 (0 ∷ 1 ∷ []) (0 ∷ 1 ∷ [])
leaf_cleans = record {
  alphabets = S-alphabets;
  states = 0;
  machine = leaf_machine;
  sheet = record { counts = _; bytes = _; coded = refl; encodes = leaf_encodes };
  form = leaf_machine;
  normal = leaf_normal;
  encodes = leaf_encodes;
}

-- ---- one state: its transducer by the initial term and the right-hand sides
unfoldable pub one_state_lem : Term (ℕ × ℕ) → (ℕ → Term (ℕ × ℕ)) → Transducer ℕ
one_state_lem t r = record { sort = λ q. 0; initial = t; rhs = λ q a. r a }

-- f(s, t)
abbrev pub f : {A : Type 0} → Term A → Term A → Term A
f s t = node 0 (more s (more t none))

module _ (l : Leaf (inputs S)) where
  abbrev pub G : Grammar
  G = alphabet (inputs S) l

  pub leaf_allowed : Allowed G 0 leaf
  unfolding leaf alphabet children_of inputs
  leaf_allowed = rule refl end

  pub chain_allowed : Allowed G 0 chain
  unfolding chain alphabet children_of inputs
  chain_allowed = rule refl (next leaf_allowed end)

  -- with the right-hand sides of T the outputs have two root symbols: e gives e, and a(e) gives f
  T-earliest : (t : Term (ℕ × ℕ)) → Earliest G (one_state_lem t line) (λ q. q < 1)
  unfolding one_state_lem line twice leaf chain bind output closed run pick symbol_at root sub count
  T-earliest t q h = record {
    one = (1, 0);
    two = (0, 2);
    shows_one = record { tree = leaf; allowed = leaf_allowed; shown = refl };
    shows_two = record { tree = chain; allowed = chain_allowed; shown = refl };
    differ = λ s. omega (arith, ap (λ b. b.0) s);
  }

  T-canonical : (t : Term (ℕ × ℕ)) → Wf G (one_state_lem t line) (λ q. q < 1) → Canonical G (one_state_lem t line) (λ q. q < 1)
  T-canonical t W = record { wf = W; earliest = T-earliest t; reduced = λ q r h k s. omega arith }

  T-scanned : Scanned G T-machine 1
  unfolding T-machine twice line alphabet children_of inputs Scanned scan see tally scan_states scan_rhss scan_rhs only_if obind dec_lt ℕ_discrete
  T-scanned = refl

  T-normal : NormalForm G T-machine T-machine 1
  unfolding one_state_lem T-machine
  T-normal = normal_self (T-canonical twice (encoded_wf S-alphabets.ins.few l T-sheet.encodes)) (scanned_numbered _ _ _ T-scanned)

pub T-cleans : NormalFile S T 1 T-sheet.counts T-sheet.bytes
T-cleans = record { alphabets = S-alphabets; states = 1; machine = T-machine; sheet = T-sheet; form = T-machine; normal = T-normal; encodes = T-sheet.encodes }

-- T has 7 marks
pub T-marks : length T-sheet.bytes ≡ 14
unfolding T-machine twice line inputs preorder mark_bytes body_bytes each terms
T-marks = sym (ap length T-sheet.encodes.marks_coded)

-- ---- T' and U: q(a(x)) = f(q(x), q(x)), q(e) = f(e, e), with the initial terms q(x) and f(q(x), q(x))
abbrev pub U-counts : List ℕ
U-counts = 0 ∷ 7 ∷ 0 ∷ 3 ∷ 0 ∷ 1 ∷ []

abbrev pub U-bytes : List ℕ
U-bytes = 0 ∷ 0 ∷ 0 ∷ 0 ∷ 1 ∷ 0 ∷ 1 ∷ 0 ∷ 0 ∷ 0 ∷ 1 ∷ 0 ∷ 1 ∷ 0 ∷ 0 ∷ 0 ∷ 1 ∷ 0 ∷ 1 ∷ 0 ∷ 0 ∷ 1 ∷ []

-- q(x)
abbrev pub once : Term (ℕ × ℕ)
once = var (1, 0)

unfoldable pub late : ℕ → Term (ℕ × ℕ)
late ℕ.zero = f once once
late (suc a) = f (node 1 none) (node 1 none)

late_ranked : (a : ℕ) → a < 2 → Ranked (Call 1 (get_or (inputs S) a 0)) (outputs S) (late a)
unfolding late inputs outputs Ranked count
late_ranked = below 2 _ (omega arith)

pub T'-sheet : Sheet (inputs S) (outputs S) T' 1 (one_state_lem once late)
unfolding one_state_lem late inputs outputs Ranked count preorder count_bytes mark_bytes body_bytes each terms
T'-sheet = record {
  counts = 0 ∷ 1 ∷ 0 ∷ 3 ∷ 0 ∷ 3 ∷ [];
  bytes = 1 ∷ 0 ∷ 0 ∷ 0 ∷ 1 ∷ 0 ∷ 1 ∷ 0 ∷ 0 ∷ 0 ∷ 0 ∷ 1 ∷ 0 ∷ 1 ∷ [];
  coded = refl;
  encodes = record {
    over = record { initial = omega arith; rhs = λ q a h. late_ranked a; sort = λ q h. refl };
    contents = record { states = omega arith; bodies = refl; some = below 3 _ (omega arith); few = below 3 _ (omega arith); all = omega arith };
    counts_coded = refl;
    marks_coded = refl;
  };
}

pub U-sheet : Sheet (inputs S) (outputs S) U 1 (one_state_lem (f once once) late)
unfolding one_state_lem late inputs outputs Ranked count preorder count_bytes mark_bytes body_bytes each terms
U-sheet = record {
  counts = 0 ∷ 3 ∷ 0 ∷ 3 ∷ 0 ∷ 3 ∷ [];
  bytes = 0 ∷ 0 ∷ 1 ∷ 0 ∷ 1 ∷ 0 ∷ 0 ∷ 0 ∷ 1 ∷ 0 ∷ 1 ∷ 0 ∷ 0 ∷ 0 ∷ 0 ∷ 1 ∷ 0 ∷ 1 ∷ [];
  coded = refl;
  encodes = record {
    over = record { initial = omega arith; rhs = λ q a h. late_ranked a; sort = λ q h. refl };
    contents = record { states = omega arith; bodies = refl; some = below 3 _ (omega arith); few = below 3 _ (omega arith); all = omega arith };
    counts_coded = refl;
    marks_coded = refl;
  };
}

U-form : Transducer ℕ
U-form = one_state_lem (f (f once once) (f once once)) line

U-encodes : Encodes (inputs S) (outputs S) 1 U-counts U-bytes U-form
unfolding U-form one_state_lem T-machine line twice inputs outputs Ranked count preorder count_bytes mark_bytes body_bytes each terms
U-encodes = record {
  over = record { initial = omega arith; rhs = T-sheet.encodes.over.rhs; sort = λ q h. refl };
  contents = record { states = omega arith; bodies = refl; some = below 3 _ (omega arith); few = below 3 _ (omega arith); all = omega arith };
  counts_coded = refl;
  marks_coded = refl;
}

module _ (l : Leaf (inputs S)) where
  module _ (s s' : Term (ℕ × ℕ)) where
    mutual
      unfolding one_state_lem late line twice alphabet children_of inputs bind output closed run pick

      -- where the state of T gives t, that of T' and of U gives f(t, t)
      pub doubles : {n : ℕ} {t : Tree} → Allowed (G l) n t → (q : ℕ) → output (one_state_lem s late) t q ≡ f (output (one_state_lem s' line) t 0) (output (one_state_lem s' line) t 0)
      doubles (rule {a = ℕ.zero} c As) q = doubles_a As c q
      doubles (rule {a = suc a} c As) q = refl

      doubles_a : {sorts : List ℕ} {ts : Terms ⊥} → AllAllowed (G l) sorts ts → children_of (inputs S) 0 ≡ some sorts → (q : ℕ) → output (one_state_lem s late) (node 0 ts) q ≡ f (output (one_state_lem s' line) (node 0 ts) 0) (output (one_state_lem s' line) (node 0 ts) 0)
      doubles_a end c q = conflict (cc)
      doubles_a (next A As) c q = ap (λ u. f u u) (doubles A 0)

  T'-equivalent : Equivalent (G l) (one_state_lem once late) T-machine
  unfolding one_state_lem T-machine twice bind translate
  T'-equivalent = record { translation = λ d ok. doubles once twice ok 0 }

  T'-normal : NormalForm (G l) (one_state_lem once late) T-machine 1
  T'-normal = record { equivalent = T'-equivalent; canonical = (T-normal l).canonical; numbered = scanned_numbered _ _ _ (T-scanned l) }

  U-equivalent : Equivalent (G l) (one_state_lem (f once once) late) U-form
  unfolding one_state_lem U-form bind translate
  U-equivalent = record { translation = λ d ok. ap (λ u. f u u) (doubles (f once once) (f (f once once) (f once once)) ok 0) }

  U-scanned : Scanned (G l) U-form 1
  unfolding U-form one_state_lem twice line alphabet children_of inputs Scanned scan see tally scan_states scan_rhss scan_rhs only_if obind dec_lt ℕ_discrete
  U-scanned = refl

  U-normal : NormalForm (G l) (one_state_lem (f once once) late) U-form 1
  unfolding U-form
  U-normal = record { equivalent = U-equivalent; canonical = T-canonical l _ (encoded_wf S-alphabets.ins.few l U-encodes); numbered = scanned_numbered _ _ _ U-scanned }

pub T'-cleans : NormalFile S T' 1 T-sheet.counts T-sheet.bytes
T'-cleans = record { alphabets = S-alphabets; states = 1; machine = one_state_lem once late; sheet = T'-sheet; form = T-machine; normal = T'-normal; encodes = T-sheet.encodes }

pub U-cleans : NormalFile S U 1 U-counts U-bytes
U-cleans = record { alphabets = S-alphabets; states = 1; machine = one_state_lem (f once once) late; sheet = U-sheet; form = U-form; normal = U-normal; encodes = U-encodes }
