-- Reading the table of a transducer reads its states in the order of first meeting: so those that are met are those that are reached, and it is linear exactly if no body that is read calls a child twice.
-- Assumes nothing.
use Rattle.std.specs.Prelude.{Ok}
use Rattle.trees.specs.Refusal.{Holds, Decides}
use Prim.Native.Nat.{ℕ, ◌+◌, ◌*◌, ◌≤◌, ◌<◌}
use native.Mathlib.Decide.{ℕ_discrete}
use native.Mathlib.Omega.{arith}
use mathlib.Core.Bool.{Bool, true, false}
use mathlib.Core.List.{List}
use mathlib.Core.Logic.{by_cases, ⊎_elim}
use mathlib.Core.Option.{some, some-injective}
use mathlib.Core.Path.{◌≡◌, refl, sym, ap, ◌∙◌}
use lib.ListN.{length, get_or, get_elem?}
use Rattle.theory.specs.Discovered.{Read, ReadRhs, no_rhs, read_rhs, ReadStates, read_initial, read_state}
use Rattle.theory.specs.Linear.{Linear}
use Rattle.theory.specs.Term.{Term}
use Rattle.theory.specs.Transducer.{Transducer}
use Rattle.theory.specs.Wf.{Wf}
use Rattle.theory.proofs.Discovery.{calls_read, states_valid, states_distinct, discovered_closed, index_of, distinct_indexes}
use Rattle.theory.proofs.Lists.{Extends, extends_refl, extends_trans, get_lt}
use Rattle.theory.proofs.Reach.{reached_valid, reached_wf, reached_listed, identical_linear}
use Rattle.trees.specs.Alphabets.{Alphabets, Leaf, inputs, outputs}
use Rattle.trees.specs.Code.{Ranked, Call, marks}
use Rattle.formats.specs.Inner.Layout.{body, body_count, Starts}
use Rattle.formats.specs.Sheet.{Encodes, Sheet}
use Rattle.trees.proofs.Deciding.{decides_yes, decides_no, decides_same}
use Rattle.trees.proofs.Judging.{pass, accept}
use Rattle.transducer.proofs.Opening.{Opened, opened_sheet, opened_right, opened_low}
use Rattle.forms.specs.Alphabet.{alphabet, children_inside, children_of_lem}
use Rattle.forms.proofs.Files.{encoded_wf, same_file}
use Rattle.forms.proofs.Leaves.{linear_leaf}
use Rattle.queries.specs.Answers.{TestsLinear}
use Rattle.queries.specs.Linear.{LinearFile}
use Rattle.queries.specs.Inner.Uses.{Once, LowBodies}
use Rattle.queries.specs.Inner.Reading.{ReadMarks, ReadBodies, no_body, one_body, ReadTable, read_initial as table-initial, read_state as table-state, NotOnce, Stopped, ReadsTable}
use Rattle.queries.proofs.Calls.{calls_marks, once_calls, calls_once, initial_body, rhs_body, low_bodies}
use Rattle.queries.proofs.Reading.{bodies_extend}

-- ---- the bodies that have been read call no child twice
bodies_once : {start : ℕ → ℕ} {bytes L : List ℕ} {b : ℕ} {L' : List ℕ} {k : ℕ} → ReadBodies start bytes b L k L' → (j : ℕ) → j < k → Once (body start bytes (b + j))
bodies_once no_body j h = absurd (omega arith)
bodies_once (one_body {k} r x) j h = by_cases (ℕ_discrete j k) (λ e. rw e x.0) (λ n. bodies_once r j (omega arith))

module _ {P : ℕ} {start : ℕ → ℕ} {bytes : List ℕ} where
  initial_once : {p : ℕ} {L : List ℕ} → ReadTable P start bytes p L → Once (body start bytes 0)
  initial_once (table-initial r) = bodies_once r 0 (omega arith)
  initial_once (table-state s e r) = initial_once s

  -- F is the whole list, of which L is the beginning
  states_once : {F L : List ℕ} {p : ℕ} → ReadTable P start bytes p L → Extends L F → (m q : ℕ) → m < p → get_elem? F m ≡ some q → (a : ℕ) → a < P → Once (body start bytes (1 + q * P + a))
  states_once (table-initial r) x m q l e a h = absurd (omega arith)
  states_once {F} (table-state {p} {q = c} s there r) x m q l e a h = by_cases (ℕ_discrete m p)
      (λ z. let y : c ≡ q = some-injective _ _ (sym ((extends_trans (bodies_extend r) x).kept p c there) ∙ ap (get_elem? F) (sym z) ∙ e) in rw (← y) (bodies_once r a h))
      (λ n. states_once s (extends_trans (bodies_extend r) x) m q (omega arith) e a h)

-- ---- the transducer of the table
module _ {ins outs : List ℕ} {n : ℕ} {counts bytes : List ℕ} {M : Transducer ℕ} (E : Encodes ins outs n counts bytes M) (starts : List ℕ) (S : Starts counts starts (body_count ins n)) (l : Leaf ins) (W : Wf (alphabet ins l) M (λ q. q < n)) where
  abbrev start : ℕ → ℕ
  start j = get_or starts j 0

  -- to read the marks of a term is to read it
  read_term : (r : ℕ) (t : Term (ℕ × ℕ)) → Ranked (Call n r) outs t → {ms : List (ℕ × ℕ)} → marks t ≡ ms → {L L' : List ℕ} → ReadMarks ms L L' → Read t L L'
  read_term r t c e R = calls_read t (rw (← e, calls_marks outs n r t c) at R.1)

  -- to read its bodies is to read the right-hand sides of a state
  bodies_rhs : (q : ℕ) → q < n → {L : List ℕ} {k : ℕ} {L' : List ℕ} → k ≤ length ins → ReadBodies start bytes (1 + q * length ins) L k L' → ReadRhs (alphabet ins l) M q L k L'
  unfolding alphabet
  bodies_rhs q h p no_body = no_rhs
  bodies_rhs q h p (one_body {k} r x) =
      let g : k < length ins = omega arith in
      read_rhs (bodies_rhs q h (omega arith) r) (children_of_lem ins k g) (read_term (get_or ins k 0) (M.rhs q k) (E.over.rhs q k h g) (rhs_body E starts S q k h g) x)

  first_body : {L L' : List ℕ} {k : ℕ} → k ≡ 1 → ReadBodies start bytes 0 L k L' → Read M.initial L L'
  first_body z no_body = absurd (omega arith)
  first_body z (one_body no_body x) = read_term 1 M.initial E.over.initial (initial_body E starts S) x
  first_body z (one_body (one_body r y) x) = absurd (omega arith)

  -- so reading the table is reading the states in the order of first meeting
  table_states : {p : ℕ} {L : List ℕ} → ReadTable (length ins) start bytes p L → ReadStates (alphabet ins l) M p L
  unfolding alphabet
  table_states (table-initial r) = read_initial (first_body refl r)
  table_states (table-state {p} {q} s e r) =
      let R = table_states s in
      read_state R e (bodies_rhs q ((states_valid W R).every p q e) (omega arith) r)

  -- where all that is met has been read, M is linear
  table_linear : {L : List ℕ} → ReadTable (length ins) start bytes (length L) L → Linear (alphabet ins l) M
  unfolding alphabet
  table_linear {L} T =
      let D = table_states T in
      let C = discovered_closed (distinct_indexes ℕ_discrete (states_distinct D)) D in
      record {
        initial = once_calls outs n 1 M.initial E.over.initial (rw (initial_body E starts S) (initial_once T));
        rhs = λ q a r k.
            let g = (children_inside ins a k).0 in
            let v = reached_valid W r in
            let e = reached_listed C r in
            once_calls outs n (get_or ins a 0) (M.rhs q a) (E.over.rhs q a v g) (rw (rhs_body E starts S q a v g) (states_once T extends_refl (index_of ℕ_discrete L q) q (get_lt L (index_of ℕ_discrete L q) e) e a g));
      }

  -- where a body calls a child twice that is met, it is not
  not_first : NotOnce start bytes 0 1 → Linear (alphabet ins l) M → ⊥
  not_first N K = N (λ j h. let z : 0 + j ≡ 0 = omega arith in rw z (rw (initial_body E starts S) at (calls_once M.initial K.initial)))

  not_state : Stopped (length ins) start bytes → Linear (alphabet ins l) M → ⊥
  unfolding alphabet
  not_state Z K =
      let q = Z.state in
      let r = (states_valid (reached_wf W) (table_states Z.read)).every Z.number q Z.there in
      Z.twice (λ a g. rw (rhs_body E starts S q a (reached_valid W r) g) at (calls_once (M.rhs q a) (K.rhs q a r (children_of_lem ins a g))))

  pub decides_linear : (b : Bool) → ReadsTable (length ins) start bytes b → Decides (Linear (alphabet ins l) M) b
  decides_linear true R = decides_yes (table_linear (R.yes refl).1)
  decides_linear false R = decides_no (λ K. ⊎_elim (λ N. not_first N K) (λ Z. not_state Z K) (R.no refl))

-- ---- the answer
-- what a file says of its transducer, it says of each that it encodes, whichever leaf the grammar names
pub of_file : {stock s : List ℕ} {n : ℕ} {M : Transducer ℕ} (l : Leaf (inputs stock)) → Sheet (inputs stock) (outputs stock) s n M → LinearFile stock s → Linear (alphabet (inputs stock) l) M
of_file l S F = let k = F.alphabets.leaf in linear_leaf k l (identical_linear (encoded_wf F.alphabets.ins.few k F.sheet.encodes) (same_file k F.sheet S) F.linear)

pub to_file : {stock s : List ℕ} {n : ℕ} {M : Transducer ℕ} (A : Alphabets stock) → Sheet (inputs stock) (outputs stock) s n M → Linear (alphabet (inputs stock) A.leaf) M → LinearFile stock s
to_file {n = n} {M} A S L = record { alphabets = A; states = n; machine = M; sheet = S; linear = L }

module _ {stock s : List ℕ} {n : ℕ} {ins counts bytes : List ℕ} (O : Opened stock s n ins counts bytes) (starts : List ℕ) (S : Starts counts starts (body_count ins n)) where
  -- the bodies are in their places
  pub opened_bodies : length starts ≡ 2050 → LowBodies (1 + n * length ins) n starts bytes
  opened_bodies k = low_bodies O.encodes starts S (opened_right O) (opened_low O) k

  pub tested : (b : Bool) → ReadsTable (length ins) (λ j. get_or starts j 0) bytes b → TestsLinear stock s (Ok b)
  unfolding Holds
  tested b R =
      let w = O.holds in
      let T = opened_sheet O in
      let l = O.alphabets.leaf in
      let i = O.ins_are in
      let D = decides_linear T.encodes starts (rw i at S) l (encoded_wf O.alphabets.ins.few l T.encodes) b (rw i at R) in
      pass w.0 (pass w.1.0 (pass w.1.1.0 (accept (decides_same (to_file O.alphabets T) (of_file l T) D))))
