-- All bodies of E are there when the right-hand sides of every state met have been read.
-- Assumes nothing.
use Prim.Native.Nat.{ℕ, ◌+◌, ◌-◌, ◌≤◌, ◌<◌}
use native.Mathlib.Nat.{mul-le-mul}
use native.Mathlib.Omega.{arith}
use mathlib.Core.Path.{◌≡◌, sym, ◌∙◌}
use mathlib.Core.List.{List}
use mathlib.Core.Option.{some}
use lib.ListN.{length, get_or, get_elem?}
use Rattle.theory.specs.Discovered.{ReadStates, read_initial, read_state, Discovered}
use Rattle.theory.specs.Grammar.{Grammar}
use Rattle.theory.specs.Inner.Closed.{Listed, Closed}
use Rattle.theory.specs.Listing.{Indexes, listed}
use Rattle.theory.specs.NormalForm.{Identical}
use Rattle.theory.specs.Term.{Term, var, node, Terms, none, more, bind, binds, mapT}
use Rattle.theory.specs.Transducer.{Transducer, renamed}
use Rattle.theory.specs.Vars.{AllVars, one, each, EachVars, done, both}
use Rattle.theory.proofs.Discovery.{discovered_closed, rhs_extends, states_valid}
use Rattle.theory.proofs.Listings.{listed_sort, listed_rhs}
use Rattle.theory.proofs.Lists.{get_lt}
use Rattle.theory.proofs.Terms.{count_binds}
use Rattle.theory.proofs.Vars.{all_map}
use Rattle.trees.specs.Alphabets.{Leaf}
use Rattle.trees.specs.Code.{Ranked, AllRanked, Call, marks}
use Rattle.trees.specs.Inner.Decode.{first, forest, Whole}
use Rattle.formats.specs.Inner.Layout.{body_number, body_count, mark_of, body, transducer}
use Rattle.formats.specs.Inner.Marked.{part}
use Rattle.formats.proofs.Pairs.{number_less}
use Rattle.formats.proofs.Sheets.{body_exactly, body_unique, whole_ranked}
use Rattle.forms.specs.Alphabet.{alphabet, children_of_lem, children_inside}
use Rattle.forms.specs.Inner.Tables.{machine, Layout, Packed}
use Rattle.discovery.specs.Inner.Queue.{met_of}
use Rattle.discovery.specs.Inner.Bodies.{BodyAt}
use Rattle.discovery.specs.Inner.Discovering.{ByNumbers, Found, Met}
use Rattle.discovery.proofs.Adding.{starts_most}
use Rattle.discovery.proofs.Queues.{marks_renamed, get_take, take_get}
use Rattle.discovery.proofs.Stages.{initial_small, rhs_small, numbers_wf, met_length}

-- ---- the states read
-- no more states have been read than are listed
read_few : {G : Grammar} {E : Transducer ℕ} {p : ℕ} {L : List ℕ} → ReadStates G E p L → p ≤ length L
read_few (read_initial r) = omega arith
read_few (read_state {p} {q} {L' = L'} s e r) = omega (arith, get_lt L' p ((rhs_extends r).kept p q e))

-- when no state is left to be read, all of them have been
pub found_all : {ins starts' out list place : List ℕ} {E : Transducer ℕ} {w p n : ℕ} → Leaf ins → Found ins E w p starts' out list place n → n ≤ p → Found ins E w n starts' out list place n
found_all {p = p} {n = n} l F h = let e : p ≡ n = omega (arith, read_few (F.read l), met_length F.bodies.queue) in rw e at F

-- ---- the number of a state is its place
abbrev number_by : List ℕ → ℕ → ℕ
number_by place c = get_or place c 0 - 1

-- calls of listed states are calls by their numbers
module _ (outs : List ℕ) (w r n : ℕ) (name : ℕ → ℕ) where
  mutual
    unfolding Ranked renamed mapT bind

    renamed_ranked : (t : Term (ℕ × ℕ)) → Ranked (Call w r) outs t → AllVars (λ e. name e.1 < n) t → Ranked (Call n r) outs (renamed name t)
    renamed_ranked (var e) h (one p) = record { from_one = h.from_one; child = h.child; state = p }
    renamed_ranked (node k ts) h (each ps) = (h.0, count_binds ts (λ e. var (e.0, name e.1)) ∙ h.1, all_ranked ts h.2 ps)

    all_ranked : (ts : Terms (ℕ × ℕ)) → AllRanked (Call w r) outs ts → EachVars (λ e. name e.1 < n) ts → AllRanked (Call n r) outs (binds ts (λ e. var (e.0, name e.1)))
    all_ranked none h done = tt
    all_ranked (more t ts) h (both p ps) = (renamed_ranked t h.0 p, all_ranked ts h.1 ps)

-- ---- all states have been read
module _ {ins outs : List ℕ} {w : ℕ} {E : Transducer ℕ} {Valid : ℕ → Type 0} (X : ByNumbers ins outs w E Valid) (leaf : Leaf ins) {starts' out list place : List ℕ} {n : ℕ} (F : Found ins E w n starts' out list place n) where
  all_read : (l : Leaf ins) → Discovered (alphabet ins l) E (met_of list n)
  all_read l = rw (met_length F.bodies.queue) (F.read l)

  numbers : Indexes (met_of list n) (number_by place)
  numbers = record { index = λ j c e. let w = take_get list n j e in rw (← w.1, F.bodies.queue.number j w.0) (omega arith) }

  closed : Closed (alphabet ins leaf) E (met_of list n) (number_by place)
  closed = discovered_closed numbers (all_read leaf)

  met_at_lem : (q : ℕ) → q < n → get_elem? (met_of list n) q ≡ some (get_or list q 0)
  met_at_lem q h = get_take list n q h (omega (arith, F.bodies.queue.long, F.bodies.queue.few))

  small_number : (e : ℕ × ℕ) → Listed (met_of list n) (number_by place) e.1 → number_by place e.1 < n
  small_number e w = omega (arith, get_lt (met_of list n) (number_by place e.1) w, met_length F.bodies.queue)

  -- a body is one tree of known marks, the right-hand side with its states by their numbers
  body_read : (r j : ℕ) (t : Term (ℕ × ℕ)) → BodyAt starts' out place j t → Ranked (Call w r) outs t → AllVars (λ e. Listed (met_of list n) (number_by place) e.1) t
      → Whole (mark_of outs n r) (part out (get_or starts' j 0) (get_or starts' (j + 1) 0)) × (first (forest (mark_of outs n r) (part out (get_or starts' j 0) (get_or starts' (j + 1) 0))) ≡ renamed (number_by place) t)
  body_read r j t B h v =
      let ms = part out (get_or starts' j 0) (get_or starts' (j + 1) 0) in
      let u = renamed (number_by place) t in
      let k = renamed_ranked outs w r n (number_by place) t h (all_map small_number v) in
      let e : marks u ≡ ms = sym (B.marked ∙ marks_renamed outs X.narrow r X.few_symbols place t h) in
      let W = (body_exactly outs n r ms).1 (u, k, e) in
      let w = whole_ranked outs n r ms W in
      (W, body_unique outs n r (first (forest (mark_of outs n r) ms)) u w.0 k (w.1 ∙ sym e))

  initial_read : Whole (mark_of outs n 1) (part out (get_or starts' 0 0) (get_or starts' 1 0)) × (first (forest (mark_of outs n 1) (part out (get_or starts' 0 0) (get_or starts' 1 0))) ≡ renamed (number_by place) E.initial)
  initial_read = body_read 1 0 _ (F.bodies.initial (omega arith)) (initial_small X) closed.initial

  module _ (q a : ℕ) (state : q < n) (there : a < length ins) where
    met_state : Valid (get_or list q 0)
    met_state = (states_valid (numbers_wf X leaf) (F.read leaf)).every q (get_or list q 0) (met_at_lem q state)

    met_listed : Listed (met_of list n) (number_by place) (get_or list q 0)
    met_listed = rw (numbers.index q (get_or list q 0) (met_at_lem q state)) (met_at_lem q state)

    rhs_read : Whole (mark_of outs n (get_or ins a 0)) (part out (get_or starts' (body_number ins q a) 0) (get_or starts' (body_number ins q a + 1) 0))
        × (first (forest (mark_of outs n (get_or ins a 0)) (part out (get_or starts' (body_number ins q a) 0) (get_or starts' (body_number ins q a + 1) 0))) ≡ renamed (number_by place) (E.rhs (get_or list q 0) a))
    unfolding alphabet
    rhs_read = body_read (get_or ins a 0) (body_number ins q a) _ (F.bodies.rhs q a there (omega (arith, number_less ins q n a state there))) (rhs_small X (get_or list q 0) a met_state there) (closed.rhs (get_or list q 0) a met_listed (children_of_lem ins a there))

  all_bodies : body_count ins n ≤ 2049
  all_bodies = omega (arith, mul-le-mul F.bodies.few X.few_inputs)

  last_body : body_number ins n 0 ≡ body_count ins n
  last_body = omega arith

  increasing_all : (j : ℕ) → j < body_count ins n → (get_or starts' j 0 < get_or starts' (j + 1) 0) × (get_or starts' (j + 1) 0 ≤ get_or starts' j 0 + 64)
  increasing_all j h = F.bodies.increasing j (omega arith)

  few_marks : get_or starts' (body_count ins n) 0 ≤ 8192
  few_marks = rw last_body at F.bodies.all

  -- the bodies lie where the table says
  pub found_layout : Layout ins outs starts' out n
  unfolding body
  found_layout = record {
    few_symbols = X.few_symbols;
    few_states = F.bodies.few;
    few_inputs = X.few_inputs;
    bounds = record {
      long = omega (arith, all_bodies, F.bodies.long);
      ordered = λ j h. omega (arith, (increasing_all j h).0);
      inside = λ j h. omega (arith, starts_most F.bodies j (omega arith), F.bodies.all, F.bodies.room);
    };
    few = λ j h. (increasing_all j h).1;
    wholes = record { initial = initial_read.0; rhs = λ q a h g. (rhs_read q a h g).0 };
  }

  pub found_packed : Packed ins starts' n
  found_packed = record { start = F.bodies.start; increasing = λ j h. (increasing_all j h).0; all = few_marks }

  -- they are E with its states in the order of first meeting
  found_form : (l : Leaf ins) → Identical (alphabet ins l) (machine ins outs starts' out n) (listed E (met_of list n) (number_by place)) n (length (met_of list n))
  unfolding alphabet transducer body listed
  found_form l =
      record {
        number = sym (met_length F.bodies.queue);
        initial = initial_read.1;
        sort = λ p h. sym (X.sort (get_or list p 0)) ∙ sym (listed_sort E (met_of list n) (number_by place) p (met_at_lem p h));
        rhs = λ p a sorts h k. (rhs_read p a h (children_inside ins a k).0).1 ∙ sym (listed_rhs E (met_of list n) (number_by place) p a (met_at_lem p h));
      }

  pub found_met : Met ins E (machine ins outs starts' out n) n
  found_met = record {
    states = met_of list n;
    index = number_by place;
    indexes = numbers;
    met = all_read;
    form = found_form;
  }
