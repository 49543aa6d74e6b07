-- Reading depth first with a stack of tasks, as a program does: what is left to do, and how each step of the program changes it.
use Prim.Native.Nat.{ℕ, suc, ◌<◌, ◌≤◌, ◌+◌, ◌*◌, ◌-◌}
use native.Mathlib.Nat.{suc-mul}
use native.Mathlib.Omega.{arith}
use mathlib.Core.Path.{◌≡◌, refl, sym, ap, subst, ◌∙◌}
use mathlib.Core.List.{List, [], ◌∷◌, ◌++◌}
use mathlib.Core.Option.{Option, none as nothing, some}
use lib.ListN.{length, length-append}
use Rattle.theory.specs.Grammar.{Grammar}
use Rattle.theory.specs.Preorder.{Visit, visit_old, visit_new, visit_node, Visits, visit_none, visit_more, VisitRhs, no_symbol, skip_symbol, visit_symbol, Preordered}
use Rattle.theory.specs.Discovered.{read_call}
use Rattle.theory.specs.Distinct.{Distinct}
use Rattle.theory.specs.Registry.{added}
use Rattle.theory.specs.Rule.{Stands}
use Rattle.theory.specs.Term.{Term, var, Terms, node, none, more}
use Rattle.theory.specs.Transducer.{Transducer}
use Rattle.theory.specs.Vars.{one}
use Rattle.theory.proofs.Discovery.{calls_of, calls_in, Every, read_every}
use Rattle.theory.proofs.DiscoveryExists.{pigeon_list}
use Rattle.theory.proofs.Lists.{enter_distinct}
use Rattle.theory.proofs.Numbers.{count_length}
use Rattle.theory.proofs.Rules.{finite_below}

-- reading a list of calls depth first
pub data VisitCalls {Q : Type 0} (G : Grammar) (M : Transducer Q) : List (ℕ × Q) → List Q → List Q → Type 0 where
  no_calls : {L : List Q} → VisitCalls G M [] L L
  next_call : {e : ℕ × Q} {es : List (ℕ × Q)} {L L' L'' : List Q} → Visit G M (var e) L L' → VisitCalls G M es L' L'' → VisitCalls G M (e ∷ es) L L''

-- a task: to read calls that are left of a term, or the right-hand sides of q for the symbols from a on
pub data Task (Q : Type 0) : Type 0 where
  the_calls : List (ℕ × Q) → Task Q
  the_rhs : Q → ℕ → Task Q

-- doing the tasks of a stack, from the top, takes the list from L to F
pub data Finish {Q : Type 0} (G : Grammar) (M : Transducer Q) : List (Task Q) → List Q → List Q → Type 0 where
  finished : {L : List Q} → Finish G M [] L L
  finish_calls : {es : List (ℕ × Q)} {S : List (Task Q)} {L L' F : List Q} → VisitCalls G M es L L' → Finish G M S L' F → Finish G M (the_calls es ∷ S) L F
  finish_rhs : {q : Q} {a : ℕ} {S : List (Task Q)} {L L' F : List Q} → VisitRhs G M q a L L' → Finish G M S L' F → Finish G M (the_rhs q a ∷ S) L F

-- The loop's invariant: whatever list the tasks that are left lead to from L, P holds of it.
pub record Pending {Q : Type 0} (G : Grammar) (M : Transducer Q) (P : List Q → Type 0) (S : List (Task Q)) (L : List Q) : Type 0 where
  pub rest : (F : List Q) → Finish G M S L F → P F

calls_split : {Q : Type 0} {G : Grammar} {M : Transducer Q} {L L'' : List Q} (es fs : List (ℕ × Q)) → VisitCalls G M (es ++ fs) L L'' → (L' : List Q) × VisitCalls G M es L L' × VisitCalls G M fs L' L''
calls_split [] fs r = (_, no_calls, r)
calls_split (e ∷ es) fs (next_call x r) = let s = calls_split es fs r in (s.0, next_call x s.1, s.2)

call_visit : {Q : Type 0} {G : Grammar} {M : Transducer Q} {L L' : List Q} (e : ℕ × Q) → VisitCalls G M (e ∷ []) L L' → Visit G M (var e) L L'
call_visit e (next_call x no_calls) = x

module _ {Q : Type 0} {G : Grammar} {M : Transducer Q} where
  mutual
    unfolding calls_of

    -- to read the calls of a term from left to right is to read the term
    pub calls_visit : {L L' : List Q} (t : Term (ℕ × Q)) → VisitCalls G M (calls_of t) L L' → Visit G M t L L'
    calls_visit (var e) r = call_visit e r
    calls_visit (node k ts) r = visit_node (calls_visits ts r)

    calls_visits : {L L' : List Q} (ts : Terms (ℕ × Q)) → VisitCalls G M (calls_in ts) L L' → Visits G M ts L L'
    calls_visits none no_calls = visit_none
    calls_visits (more t ts) r = let s = calls_split (calls_of t) (calls_in ts) r in visit_more (calls_visit t s.1) (calls_visits ts s.2)

  start_term : {t : Term (ℕ × Q)} {L F : List Q} → Finish G M (the_calls (calls_of t) ∷ []) L F → Visit G M t L F
  start_term {t} (finish_calls r finished) = calls_visit t r

  start_rhs : {q : Q} {a : ℕ} {L F : List Q} → Finish G M (the_rhs q a ∷ []) L F → VisitRhs G M q a L F
  start_rhs (finish_rhs r finished) = r

  -- at the start the calls of the initial term are to be read, and no state is listed
  pub pending_start : Pending G M (Preordered G M) (the_calls (calls_of M.initial) ∷ []) []
  pending_start = record { rest = λ F r. start_term r }

  -- the same for a term from any list on, as for a function that reads a term
  pub pending_term : {t : Term (ℕ × Q)} {L : List Q} → Pending G M (Visit G M t L) (the_calls (calls_of t) ∷ []) L
  pending_term = record { rest = λ F r. start_term r }

  -- the same for right-hand sides, as for a function that reads those of one state and calls itself
  pub pending_state : {q : Q} {a : ℕ} {L : List Q} → Pending G M (VisitRhs G M q a L) (the_rhs q a ∷ []) L
  pending_state = record { rest = λ F r. start_rhs r }

  then_call : {e : ℕ × Q} {es : List (ℕ × Q)} {S : List (Task Q)} {L L' F : List Q} → Visit G M (var e) L L' → Finish G M (the_calls es ∷ S) L' F → Finish G M (the_calls (e ∷ es) ∷ S) L F
  then_call v (finish_calls r s) = finish_calls (next_call v r) s

  then_new : {e : ℕ × Q} {es : List (ℕ × Q)} {S : List (Task Q)} {L F : List Q} → ¬ Stands L e.1 → Finish G M (the_rhs e.1 0 ∷ the_calls es ∷ S) (L ++ e.1 ∷ []) F → Finish G M (the_calls (e ∷ es) ∷ S) L F
  then_new f (finish_rhs v r) = then_call (visit_new f v) r

  then_symbol : {q : Q} {a : ℕ} {sorts : List ℕ} {S : List (Task Q)} {L F : List Q} → G.children (M.sort q) a ≡ some sorts → Finish G M (the_calls (calls_of (M.rhs q a)) ∷ the_rhs q (suc a) ∷ S) L F → Finish G M (the_rhs q a ∷ S) L F
  then_symbol {q} {a} k (finish_calls c (finish_rhs v r)) = finish_rhs (visit_symbol k (calls_visit (M.rhs q a) c) v) r

  then_skip : {q : Q} {a : ℕ} {S : List (Task Q)} {L F : List Q} → a < G.symbols → G.children (M.sort q) a ≡ nothing → Finish G M (the_rhs q (suc a) ∷ S) L F → Finish G M (the_rhs q a ∷ S) L F
  then_skip l k (finish_rhs v r) = finish_rhs (skip_symbol l k v) r

  module _ {P : List Q → Type 0} where
    -- when nothing is left to do, P holds of the list: with pending_start, it is in depth-first order
    pub pending_end : {L : List Q} → Pending G M P [] L → P L
    pending_end {L} p = p.rest L finished

    -- all calls of a term are read
    pub pending_done : {S : List (Task Q)} {L : List Q} → Pending G M P (the_calls [] ∷ S) L → Pending G M P S L
    pending_done p = record { rest = λ F r. p.rest F (finish_calls no_calls r) }

    -- the next call is read by another reading, as by a call of a function
    pub pending_call : {e : ℕ × Q} {es : List (ℕ × Q)} {S : List (Task Q)} {L L' : List Q} → Pending G M P (the_calls (e ∷ es) ∷ S) L → Visit G M (var e) L L' → Pending G M P (the_calls es ∷ S) L'
    pending_call p v = record { rest = λ F r. p.rest F (then_call v r) }

    -- the next call is of a listed state
    pub pending_old : {e : ℕ × Q} {es : List (ℕ × Q)} {S : List (Task Q)} {L : List Q} → Pending G M P (the_calls (e ∷ es) ∷ S) L → Stands L e.1 → Pending G M P (the_calls es ∷ S) L
    pending_old p s = pending_call p (visit_old s)

    -- the next call is of a state that is not listed: it is listed, and its right-hand sides come first
    pub pending_new : {e : ℕ × Q} {es : List (ℕ × Q)} {S : List (Task Q)} {L : List Q} → Pending G M P (the_calls (e ∷ es) ∷ S) L → ¬ Stands L e.1 → Pending G M P (the_rhs e.1 0 ∷ the_calls es ∷ S) (L ++ e.1 ∷ [])
    pending_new p f = record { rest = λ F r. p.rest F (then_new f r) }

    -- the right-hand side for the next symbol is read
    pub pending_symbol : {q : Q} {a : ℕ} {sorts : List ℕ} {S : List (Task Q)} {L : List Q} → Pending G M P (the_rhs q a ∷ S) L → G.children (M.sort q) a ≡ some sorts → Pending G M P (the_calls (calls_of (M.rhs q a)) ∷ the_rhs q (suc a) ∷ S) L
    pending_symbol p k = record { rest = λ F r. p.rest F (then_symbol k r) }

    -- the next symbol is not allowed
    pub pending_skip : {q : Q} {a : ℕ} {S : List (Task Q)} {L : List Q} → Pending G M P (the_rhs q a ∷ S) L → a < G.symbols → G.children (M.sort q) a ≡ nothing → Pending G M P (the_rhs q (suc a) ∷ S) L
    pending_skip p l k = record { rest = λ F r. p.rest F (then_skip l k r) }

    -- there is no symbol left
    pub pending_last : {q : Q} {a : ℕ} {S : List (Task Q)} {L : List Q} → Pending G M P (the_rhs q a ∷ S) L → G.symbols ≤ a → Pending G M P S L
    pending_last p l = record { rest = λ F r. p.rest F (finish_rhs (no_symbol l) r) }

-- ---- The same with the calls that wait in one list: where the code of the right-hand sides of a state is one stretch, a stack of stretches stands for it.
-- the calls of a right-hand side, if its symbol is allowed
unfoldable pub calls_if : {Q : Type 0} → Option (List ℕ) → List (ℕ × Q) → List (ℕ × Q)
calls_if nothing es = []
calls_if (some sorts) es = es

-- the calls of k right-hand sides of q, from that for a on
unfoldable pub calls_from : {Q : Type 0} → Grammar → Transducer Q → Q → ℕ → ℕ → List (ℕ × Q)
calls_from G M q ℕ.zero a = []
calls_from G M q (suc k) a = calls_if (G.children (M.sort q) a) (calls_of (M.rhs q a)) ++ calls_from G M q k (suc a)

-- the calls of the right-hand sides of q, in the order of symbols
abbrev pub rhs_calls : {Q : Type 0} → Grammar → Transducer Q → Q → List (ℕ × Q)
rhs_calls G M q = calls_from G M q G.symbols 0

-- the loop's invariant: whatever list the calls that wait lead to from L, P holds of it
pub record Waiting {Q : Type 0} (G : Grammar) (M : Transducer Q) (P : List Q → Type 0) (es : List (ℕ × Q)) (L : List Q) : Type 0 where
  pub rest : (F : List Q) → VisitCalls G M es L F → P F

no_call_stays : {Q : Type 0} {G : Grammar} {M : Transducer Q} {L L' : List Q} → VisitCalls G M [] L L' → L ≡ L'
no_call_stays no_calls = refl

module _ {Q : Type 0} {G : Grammar} {M : Transducer Q} where
  -- to read the calls of the right-hand sides of q is to read these
  pub calls_rhs : (q : Q) (k a : ℕ) {L L' : List Q} → a + k ≡ G.symbols → VisitCalls G M (calls_from G M q k a) L L' → VisitRhs G M q a L L'
  unfolding calls_from calls_if
  calls_rhs q ℕ.zero a {L} z r = let l : G.symbols ≤ a = omega arith in rw (← no_call_stays r) (no_symbol l)
  calls_rhs q (suc k) a {L} {L'} z r =
      let x = calls_split (calls_if (G.children (M.sort q) a) (calls_of (M.rhs q a))) (calls_from G M q k (suc a)) r in
      go (G.children (M.sort q) a) refl x.1 (calls_rhs q k (suc a) (omega arith) x.2)
    where
      go : (o : Option (List ℕ)) {L₁ : List Q} → G.children (M.sort q) a ≡ o → VisitCalls G M (calls_if o (calls_of (M.rhs q a))) L L₁ → VisitRhs G M q (suc a) L₁ L' → VisitRhs G M q a L L'
      go nothing e c v = let l : a < G.symbols = omega arith in skip_symbol l e (subst (λ K. VisitRhs G M q (suc a) K L') (sym (no_call_stays c)) v)
      go (some sorts) e c v = visit_symbol e (calls_visit (M.rhs q a) c) v

  -- at the start the calls of the initial term wait
  pub waiting_start : Waiting G M (Preordered G M) (calls_of M.initial) []
  waiting_start = record { rest = λ F r. calls_visit M.initial r }

  module _ {P : List Q → Type 0} where
    -- when no call waits, P holds of the list: with waiting_start, it is in depth-first order
    pub waiting_end : {L : List Q} → Waiting G M P [] L → P L
    waiting_end {L} p = p.rest L no_calls

    -- the next call is of a listed state
    pub waiting_old : {e : ℕ × Q} {es : List (ℕ × Q)} {L : List Q} → Waiting G M P (e ∷ es) L → Stands L e.1 → Waiting G M P es L
    waiting_old p s = record { rest = λ F r. p.rest F (next_call (visit_old s) r) }

    -- the next call is of a state that is not listed: it is listed, and the calls of its right-hand sides come first
    pub waiting_new : {e : ℕ × Q} {es : List (ℕ × Q)} {L : List Q} → Waiting G M P (e ∷ es) L → ¬ Stands L e.1 → Waiting G M P (rhs_calls G M e.1 ++ es) (L ++ e.1 ∷ [])
    waiting_new {e} {es} p f = record { rest = λ F r. let x = calls_split (rhs_calls G M e.1) es r in p.rest F (next_call (visit_new f (calls_rhs e.1 G.symbols 0 (omega arith) x.1)) x.2) }

-- the measure of that loop, where a state has at most b calls: it falls with each step
unfoldable pub waiting_measure : {Q : Type 0} → ℕ → ℕ → List (ℕ × Q) → ℕ → ℕ
waiting_measure n b es m = length es + (n - m) * suc b

-- ---- what else the program keeps: no state is listed twice, and all are below n; so there is room for one that is not listed
pub new_distinct : {Q : Type 0} {L : List Q} {q : Q} → Distinct L → ¬ Stands L q → Distinct (L ++ q ∷ [])
new_distinct d f = enter_distinct (added (λ n e. f (record { number = n; there = e }))) d

pub new_every : {Q : Type 0} {P : Q → Type 0} {L : List Q} {q : Q} → Every P L → ¬ Stands L q → P q → Every P (L ++ q ∷ [])
new_every {q = q} v f p = read_every {t = var (0, q)} (read_call (added (λ n e. f (record { number = n; there = e })))) v (one p)

pub few_listed : {n : ℕ} {L : List ℕ} → Distinct L → Every (λ q. q < n) L → length L ≤ n
few_listed {n} d v = let l = pigeon_list d v (finite_below n) in omega (arith, count_length 0 n)

pub room_listed : {n q : ℕ} {L : List ℕ} → Distinct L → Every (λ q. q < n) L → ¬ Stands L q → q < n → length L < n
room_listed {q = q} {L} d v f l = let m = few_listed (new_distinct d f) (new_every v f l) in omega (arith, length-append L (q ∷ []))

-- ---- the measure of the loop
-- the most steps that a task takes by itself, where there are s symbols and a right-hand side has at most b calls
unfoldable pub effort : {Q : Type 0} → ℕ → ℕ → Task Q → ℕ
effort s b (the_calls es) = suc (length es)
effort s b (the_rhs q a) = suc ((s - a) * (b + 2))

-- those of a stack
unfoldable pub efforts : {Q : Type 0} → ℕ → ℕ → List (Task Q) → ℕ
efforts s b [] = 0
efforts s b (t ∷ S) = effort s b t + efforts s b S

-- The measure: the tasks of the stack, and one for each of the n - m states that are not listed; each step of the loop makes it smaller.
unfoldable pub measure : {Q : Type 0} → ℕ → ℕ → ℕ → List (Task Q) → ℕ → ℕ
measure n s b S m = efforts s b S + (n - m) * suc (s * (b + 2))

-- one more of k things, where fewer than k are done
one_less : (k j c : ℕ) → j < k → (k - j) * c ≡ (k - suc j) * c + c
one_less k j c l = let e : k - j ≡ suc (k - suc j) = omega arith in ap (λ x. x * c) e ∙ suc-mul (k - suc j) c

pub waiting_falls_old : {Q : Type 0} (n b m : ℕ) (e : ℕ × Q) (es : List (ℕ × Q)) → waiting_measure n b es m < waiting_measure n b (e ∷ es) m
unfolding waiting_measure
waiting_falls_old n b m e es = omega arith

pub waiting_falls_new : {Q : Type 0} (n b m : ℕ) (e : ℕ × Q) (es fs : List (ℕ × Q)) → m < n → length fs ≤ b → waiting_measure n b (fs ++ es) (suc m) < waiting_measure n b (e ∷ es) m
unfolding waiting_measure
waiting_falls_new n b m e es fs l f = omega (arith, one_less n m (suc b) l, length-append fs es)

module _ {Q : Type 0} (n s b m : ℕ) where
  pub measure_done : (S : List (Task Q)) → measure n s b S m < measure n s b (the_calls [] ∷ S) m
  unfolding measure efforts effort
  measure_done S = omega arith

  pub measure_old : (e : ℕ × Q) (es : List (ℕ × Q)) (S : List (Task Q)) → measure n s b (the_calls es ∷ S) m < measure n s b (the_calls (e ∷ es) ∷ S) m
  unfolding measure efforts effort
  measure_old e es S = omega arith

  pub measure_new : (e : ℕ × Q) (es : List (ℕ × Q)) (S : List (Task Q)) → m < n → measure n s b (the_rhs e.1 0 ∷ the_calls es ∷ S) (suc m) < measure n s b (the_calls (e ∷ es) ∷ S) m
  unfolding measure efforts effort
  measure_new e es S l =
      let z : (s - 0) * (b + 2) ≡ s * (b + 2) = ap (λ x. x * (b + 2)) (omega arith) in
      omega (arith, one_less n m (suc (s * (b + 2))) l, z)

  pub measure_symbol : (q : Q) (a : ℕ) (es : List (ℕ × Q)) (S : List (Task Q)) → a < s → length es ≤ b → measure n s b (the_calls es ∷ the_rhs q (suc a) ∷ S) m < measure n s b (the_rhs q a ∷ S) m
  unfolding measure efforts effort
  measure_symbol q a es S l f = omega (arith, one_less s a (b + 2) l)

  pub measure_skip : (q : Q) (a : ℕ) (S : List (Task Q)) → a < s → measure n s b (the_rhs q (suc a) ∷ S) m < measure n s b (the_rhs q a ∷ S) m
  unfolding measure efforts effort
  measure_skip q a S l = omega (arith, one_less s a (b + 2) l)

  pub measure_last : (q : Q) (a : ℕ) (S : List (Task Q)) → measure n s b S m < measure n s b (the_rhs q a ∷ S) m
  unfolding measure efforts effort
  measure_last q a S = omega arith
