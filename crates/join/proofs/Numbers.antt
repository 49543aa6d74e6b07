-- The second transducer after the first, with a number for each pair of their states: its right-hand sides are over the inputs of the first and the outputs of the second, and call pairs.
-- Assumes nothing.
use Prim.Native.Nat.{ℕ, ◌+◌, ◌*◌, ◌/◌, ◌%◌, ◌≤◌, ◌<◌}
use native.Mathlib.Omega.{arith}
use mathlib.Core.List.{List}
use mathlib.Core.Path.{refl}
use lib.ListN.{length, get_or}
use Rattle.theory.specs.Accessible.{coded}
use Rattle.theory.specs.Compose.{assoc, compose}
use Rattle.theory.specs.Inner.PairCodes.{pair_code, pair_name}
use Rattle.theory.specs.Joined.{OutputsIn}
use Rattle.theory.specs.Term.{Term, var, mapT}
use Rattle.theory.specs.Transducer.{Transducer, run, renamed}
use Rattle.theory.specs.Wf.{Wf}
use Rattle.theory.proofs.Terms.{bind_bind, bind_var}
use Rattle.trees.specs.Alphabets.{Leaf, inputs, outputs}
use Rattle.trees.specs.Code.{Ranked, Call}
use Rattle.formats.specs.Inner.Layout.{transducer}
use Rattle.formats.specs.Sheet.{OverAlphabets}
use Rattle.forms.specs.Alphabet.{alphabet, children_inside}
use Rattle.discovery.specs.Inner.Discovering.{ValidCall, ByNumbers}
use Rattle.discovery.proofs.Ranks.{ranked_open, ranked_bind, run_ranked}
use Rattle.join.specs.Inner.Pairs.{product, Pair, IsPair, Tables}
use Rattle.runs.specs.Inner.Walked.{paired, tabled}
use Rattle.runs.proofs.Wider.{tabled_over, tabled_wf}

-- ---- the outputs of a transducer over two alphabets are trees over the second
pub over_outputs : {ins mids : List ℕ} {n : ℕ} {M : Transducer ℕ} → OverAlphabets ins mids n M → (l : Leaf ins) (l' : Leaf mids) → OutputsIn (alphabet ins l) (alphabet mids l') M (λ q. q < n) (λ q. 0)
unfolding alphabet
over_outputs {ins} {mids} {n} {M} O l l' = record {
  initial = ranked_open (Call n 1) mids l' M.initial O.initial;
  rhs = λ q a h k. ranked_open (Call n (get_or ins a 0)) mids l' (M.rhs q a) (O.rhs q a h (children_inside ins a k).0);
}

-- ---- pairs by their numbers
-- the calls that state p meets are calls of pairs
module _ (n : ℕ) {m : ℕ} (few : m ≤ 128) where
  pair_valid : {q p : ℕ} → q < n → p < m → Pair n m (q * 128 + p)
  pair_valid h g = record { first = omega arith; second = omega arith }

  pub paired_ranked : (outs : List ℕ) (r : ℕ) (t : Term ((ℕ × ℕ) × ℕ)) → Ranked (λ e. Call n r e.0 × (e.1 < m)) outs t → Ranked (ValidCall (Pair n m) r) outs (paired t)
  unfolding Ranked renamed mapT assoc pair_code
  paired_ranked outs r t c =
      ranked_bind (ValidCall' r) outs (ValidCall (Pair n m) r) (λ e. var (e.0, e.1.0 * 128 + e.1.1)) (λ e k. record { from_one = k.0.from_one; child = k.0.child; state = pair_valid k.0.state k.1 }) (mapT assoc t)
      (ranked_bind (λ e. Call n r e.0 × (e.1 < m)) outs (ValidCall' r) (λ e. var (assoc e)) (λ e k. k) t c)
    where
      ValidCall' : ℕ → ℕ × (ℕ × ℕ) → Type 0
      ValidCall' r e = Call n r (e.0, e.1.0) × (e.1.1 < m)

module _ {stock stock' starts bytes starts' bytes' : List ℕ} (T : Tables stock stock' starts bytes starts' bytes') where
  -- the two transducers are over their alphabets, and well-formed; what the first gives is read by the second
  pub first_over : OverAlphabets (inputs stock) (inputs stock') T.first.states (tabled (inputs stock) (inputs stock') starts bytes)
  first_over = tabled_over T.first.layout

  pub second_over : OverAlphabets (inputs stock') (outputs stock') T.second.states (tabled (inputs stock') (outputs stock') starts' bytes')
  second_over = tabled_over T.second.layout

  pub first_wf : (l : Leaf (inputs stock)) → Wf (alphabet (inputs stock) l) (tabled (inputs stock) (inputs stock') starts bytes) (λ q. q < T.first.states)
  first_wf = tabled_wf T.first.layout

  pub second_wf : (l' : Leaf (inputs stock')) → Wf (alphabet (inputs stock') l') (tabled (inputs stock') (outputs stock') starts' bytes') (λ p. p < T.second.states)
  second_wf = tabled_wf T.second.layout

  pub first_outputs : (l : Leaf (inputs stock)) (l' : Leaf (inputs stock')) → OutputsIn (alphabet (inputs stock) l) (alphabet (inputs stock') l') (tabled (inputs stock) (inputs stock') starts bytes) (λ q. q < T.first.states) (λ q. 0)
  first_outputs = over_outputs first_over

  -- the right-hand side of a pair is over the outputs of the second, and calls pairs
  pair_rhs : (q p a : ℕ) → q < T.first.states → p < T.second.states → a < length (inputs stock)
      → Ranked (ValidCall (Pair T.first.states T.second.states) (get_or (inputs stock) a 0)) (outputs stock') (paired (run (tabled (inputs stock') (outputs stock') starts' bytes') ((tabled (inputs stock) (inputs stock') starts bytes).rhs q a) p))
  pair_rhs q p a h g k =
      paired_ranked T.first.states T.second.layout.few_states (outputs stock') (get_or (inputs stock) a 0) _
      (run_ranked (Call T.first.states (get_or (inputs stock) a 0)) second_over _ (first_over.rhs q a h k) p g)

  pair_initial : Ranked (ValidCall (Pair T.first.states T.second.states) 1) (outputs stock') (product stock stock' starts bytes starts' bytes').initial
  unfolding product coded compose renamed mapT
  pair_initial =
      let N = tabled (inputs stock') (outputs stock') starts' bytes' in
      let M = tabled (inputs stock) (inputs stock') starts bytes in
      rw (bind_bind {C = ℕ × ℕ} N.initial (λ e. mapT assoc (run N M.initial e.1)) (λ e. var (e.0, pair_code 128 e.1)))
      (ranked_bind (Call T.second.states 1) (outputs stock') (ValidCall (Pair T.first.states T.second.states) 1) (λ e. paired (run N M.initial e.1))
      (λ e k. paired_ranked T.first.states T.second.layout.few_states (outputs stock') 1 _ (run_ranked (Call T.first.states 1) second_over _ first_over.initial e.1 k.state))
      N.initial second_over.initial)

  -- its states are numbers below 16,384
  pub by_numbers : ByNumbers (inputs stock) (outputs stock') 16384 (product stock stock' starts bytes starts' bytes') (Pair T.first.states T.second.states)
  unfolding product coded compose pair_name transducer
  by_numbers = record {
    few_symbols = T.second.layout.few_symbols;
    few_inputs = T.first.layout.few_inputs;
    ranks = T.alphabets.ins.low;
    narrow = omega arith;
    small = λ c P. omega (arith, P.first, T.first.layout.few_states);
    sort = λ c. refl;
    initial = pair_initial;
    rhs = λ c a P h. pair_rhs (c / 128) (c % 128) a P.first P.second h;
  }

-- the same where each state is one with tables of its own
module _ {stock stock' starts bytes starts' bytes' : List ℕ} (T : Tables stock stock' starts bytes starts' bytes') where
  abbrev Paired : ℕ → Type 0
  Paired = IsPair stock stock' starts bytes starts' bytes'

  with_tables : (n : ℕ) (X : Tables stock stock' starts bytes starts' bytes') (t : Term (ℕ × ℕ)) → Ranked (ValidCall (Pair X.first.states X.second.states) n) (outputs stock') t → Ranked (ValidCall Paired n) (outputs stock') t
  unfolding Ranked
  with_tables n X t h = rw (bind_var t) at (ranked_bind (ValidCall (Pair X.first.states X.second.states) n) (outputs stock') (ValidCall Paired n) (λ e. var e) (λ e k. record { from_one = k.from_one; child = k.child; state = record { tables = X; pair = k.state } }) t h)

  pub pair_numbers : ByNumbers (inputs stock) (outputs stock') 16384 (product stock stock' starts bytes starts' bytes') Paired
  pair_numbers =
      let N = by_numbers T in
      record {
        few_symbols = N.few_symbols;
        few_inputs = N.few_inputs;
        ranks = N.ranks;
        narrow = N.narrow;
        small = λ c P. (by_numbers P.tables).small c P.pair;
        sort = N.sort;
        initial = with_tables 1 T _ N.initial;
        rhs = λ c a P h. with_tables (get_or (inputs stock) a 0) P.tables _ ((by_numbers P.tables).rhs c a P.pair h);
      }
