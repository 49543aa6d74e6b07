-- With one more symbol in each alphabet, translation gives what is laid for a partial input tree.
-- Assumes nothing.
use Rattle.std.specs.Prelude.{Option, Result}
use Rattle.trees.specs.declared.refusal.Refusal.{Refusal}
use Rattle.trees.specs.Refusal.{outcome_of, accepted, Holds}
use Prim.Native.Nat.{ℕ, ◌<◌}
use native.Mathlib.Omega.{arith}
use mathlib.Core.List.{List, [], ◌∷◌}
use mathlib.Core.Path.{◌≡◌, refl, sym, ap, ◌∙◌}
use lib.ListN.{length, get_or, length-append, get_or-append}
use lib.Seq.{sets, get_or-append_seam}
use Rattle.theory.specs.NormalForm.{Identical}
use Rattle.theory.specs.OpenTrees.{translate_open}
use Rattle.theory.specs.Term.{Term, var, Terms, node, none, more, bind, binds, Tree, count}
use Rattle.theory.specs.Transducer.{output, translate}
use Rattle.theory.proofs.Identity.{identical_open}
use Rattle.theory.proofs.OpenRuns.{translate_bind, translate_fits}
use Rattle.theory.proofs.Runs.{fill, output_node}
use Rattle.theory.proofs.Terms.{count_binds}
use Rattle.theory.proofs.Vars.{bind_ext, all_map}
use Rattle.trees.specs.Alphabets.{Alphabets, inputs, outputs}
use Rattle.trees.specs.Code.{Ranked, AllRanked, code, preorder}
use Rattle.trees.specs.Tree.{InputTree}
use Rattle.trees.proofs.Codes.{preorder_bind}
use Rattle.trees.proofs.Judging.{accepted_holds}
use Rattle.trees.proofs.Letters.{over_tree}
use Rattle.trees.proofs.Stock.{stock_reads, stock_reads_outputs}
use Rattle.trees.proofs.Trees.{coded_whole}
use Rattle.transducer.specs.Answers.{Translates}
use Rattle.transducer.specs.Output.{Output}
use Rattle.transducer.proofs.Laws.{file_output_unique}
use Rattle.forms.specs.Alphabet.{alphabet, children_inside}
use Rattle.forms.proofs.Files.{encoded_wf}
use Rattle.partial.specs.AsSymbol.{one_more, blank_stock, BlankSheet, marked}
use Rattle.partial.specs.Partial.{PartialTree, Lays, partial_code}
use Rattle.partial.proofs.Laws.{partial_allowed, lays_given}

-- ---- trees over an alphabet with one more symbol
-- the ranks of the symbols stay
rank_stays : (ranks : List ℕ) (k : ℕ) → k < length ranks → (k < length (one_more ranks)) × (get_or (one_more ranks) k 0 ≡ get_or ranks k 0)
rank_stays ranks k h = (omega (arith, length-append ranks (0 ∷ [])), get_or-append ranks (0 ∷ []) 0 k h)

-- and the new one has rank 0
rank_new : (ranks : List ℕ) → (length ranks < length (one_more ranks)) × (get_or (one_more ranks) (length ranks) 0 ≡ 0)
rank_new ranks = (omega (arith, length-append ranks (0 ∷ [])), get_or-append_seam ranks 0 [] 0)

module _ {A : Type 0} (ranks : List ℕ) where
  mutual
    unfolding Ranked bind count

    marked_ranked : (d : Term A) → PartialTree ranks d → Ranked (λ x. ⊥) (one_more ranks) (marked (length ranks) d)
    marked_ranked (var x) r = ((rank_new ranks).0, sym (rank_new ranks).1, tt)
    marked_ranked (node k ts) r = let s = rank_stays ranks k r.0 in (s.0, count_binds ts _ ∙ r.1 ∙ sym s.1, all_marked ts r.2)

    all_marked : (ts : Terms A) → AllRanked (λ x. Unit {0}) ranks ts → AllRanked {A = ⊥} (λ x. ⊥) (one_more ranks) (binds ts (λ x. node (length ranks) none))
    all_marked none r = tt
    all_marked (more t ts) r = (marked_ranked t r.0, all_marked ts r.1)

-- the code of a tree with the new symbol for each variable has its name there
pub marked_code : {A : Type 0} (p : ℕ) (d : Term A) → code (marked p d) ≡ partial_code p d
unfolding preorder
marked_code p d = preorder_bind (λ x. absurd x) (λ k. k) (λ x. node p none) d

-- ---- what the wider transducer gives
module _ {alphabets s x : List ℕ} (A : Alphabets alphabets) (B : BlankSheet alphabets s x) where
  abbrev blank_name : ℕ
  blank_name = length (inputs alphabets)

  abbrev end_name : ℕ
  end_name = length (outputs alphabets)

  -- but for the new symbol it is the transducer of the file
  wider_identical : Identical (alphabet (inputs alphabets) A.leaf) B.machine B.wider B.states B.states
  unfolding alphabet
  wider_identical = record {
    number = refl;
    initial = sym B.initial;
    sort = λ q h. B.sheet.encodes.over.sort q h ∙ sym (B.wider_sheet.encodes.over.sort q h);
    rhs = λ q a sorts h k. sym (B.rhs q a h (children_inside (inputs alphabets) a k).0);
  }

  -- on the new symbol it gives the other
  on_blank : (q : ℕ) → q < B.states → output B.wider (node blank_name none) q ≡ node end_name none
  unfolding bind
  on_blank q h = output_node B.wider q blank_name none ∙ ap (fill B.wider none) (B.blank q h)

  module _ {X : Type 0} {d : Term X} {t : Term (X × ℕ)} (L : Lays alphabets s d t) where
    -- With the new symbol for the variables the wider transducer gives what is laid, with the other for the calls.
    pub wider_translates : translate B.wider (marked blank_name d) ≡ marked end_name t
    wider_translates =
        let l = A.leaf in
        let W = encoded_wf A.ins.few l B.sheet.encodes in
        let ok = partial_allowed l d L.is_partial in
        let e : translate_open B.wider d ≡ t = sym (identical_open wider_identical W ok) ∙ lays_given B.sheet A L in
        let fits = rw (lays_given B.sheet A L) at (translate_fits W ok) in
        translate_bind B.wider (λ y. node blank_name none) d ∙ (ap (λ u. bind u (λ c. output B.wider (node blank_name none) c.1)) e ∙ bind_ext (all_map (λ c p. on_blank c.1 p.0) fits))

    -- So it does by the files, where the partial input tree with the new symbol is a tree that is accepted.
    pub wider_output : {i : Tree} → InputTree (inputs (blank_stock alphabets)) (partial_code blank_name d) i → Output (blank_stock alphabets) x (partial_code blank_name d) (marked end_name t)
    wider_output {i} I =
        let ins = one_more (inputs alphabets) in
        let outs = one_more (outputs alphabets) in
        let I' = rw (stock_reads ins outs) at I in
        let e = (coded_whole ins (partial_code blank_name d) i (over_tree ins i I'.ranked) I'.coded).1 in
        let m = (coded_whole ins (partial_code blank_name d) (marked blank_name d) (over_tree ins _ (marked_ranked (inputs alphabets) d L.is_partial)) (marked_code blank_name d)).1 in
        record {
          states = B.states;
          machine = B.wider;
          input = i;
          is_sheet = rw (stock_reads ins outs, stock_reads_outputs ins outs) B.wider_sheet;
          is_tree = I;
          given = ap (translate B.wider) (sym e ∙ m) ∙ wider_translates;
        }

    -- A translation that is accepted has written what is laid, with the name of the new output symbol for each call.
    pub wider_written : {before after : List ℕ} {k : ℕ} (r : Result ℕ Refusal) → Translates (blank_stock alphabets) x (partial_code blank_name d) before after r → outcome_of r ≡ accepted k → after ≡ sets before 0 (partial_code end_name t)
    unfolding Holds
    wider_written {before} r J e =
        let w = accepted_holds (rw e at J) in
        let O = wider_output w.0.1.1.1.0.1 in
        w.1.1.2 ∙ ap (sets before 0) (ap code (file_output_unique w.1.1.0 O) ∙ marked_code end_name t)
