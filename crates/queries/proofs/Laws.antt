-- What the promises of the linear test and of the reader of one symbol come to. Read this file first: it cites the promises and nothing of the code.
-- Assumes nothing.
use Rattle.std.specs.Prelude.{Ok, Option, Result}
use Rattle.trees.specs.declared.refusal.Refusal.{Refusal}
use Rattle.trees.specs.Refusal.{outcome_of, accepted, Holds, Decides}
use Prim.Native.Nat.{ℕ, ◌≤◌, ◌<◌}
use native.Mathlib.Omega.{arith}
use mathlib.Core.Bool.{Bool, true, false}
use mathlib.Core.List.{List}
use mathlib.Core.Path.{◌≡◌, refl, sym, ap, ◌∙◌}
use lib.ListN.{length, take}
use lib.Seq.{sets-eq, take_at}
use Rattle.theory.specs.Grammar.{Grammar}
use Rattle.theory.specs.Linear.{Linear}
use Rattle.theory.specs.NormalForm.{Identical}
use Rattle.theory.specs.Reached.{AllReached}
use Rattle.theory.specs.Size.{size}
use Rattle.theory.specs.Term.{Tree, symbol_at}
use Rattle.theory.specs.Transducer.{Transducer}
use Rattle.theory.proofs.Identity.{identical_sym, identical_wf}
use Rattle.theory.proofs.Reach.{linear_all, identical_linear}
use Rattle.trees.specs.Alphabets.{Alphabets, inputs, outputs}
use Rattle.trees.specs.Code.{code}
use Rattle.formats.specs.Sheet.{Sheet}
use Rattle.trees.proofs.Deciding.{decides_same}
use Rattle.trees.proofs.Judging.{accepted_holds, must_accept}
use Rattle.formats.proofs.Sheets.{sheet_counted}
use Rattle.transducer.specs.Answers.{Translates}
use Rattle.transducer.specs.Output.{Output}
use Rattle.transducer.proofs.Laws.{file_output_unique, files_hold}
use Rattle.transducer.proofs.Outputs.{code_size}
use Rattle.forms.specs.Alphabet.{alphabet, children_inside, children_of_lem}
use Rattle.forms.proofs.Files.{encoded_wf}
use Rattle.queries.specs.Answers.{TestsLinear, named, FindsSymbol}
use Rattle.queries.specs.Linear.{AllOnce}
use Rattle.queries.proofs.Reached.{of_file, to_file}

-- ---- the reader of one symbol
module _ {stock sheet design : List ℕ} {t : Tree} (A : Alphabets stock) (O : Output stock sheet design t) where
  -- the symbol at an address is that of the output
  pub must_find : (v : List ℕ) (r : Result (Option ℕ) Refusal) → FindsSymbol stock sheet design v r → outcome_of r ≡ accepted (named (symbol_at t v))
  must_find v r J =
      let (o, (e, (u, (P, z)))) = must_accept (files_hold A O) J in
      e ∙ ap accepted (z ∙ ap (λ u. named (symbol_at u v)) (file_output_unique P O))

-- The translation and the place reader speak of one tree: what was written is its code, and the symbol that is found is the one there.
pub agree : (stock sheet design before after : List ℕ) (k : ℕ) (v : List ℕ) (r : Result (Option ℕ) Refusal) → Translates stock sheet design before after (Ok k) → FindsSymbol stock sheet design v r → (t : Tree) × ((take k after ≡ code t) × (outcome_of r ≡ accepted (named (symbol_at t v))))
unfolding Holds
agree stock sheet design before after k v r J F =
    let (w, (t, (O, z, a))) = accepted_holds J in
    let (u, (P, l)) = w.1.1.1.1.0 in
    let n : length (code t) ≡ size t = code_size t in
    let room : length (code t) ≤ length before = omega (arith, ap size (file_output_unique O P)) in
    (t, (ap (take k) (a ∙ sets-eq (code t) before 0 (omega arith)) ∙ take_at (code t) _ k (n ∙ sym z), must_find w.0 O v r F))

-- ---- the linear test
-- a question has one answer
decides_one : {P : Type 0} (b b' : Bool) → Decides P b → Decides P b' → b ≡ b'
decides_one true true D D' = refl
decides_one true false D D' = sym (D'.complete (D.sound refl))
decides_one false true D D' = D.complete (D'.sound refl)
decides_one false false D D' = refl

module _ {stock s : List ℕ} {n : ℕ} {M : Transducer ℕ} (A : Alphabets stock) (S : Sheet (inputs stock) (outputs stock) s n M) where
  abbrev G : Grammar
  G = alphabet (inputs stock) A.leaf

  -- of the file of a transducer the answer is yes or no, and yes exactly if the transducer is linear
  pub must_test : (r : Result Bool Refusal) → TestsLinear stock s r → (b : Bool) × ((outcome_of r ≡ accepted b) × Decides (Linear G M) b)
  unfolding Holds
  must_test r J =
      let (b, (e, D)) = must_accept (A, (sheet_counted S, ((n, (M, S)), tt))) J in
      (b, (e, decides_same (of_file A.leaf S) (to_file A S) D))

  -- where every state is reached, yes exactly if no right-hand side calls a child twice: the test of 01
  pub must_test_all : AllReached G M n → (r : Result Bool Refusal) → TestsLinear stock s r → (b : Bool) × ((outcome_of r ≡ accepted b) × Decides (AllOnce (length (inputs stock)) n M) b)
  unfolding alphabet
  must_test_all all r J =
      let (b, (e, D)) = must_test r J in
      let w = linear_all (encoded_wf A.ins.few A.leaf S.encodes) all in (
        b,
        (
          e,
          decides_same
              (λ L. record { initial = (w.0 L).0; rhs = λ q a h g. (w.0 L).1 q a _ h (children_of_lem (inputs stock) a g) })
              (λ O. w.1 (O.initial, λ q a sorts h k. O.rhs q a h (children_inside (inputs stock) a k).0))
              D,
        ),
      )

-- with more states, none of which these call, the answer is the same
pub must_test_more : {stock s s' : List ℕ} {n n' : ℕ} {M M' : Transducer ℕ} → Alphabets stock → Sheet (inputs stock) (outputs stock) s n M → Sheet (inputs stock) (outputs stock) s' n' M'
    → n ≤ n' → M.initial ≡ M'.initial → ((q a : ℕ) → q < n → a < length (inputs stock) → M.rhs q a ≡ M'.rhs q a) → (r r' : Result Bool Refusal) → TestsLinear stock s r → TestsLinear stock s' r' → outcome_of r ≡ outcome_of r'
unfolding alphabet
must_test_more {stock} {n = n} {M = M} {M'} A S S' h e f r r' J J' =
    let (b, (x, D)) = must_test A S r J in
    let (b', (x', D')) = must_test A S' r' J' in
    let i : Identical (alphabet (inputs stock) A.leaf) M M' n n = record {
      number = refl;
      initial = e;
      sort = λ p l. S.encodes.over.sort p l ∙ sym (S'.encodes.over.sort p (omega arith));
      rhs = λ p a sorts l k. f p a l (children_inside (inputs stock) a k).0;
    } in
    let W = encoded_wf A.ins.few A.leaf S.encodes in
    x ∙ (ap accepted (decides_one b b' (decides_same (identical_linear W i) (identical_linear (identical_wf i W) (identical_sym i)) D) D') ∙ sym x')
