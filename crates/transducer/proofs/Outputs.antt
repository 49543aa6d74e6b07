-- The output of a transducer on an input tree is one tree, whichever of the transducers that a file encodes is taken; and it is what is written.
-- Assumes nothing.
use Prim.Native.Nat.{◌+◌, ℕ, suc, ◌<◌}
use mathlib.Core.List.{List}
use mathlib.Core.Path.{◌≡◌, refl, sym, ap, ap₂, ◌∙◌}
use lib.ListN.{length, get_or, length-append}
use Rattle.theory.specs.Size.{size, sizes}
use Rattle.theory.specs.Term.{Term, var, node, Terms, none, more, Tree, bind}
use Rattle.theory.specs.Transducer.{Transducer, output, translate, run, pick}
use Rattle.theory.specs.Vars.{AllVars, one, each, EachVars, done, both}
use Rattle.theory.proofs.Runs.{output_node, call as called-tree}
use Rattle.theory.proofs.Vars.{bind_ext, all_map}
use Rattle.trees.specs.Alphabets.{inputs, outputs}
use Rattle.trees.specs.Code.{Ranked, AllRanked, Call, preorder, preorders, code}
use Rattle.formats.specs.Sheet.{Encodes, Sheet}
use Rattle.formats.proofs.Sheets.{encodes_unique, sheet_unique}
use Rattle.trees.proofs.Trees.{input_unique}
use Rattle.transducer.specs.Output.{Output}
use Rattle.transducer.specs.Inner.Machine.{OutputBy}

-- ---- the calls of a ranked term
module _ (outs : List ℕ) (n r : ℕ) where
  mutual
    unfolding Ranked

    pub ranked_vars : (t : Term (ℕ × ℕ)) → Ranked (Call n r) outs t → AllVars (Call n r) t
    ranked_vars (var e) c = one c
    ranked_vars (node k ts) c = each (ranked_each ts c.2)

    ranked_each : (ts : Terms (ℕ × ℕ)) → AllRanked (Call n r) outs ts → EachVars (Call n r) ts
    ranked_each none c = done
    ranked_each (more t ts) c = both (ranked_vars t c.0) (ranked_each ts c.1)

-- ---- two transducers with the same right-hand sides where it matters
module _ (ins : List ℕ) (n : ℕ) (M M' : Transducer ℕ)
    (agree : (q a : ℕ) → q < n → a < length ins → M.rhs q a ≡ M'.rhs q a)
    (calls : (q a : ℕ) → q < n → a < length ins → AllVars (λ e. e.1 < n) (M.rhs q a)) where
  mutual
    unfolding Ranked called-tree pick run output

    same_output : (d : Tree) (q : ℕ) → Ranked (λ x. ⊥) ins d → q < n → output M d q ≡ output M' d q
    same_output (var x) q o h = absurd x
    same_output (node a ds) q o h =
        output_node M q a ds ∙ bind_ext (all_map (λ e m. same_called ds e.0 e.1 o.2 m) (calls q a h o.0))
        ∙ ap (λ t. bind t (called-tree M' ds)) (agree q a h o.0) ∙ sym (output_node M' q a ds)

    same_called : (ds : Terms ⊥) (i q : ℕ) → AllRanked (λ x. ⊥) ins ds → q < n → called-tree M ds (i, q) ≡ called-tree M' ds (i, q)
    same_called none i q o h = refl
    same_called (more d ds) ℕ.zero q o h = refl
    same_called (more d ds) (suc ℕ.zero) q o h = same_output d q o.0 h
    same_called (more d ds) (suc (suc i)) q o h = same_called ds (suc i) q o.1 h

  pub same_translate : (d : Tree) → Ranked (λ x. ⊥) ins d → M.initial ≡ M'.initial → AllVars (λ e. e.1 < n) M.initial → translate M d ≡ translate M' d
  unfolding translate
  same_translate d o e c = bind_ext (all_map (λ e m. same_output d e.1 o m) c) ∙ ap (λ t. bind t (λ e. output M' d e.1)) e

-- transducers with one code give the same on every tree
pub encodes_translate : {ins outs : List ℕ} {n : ℕ} {counts bytes : List ℕ} {M M' : Transducer ℕ} → Encodes ins outs n counts bytes M → Encodes ins outs n counts bytes M' → (d : Tree) → Ranked (λ x. ⊥) ins d → translate M d ≡ translate M' d
encodes_translate {ins} {outs} {n} {counts} {bytes} {M} {M'} E E' d o =
    let u = encodes_unique ins outs n counts bytes M M' E E' in
    same_translate ins n M M' u.1 (λ q a h k. all_map (λ e c. c.state) (ranked_vars outs n (get_or ins a 0) (M.rhs q a) (E.over.rhs q a h k))) d o u.0
    (all_map (λ e c. c.state) (ranked_vars outs n 1 M.initial E.over.initial))

-- the output is one
pub output_unique : {stock : List ℕ} {n : ℕ} {counts bytes s : List ℕ} {t t' : Tree} → OutputBy stock n counts bytes s t → OutputBy stock n counts bytes s t' → t ≡ t'
output_unique O O' =
    sym O.given ∙ encodes_translate O.encodes O'.encodes O.input O.is_tree.ranked ∙ ap (translate O'.machine) (input_unique O.is_tree O'.is_tree) ∙ O'.given

-- ---- by the file, or by its parts
module _ {stock sheet design : List ℕ} {n : ℕ} {M : Transducer ℕ} (S : Sheet (inputs stock) (outputs stock) sheet n M) {t : Tree} where
  pub from_parts : OutputBy stock n S.counts S.bytes design t → Output stock sheet design t
  from_parts O = record { states = n; machine = O.machine; input = O.input; is_sheet = record { counts = S.counts; bytes = S.bytes; coded = S.coded; encodes = O.encodes }; is_tree = O.is_tree; given = O.given }

  pub to_parts : Output stock sheet design t → OutputBy stock n S.counts S.bytes design t
  to_parts O =
      let T = O.is_sheet in
      let u = sheet_unique (inputs stock) (outputs stock) sheet O.states n O.machine M T S in
      record { machine = O.machine; input = O.input; encodes = rw (← u.0, ← u.1, ← u.2) T.encodes; is_tree = O.is_tree; given = O.given }

-- ---- as many bytes as nodes
mutual
  unfolding preorder size

  pub code_size : (t : Tree) → length (code t) ≡ size t
  code_size (var x) = absurd x
  code_size (node k ts) = ap suc (codes_size ts)

  codes_size : (ts : Terms ⊥) → length (preorders (λ x. absurd x) (λ k. k) ts) ≡ sizes ts
  codes_size none = refl
  codes_size (more t ts) = length-append (code t) (preorders (λ x. absurd x) (λ k. k) ts) ∙ ap₂ ◌+◌ (code_size t) (codes_size ts)
