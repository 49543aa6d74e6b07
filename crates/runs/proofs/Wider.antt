-- A whole body, read with more states or more children than it was made for, is the same term; so the transducer of a table is the same, read with 128 states.
-- Assumes nothing.
use Prim.Native.Nat.{ℕ, ◌≤◌, ◌<◌}
use native.Mathlib.Omega.{arith}
use mathlib.Core.List.{List, [], append-nil}
use mathlib.Core.Path.{◌≡◌, refl, sym, ap, subst, ◌∙◌}
use lib.ListN.{length, get_or}
use Rattle.theory.specs.Inner.Forests.{letters_all}
use Rattle.theory.specs.NormalForm.{Identical}
use Rattle.theory.specs.Term.{Term, var, none, more, count}
use Rattle.theory.specs.Wf.{Wf}
use Rattle.theory.proofs.Identity.{identical_wf}
use Rattle.theory.proofs.Terms.{bind_var}
use Rattle.trees.specs.Alphabets.{Leaf}
use Rattle.trees.specs.Code.{Ranked, Mark, marks, Call}
use Rattle.trees.specs.Inner.Decode.{forest, first, Whole}
use Rattle.trees.proofs.Codes.{decode}
use Rattle.formats.specs.Inner.Layout.{mark_of, body, body_number, transducer}
use Rattle.formats.specs.Sheet.{OverAlphabets}
use Rattle.formats.proofs.Letters.{over_term}
use Rattle.formats.proofs.Sheets.{body_exactly, transducer_over}
use Rattle.forms.specs.Alphabet.{alphabet, children_inside}
use Rattle.forms.specs.Inner.Tables.{machine, Layout}
use Rattle.forms.proofs.Files.{machine_wf}
use Rattle.discovery.proofs.Ranks.{ranked_bind}
use Rattle.runs.specs.Inner.Walked.{tabled}

-- the marks of a ranked term are read as that term
read_marks : (outs : List ℕ) (n r : ℕ) (t : Term (ℕ × ℕ)) → Ranked (Call n r) outs t → forest (mark_of outs n r) (marks t) ≡ more t none
unfolding forest
read_marks outs n r t h = sym (ap (forest (mark_of outs n r)) (append-nil (marks t))) ∙ decode (mark_of outs n r) (λ e. e) (λ b. (0, b)) t [] (over_term outs n r t h)

module _ (outs : List ℕ) {n r n' r' : ℕ} (states : n ≤ n') (children : r ≤ r') where
  -- a call of one of n states on one of r children is one of n' states on one of r'
  wider_ranked : (t : Term (ℕ × ℕ)) → Ranked (Call n r) outs t → Ranked (Call n' r') outs t
  unfolding Ranked
  wider_ranked t h = rw (bind_var t) at (ranked_bind (Call n r) outs (Call n' r') (λ e. var e) (λ e k. record { from_one = k.from_one; child = omega (arith, k.child); state = omega (arith, k.state) }) t h)

  module _ (ms : List Mark) (W : Whole (mark_of outs n r) ms) where
    -- so a whole body is read as the same term
    pub wider_forest : forest (mark_of outs n' r') ms ≡ forest (mark_of outs n r) ms
    wider_forest =
        let w = (body_exactly outs n r ms).0 W in
        let t = w.0 in
        rw (← w.2) (read_marks outs n' r' t (wider_ranked t w.1) ∙ sym (read_marks outs n r t w.1))

    -- and is whole
    pub wider_whole : Whole (mark_of outs n' r') ms
    wider_whole = record { one = ap count wider_forest ∙ W.one; all = ap letters_all wider_forest ∙ W.all }

-- ---- the transducer of a table
module _ {ins outs starts bytes : List ℕ} {n : ℕ} (L : Layout ins outs starts bytes n) where
  -- its initial term and the right-hand sides of its states below n are those of the transducer with n states
  same_initial : (machine ins outs starts bytes n).initial ≡ (tabled ins outs starts bytes).initial
  unfolding transducer
  same_initial = ap first (sym (wider_forest outs L.few_states (omega arith) (body (λ j. get_or starts j 0) bytes 0) L.wholes.initial))

  same_rhs : (q a : ℕ) → q < n → a < length ins → (machine ins outs starts bytes n).rhs q a ≡ (tabled ins outs starts bytes).rhs q a
  unfolding transducer
  same_rhs q a h k = ap first (sym (wider_forest outs L.few_states (omega arith) (body (λ j. get_or starts j 0) bytes (body_number ins q a)) (L.wholes.rhs q a h k)))

  pub tabled_same : (l : Leaf ins) → Identical (alphabet ins l) (machine ins outs starts bytes n) (tabled ins outs starts bytes) n n
  unfolding alphabet transducer
  tabled_same l = record { number = refl; initial = same_initial; sort = λ q h. refl; rhs = λ q a sorts h k. same_rhs q a h (children_inside ins a k).0 }

  -- so they are over the alphabets
  pub tabled_over : OverAlphabets ins outs n (tabled ins outs starts bytes)
  unfolding transducer
  tabled_over =
      let O = transducer_over ins outs n (λ j. get_or starts j 0) bytes L.wholes in
      record { initial = subst (λ t. Ranked (Call n 1) outs t) same_initial O.initial; rhs = λ q a h k. subst (λ t. Ranked (Call n (get_or ins a 0)) outs t) (same_rhs q a h k) (O.rhs q a h k); sort = λ q h. refl }

  -- and well-formed
  pub tabled_wf : (l : Leaf ins) → Wf (alphabet ins l) (tabled ins outs starts bytes) (λ q. q < n)
  tabled_wf l = identical_wf (tabled_same l) (machine_wf l L.wholes)
