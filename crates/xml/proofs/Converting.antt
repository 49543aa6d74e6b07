-- What the writer and the reader of XML answer, in the terms of their promises.
-- Assumes nothing.
use Rattle.std.specs.Prelude.{Err, Ok}
use Prim.Native.Nat.{ℕ, ◌+◌, ◌≤◌, ◌<◌}
use native.Mathlib.Omega.{arith}
use mathlib.Core.Bool.{Bool}
use mathlib.Core.List.{List, ◌++◌}
use mathlib.Core.Path.{◌≡◌, refl, sym, ap, ap₂, subst, ◌∙◌}
use lib.ListN.{length, take, drop}
use lib.Seq.{sets, sets-eq}
use Rattle.theory.specs.Size.{size}
use Rattle.theory.specs.Term.{Tree}
use Rattle.trees.specs.Alphabets.{Alphabets, outputs}
use Rattle.trees.specs.Code.{code}
use Rattle.trees.specs.Inner.Symbols.{tree}
use Rattle.trees.specs.Refusal.{Decides}
use Rattle.trees.specs.declared.refusal.Refusal.TheVariants.{BadOutput, ShortTarget}
use Rattle.trees.proofs.Deciding.{decides_same}
use Rattle.trees.proofs.Extents.{whole_size, tree_levels_lem}
use Rattle.trees.proofs.Judging.{refuse, pass, accept}
use Rattle.trees.proofs.Letters.{over_tree, ranked_tree}
use Rattle.trees.proofs.Trees.{coded_whole, whole_coded}
use Rattle.formats.specs.Inner.Judging.{Put}
use Rattle.xml.specs.Xml.{xml, OutputTree}
use Rattle.xml.specs.Answers.{InForm, WritesXml, ReadsXml}
use Rattle.xml.specs.Inner.Kinds.{Collects, Both}
use Rattle.xml.specs.Inner.Measured.{WholeOutput}
use Rattle.xml.proofs.Collecting.{kinds_all}

-- ---- output trees and their codes
module _ {outs s : List ℕ} where
  -- what is read as one tree is the code of that output tree
  pub whole_output : WholeOutput outs s → OutputTree outs (tree outs s) × (code (tree outs s) ≡ s)
  whole_output W =
      let w = whole_coded outs s W.one in
      (record { ranked = ranked_tree outs (tree outs s) w.0; small = omega (arith, whole_size outs s W.one, W.small) }, w.1)

  -- and the code of an output tree is read as that tree
  pub output_whole : {t : Tree} → OutputTree outs t → code t ≡ s → WholeOutput outs s × (tree outs s ≡ t)
  output_whole {t} O e =
      let w = coded_whole outs s t (over_tree outs t O.ranked) e in
      let n : length s ≤ 4096 = omega (arith, whole_size outs s w.0, ap size w.1, O.small) in
      (record { one = w.0; small = n; few_levels_lem = omega (arith, tree_levels_lem outs s w.0) }, w.1)

  -- ---- s is the code, and the text the XML, of one tree
  module _ {text : List ℕ} where
    pub both_decides : WholeOutput outs s → {b : Bool} → Decides (xml (tree outs s) ≡ text) b → Decides (Both outs s text) b
    both_decides W D =
        decides_same
        (λ e. let w = whole_output W in record { one = tree outs s; output = w.0; coded = w.1; written = e })
        (λ p. ap xml (output_whole p.output p.coded).1 ∙ p.written)
        D

    pub no_both : (WholeOutput outs s → ⊥) → Both outs s text → ⊥
    no_both f p = f (output_whole p.output p.coded).0

-- ---- the writer
module _ {stock s outs : List ℕ} (o : outs ≡ outputs stock) where
  whole_in_form : WholeOutput outs s → InForm code stock s (tree outs s)
  whole_in_form W = let w = whole_output W in record { output = subst (λ l. OutputTree l (tree outs s)) o w.0; is = w.1 }

  in_form_whole : {t : Tree} → InForm code stock s t → WholeOutput outs s × (tree outs s ≡ t)
  in_form_whole F = output_whole (rw o F.output) F.is

module _ {stock s outs : List ℕ} (A : Alphabets stock) (o : outs ≡ outputs stock) where
  pub no_plan : {area : List ℕ} → (WholeOutput outs s → ⊥) → WritesXml stock s area area (Err BadOutput)
  no_plan f = pass A (refuse (λ w. f (in_form_whole o w.1).0) refl)

  module _ (W : WholeOutput outs s) {n : ℕ} (e : n ≡ length (xml (tree outs s))) where
    pub short_text : {area : List ℕ} → length area < n → WritesXml stock s area area (Err ShortTarget)
    short_text h = pass A (pass (tree outs s, whole_in_form o W) (refuse (λ w. omega (arith, w.1.1, ap (λ t. length (xml t)) (in_form_whole o w.1.0).1)) refl))

    pub text_written : {area area' : List ℕ} {r : ℕ} → n ≤ length area → Put (xml (tree outs s)) area area' r → WritesXml stock s area area' (Ok r)
    text_written h P = let F = whole_in_form o W in pass A (pass (tree outs s, F) (pass (tree outs s, (F, omega arith)) (accept (tree outs s, (F, P.size, P.wrote)))))

-- ---- the reader
module _ {stock text outs table : List ℕ} {n : ℕ} (A : Alphabets stock) (o : outs ≡ outputs stock) (C : Collects text table n) where
  few : length outs ≤ 64
  few = omega (arith, A.outs.few, ap length o)

  -- they are the code of the tree whose XML the text is
  collected : {t : Tree} → InForm xml stock text t → (take n table ≡ code t) × (n ≡ length (code t))
  collected {t} F = kinds_all outs t few (rw o F.output) F.is C

  pub no_text : {area : List ℕ} → (Both outs (take n table) text → ⊥) → ReadsXml stock text area area (Err BadOutput)
  no_text f = pass A (refuse (λ w. let F = w.1 in f (record { one = w.0; output = rw o F.output; coded = sym (collected F).0; written = F.is })) refl)

  module _ (P : Both outs (take n table) text) where
    both_in_form : InForm xml stock text P.one
    both_in_form = record { output = rw o at P.output; is = P.written }

    pub short_area : {area : List ℕ} → length area < n → ReadsXml stock text area area (Err ShortTarget)
    short_area h = pass A (pass (P.one, both_in_form) (refuse (λ w. omega (arith, w.1.1, (collected w.1.0).1)) refl))

    pub plan_read : {area area' : List ℕ} → n ≤ length area → area' ≡ sets area 0 (take n table) → ReadsXml stock text area area' (Ok n)
    plan_read {area} h e =
        let c = collected both_in_form in
        pass A (pass (P.one, both_in_form) (pass (P.one, (both_in_form, omega (arith, c.1))) (accept (P.one, (both_in_form, c.1, e ∙ ap (sets area 0) c.0)))))
