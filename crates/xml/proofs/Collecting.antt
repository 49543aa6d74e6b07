-- The output symbols of a text's tags: collecting them one by one, and that they are the code of the tree whose text it is.
-- Assumes nothing.
use Prim.Native.Nat.{ℕ, ◌+◌, ◌/◌, ◌%◌, ◌≤◌, ◌<◌}
use native.Mathlib.Numerals.{add-one}
use native.Mathlib.Omega.{arith}
use mathlib.Core.Bool.{true, false}
use mathlib.Core.List.{List, [], ◌∷◌, ◌++◌, append_assoc, append-nil}
use mathlib.Core.Path.{◌≡◌, refl, sym, ap, ap₂, ◌∙◌}
use lib.ListN.{length, get_or, take, drop, set, length-set, length-drop, drop_of_length-le}
use lib.Seq.{drop-drop, take_all, take_at, length-take-le, take-suc-set}
use borrow.Author.Tests.{ne_eqb}
use Rattle.std.specs.Option.{unwrap_or}
use Rattle.theory.specs.Size.{size}
use Rattle.theory.specs.Term.{Tree, Terms, var, node, none, more}
use Rattle.trees.specs.Code.{Ranked, AllRanked, code, preorder, preorders}
use Rattle.trees.proofs.Extents.{whole_size}
use Rattle.trees.proofs.Letters.{over_tree}
use Rattle.trees.proofs.Trees.{coded_whole}
use Rattle.codes.specs.Codes.{symbol_code}
use Rattle.codes.specs.Inner.Table.{symbol_with}
use Rattle.codes.proofs.Laws.{code_found}
use Rattle.xml.specs.Xml.{opening, closing, empty, xml, xmls, OutputTree}
use Rattle.xml.specs.Inner.Kinds.{opens, cons_if, kinds_in, Collects}

-- ---- the symbols of one tag
-- a byte that is no < begins no tag
skip : (x : ℕ) (w : List ℕ) → (x ≡ 60 → ⊥) → kinds_in (x ∷ w) ≡ kinds_in w
unfolding kinds_in
skip x w h = rw (ne_eqb x 60 h)

-- nor do the two bytes of a code
skip_code : (k : ℕ) (w : List ℕ) → k < 64 → kinds_in (symbol_code k ++ w) ≡ kinds_in w
skip_code k w h = skip (65 + k / 8) ((49 + k % 8) ∷ w) (λ e. omega arith) ∙ skip (49 + k % 8) w (λ e. omega arith)

-- a tag that does not close has its symbol
kinds_open : (k : ℕ) (w : List ℕ) → k < 64 → kinds_in (60 ∷ (symbol_code k ++ w)) ≡ k ∷ kinds_in w
unfolding kinds_in
kinds_open k w h = rw (ne_eqb (65 + k / 8) 47 (λ e. omega arith)) (ap₂ ◌∷◌ (ap (λ o. unwrap_or o 64) (code_found k h)) (skip_code k w h))

kinds_empty : (k : ℕ) (w : List ℕ) → k < 64 → kinds_in (empty k ++ w) ≡ k ∷ kinds_in w
unfolding kinds_in
kinds_empty k w h = kinds_open k (47 ∷ 62 ∷ w) h

kinds_opening : (k : ℕ) (w : List ℕ) → k < 64 → kinds_in (opening k ++ w) ≡ k ∷ kinds_in w
unfolding kinds_in
kinds_opening k w h = kinds_open k (62 ∷ w) h

-- one that closes has none
kinds_closing : (k : ℕ) (w : List ℕ) → k < 64 → kinds_in (closing k ++ w) ≡ kinds_in w
unfolding kinds_in
kinds_closing k w h = skip_code k (62 ∷ w) h

-- ---- the symbols of a text
abbrev child_codes : Terms ⊥ → List ℕ
child_codes ts = preorders (λ x. absurd x) (λ k. k) ts

-- two tags around a text have the symbol of the first, and then those of the text
kinds_around : (k : ℕ) (u s w : List ℕ) → k < 64 → ((v : List ℕ) → kinds_in (u ++ v) ≡ s ++ kinds_in v) → kinds_in ((opening k ++ (u ++ closing k)) ++ w) ≡ k ∷ (s ++ kinds_in w)
kinds_around k u s w h f = rw (append_assoc u (closing k) w, kinds_opening k (u ++ (closing k ++ w)) h, f (closing k ++ w), kinds_closing k w h)

-- a node has its own symbol, and then those of its children
kinds_node : (k : ℕ) (ts : Terms ⊥) (w : List ℕ) → k < 64 → ((v : List ℕ) → kinds_in (xmls ts ++ v) ≡ child_codes ts ++ kinds_in v) → kinds_in (xml (node k ts) ++ w) ≡ k ∷ (child_codes ts ++ kinds_in w)
unfolding xml preorder
kinds_node k none w h f = kinds_empty k w h
kinds_node k (more t ts) w h f = kinds_around k (xmls (more t ts)) (child_codes (more t ts)) w h f

module _ (outs : List ℕ) where
  mutual
    unfolding xml preorder Ranked

    pub kinds_xml : (t : Tree) (w : List ℕ) → length outs ≤ 64 → Ranked (λ x. ⊥) outs t → kinds_in (xml t ++ w) ≡ code t ++ kinds_in w
    kinds_xml (var x) w l r = absurd x
    kinds_xml (node k ts) w l r = kinds_node k ts w (omega (arith, r.0)) (λ v. kinds_xmls ts v l r.2)

    kinds_xmls : (ts : Terms ⊥) (w : List ℕ) → length outs ≤ 64 → AllRanked (λ x. ⊥) outs ts → kinds_in (xmls ts ++ w) ≡ child_codes ts ++ kinds_in w
    kinds_xmls none w l r = refl
    kinds_xmls (more t ts) w l r = rw (append_assoc (xml t) (xmls ts) w, append_assoc (code t) (child_codes ts) (kinds_in w), kinds_xml t (xmls ts ++ w) l r.0, kinds_xmls ts w l r.1)

  -- as many as the tree has nodes
  pub code_size : (t : Tree) → Ranked (λ x. ⊥) outs t → length (code t) ≡ size t
  code_size t r =
      let w = coded_whole outs (code t) t (over_tree outs t r) refl in
      sym (whole_size outs (code t) w.0) ∙ ap size w.1

  -- they are the code of the tree
  pub kinds_all : (t : Tree) → length outs ≤ 64 → OutputTree outs t → {text table : List ℕ} {r : ℕ} → xml t ≡ text → Collects text table r → (take r table ≡ code t) × (r ≡ length (code t))
  unfolding kinds_in
  kinds_all t l O {text} {table} {r} e C =
      let k : kinds_in text ≡ code t = ap kinds_in (sym e ∙ sym (append-nil (xml t))) ∙ kinds_xml t [] l O.ranked ∙ append-nil (code t) in
      let w : take r table ≡ code t = C.wrote ∙ ap (take 4096) k ∙ take_all 4096 (code t) (omega (arith, code_size t O.ranked, O.small)) in
      (w, sym (length-take-le r table (omega (arith, C.few, C.long))) ∙ ap length w)

-- ---- the loop
-- one byte of a text that is not at its end
kinds_step : (l : List ℕ) → 0 < length l → kinds_in l ≡ cons_if (opens l) (unwrap_or (symbol_with (get_or l 1 0 ∷ get_or l 2 0 ∷ [])) 64) (kinds_in (drop 1 l))
unfolding kinds_in
kinds_step [] h = absurd (omega arith)
kinds_step (x ∷ l) h = refl

-- the symbols of the tags before i, n of them, stand at the start of the table
pub record Collected (text table : List ℕ) (n i : ℕ) : Type 0 where
  pub few : n ≤ 4096
  pub inside : i ≤ length text
  pub long : length table ≡ 4096
  pub kept : take n table ++ kinds_in (drop i text) ≡ kinds_in text

module _ {text table : List ℕ} {n i : ℕ} (C : Collected text table n i) where
  module _ (inside : i < length text) {tail : List ℕ} (lent : tail ≡ drop i text) where
    step_here : kinds_in (drop i text) ≡ cons_if (opens tail) (unwrap_or (symbol_with (get_or tail 1 0 ∷ get_or tail 2 0 ∷ [])) 64) (kinds_in (drop (i + 1) text))
    step_here = rw (lent, ← drop-drop 1 i text) (kinds_step (drop i text) (omega (arith, length-drop i text)))

    -- no tag begins here that does not close
    pub collect_skip : opens tail ≡ false → Collected text table n (i + 1)
    collect_skip f = record { few = C.few; inside = omega arith; long = C.long; kept = ap (◌++◌ (take n table)) (sym (rw f at step_here)) ∙ C.kept }

    -- one does
    pub collect_one : {k : ℕ} → n < 4096 → opens tail ≡ true → k ≡ unwrap_or (symbol_with (get_or tail 1 0 ∷ get_or tail 2 0 ∷ [])) 64 → Collected text (set table n k) (n + 1) (i + 1)
    collect_one {k} h f e =
        let o : kinds_in (drop i text) ≡ k ∷ kinds_in (drop (i + 1) text) = rw (f, ← e) at step_here in
        let g : n < length table = omega (arith, C.long) in
        record {
          few = omega arith;
          inside = omega arith;
          long = length-set table n k ∙ C.long;
          kept = rw (add-one n, take-suc-set table n k g, append_assoc) (ap (◌++◌ (take n table)) (sym o) ∙ C.kept);
        }

  -- n of them stand in the table
  so_many : length (take n table) ≡ n
  so_many = length-take-le n table (omega (arith, C.few, C.long))

  -- every tag is passed
  pub collect_end : length text ≤ i → Collects text table n
  unfolding kinds_in
  collect_end h =
      let w : take n table ≡ kinds_in text = sym (append-nil (take n table)) ∙ rw (drop_of_length-le text {i = i} h) at C.kept in
      record { few = C.few; wrote = w ∙ sym (take_all 4096 (kinds_in text) (omega (arith, so_many, ap length w, C.few))); long = C.long }

  -- or the table is full
  pub collect_full : 4096 ≤ n → Collects text table n
  collect_full h = record {
    few = C.few;
    wrote = sym (take_at (take n table) (kinds_in (drop i text)) 4096 (omega (arith, so_many, C.few))) ∙ ap (take 4096) C.kept;
    long = C.long;
  }
