-- An output tree read from its last symbol back: how many trees stand behind a symbol, and their levels. So it is measured whether bytes are one.
-- Assumes nothing.
use Prim.Native.Nat.{ℕ, ◌+◌, ◌-◌, ◌≤◌, ◌<◌}
use native.Mathlib.Omega.{arith}
use mathlib.Core.Bool.{true, false}
use mathlib.Core.List.{List, [], ◌∷◌, ◌++◌, append_assoc, append-nil}
use mathlib.Core.Path.{◌≡◌, refl, sym, ap, ◌∙◌}
use lib.ListN.{length, length-append, get_or, set, drop, length-set}
use lib.Seq.{drop_at}
use Rattle.std.specs.Prelude.{Option, Some, None}
use Rattle.std.specs.Option.{is_some}
use Rattle.std.proofs.lemmas.List.{nil_from_length}
use Rattle.theory.proofs.Terms.{conflict}
use Rattle.trees.specs.Inner.Decode.{symbol}
use Rattle.trees.specs.Inner.Measured.{noted, most, some_extent}
use Rattle.trees.specs.Inner.Symbols.{symbol_of, trees, tree}
use Rattle.trees.specs.declared.tree.Extent.{Extent}
use Rattle.trees.proofs.Extents.{whole_size, tree_levels_lem, not_whole, same_extent}
use Rattle.trees.proofs.Forest.{all_drop}
use Rattle.trees.proofs.Letters.{symbol_there, symbol_missing}
use Rattle.trees.proofs.Standing.{Standing, Broken, no_letter, too_few, one_symbol, one_standing, its_levels}
use Rattle.trees.proofs.Standing as standing
use Rattle.xml.specs.Inner.Measured.{WholeOutput, MeasuredOutput}

-- the symbols behind `front` are the code of `behind` trees, whose levels the table has
pub record OutputStanding (outs s table front : List ℕ) (behind : ℕ) : Type 0 where
  pub small : length s ≤ 4096
  pub long : length table ≡ 4096
  pub read : List ℕ
  pub parts : s ≡ front ++ read
  pub trees : Standing {A = ⊥} (symbol_of outs) read table behind

pub end_standing : (outs s table : List ℕ) → length s ≤ 4096 → length table ≡ 4096 → OutputStanding outs s table s 0
end_standing outs s table h l = record { small = h; long = l; read = []; parts = sym (append-nil s); trees = no_letter (symbol_of outs) table }

module _ {outs s table front : List ℕ} {behind : ℕ} (S : OutputStanding outs s table front behind) where
  -- there is room for one more
  pub few_behind : behind + length front ≤ 4096
  few_behind = omega (arith, S.trees.few, ap length S.parts, length-append front S.read, S.small)

  -- all symbols are read
  module _ (z : length front ≡ 0) where
    all_trees : Standing {A = ⊥} (symbol_of outs) s table behind
    all_trees = rw (S.parts ∙ ap (λ l. l ++ S.read) (nil_from_length front z)) S.trees

    pub one_tree : behind ≡ 1 → {l : ℕ} → l ≡ get_or table 0 0 → MeasuredOutput outs s (some_extent (length s) l)
    unfolding tree trees
    one_tree b {l} e =
        let W = one_standing all_trees b in
        record {
          whole = λ e' l' x. let u = (same_extent x).0 in let v = (same_extent x).1 in (record { one = W; small = S.small; few_levels_lem = omega (arith, tree_levels_lem outs s W, S.small) }, omega (arith, whole_size outs s W), omega (arith, e, its_levels all_trees b));
          none = λ x. conflict (cc);
        }

  -- the symbol k, the last of the front
  module _ (others : List ℕ) (k : ℕ) (e : front ≡ others ++ k ∷ []) where
    parted : s ≡ others ++ k ∷ S.read
    parted = S.parts ∙ ap (λ l. l ++ S.read) e ∙ append_assoc others (k ∷ []) S.read

    -- where not all can be read from there on, s is no tree
    broken : Broken {A = ⊥} (symbol_of outs) (k ∷ S.read) → MeasuredOutput outs s None
    broken b = not_whole (λ (W : WholeOutput outs s). b (rw (ap (drop (length others)) parted ∙ drop_at others (k ∷ S.read) (length others) refl) at (all_drop (symbol_of outs) s (length others) W.one.all)))

    pub not_known : length outs ≤ k → MeasuredOutput outs s None
    not_known g = broken (standing.not_known (symbol_of outs) k S.read (symbol_missing outs k g))

    module _ {n : ℕ} (g : k < length outs) (q : n ≡ get_or outs k 0) where
      its_letter : symbol_of {A = ⊥} outs k ≡ symbol k n
      its_letter = symbol_there outs k g ∙ ap (symbol k) (sym q)

      pub children_missing : behind < n → MeasuredOutput outs s None
      children_missing l = broken (too_few (symbol_of outs) k S.trees k n its_letter l)

      pub few_levels_lem : {deep : ℕ} → deep ≡ most n (noted table behind) → deep ≤ 4096
      few_levels_lem d = omega (arith, standing.few_levels_lem (symbol_of outs) k S.trees k n its_letter d, ap length S.parts, length-append front S.read, S.small)

      pub symbol_read : {deep : ℕ} → n ≤ behind → deep ≡ most n (noted table behind) → OutputStanding outs s (set table (behind - n) (deep + 1)) others (behind - n + 1)
      symbol_read {deep} l d = record {
        small = S.small;
        long = length-set table (behind - n) (deep + 1) ∙ S.long;
        read = k ∷ S.read;
        parts = parted;
        trees = one_symbol (symbol_of outs) k S.trees k n its_letter l (omega (arith, few_behind, S.long, ap length e, length-append others (k ∷ []))) d;
      }

-- ---- what measuring answers
module _ {outs s : List ℕ} where
  pub was_whole : {r : Option Extent} → MeasuredOutput outs s r → is_some r ≡ true → WholeOutput outs s
  was_whole {r = Some x} M h = (M.whole x.end x.levels refl).0
  was_whole {r = None} M h = conflict (cc)

  pub was_none : {r : Option Extent} → MeasuredOutput outs s r → is_some r ≡ false → WholeOutput outs s → ⊥
  was_none {r = Some x} M h = conflict (cc)
  was_none {r = None} M h = M.none refl
