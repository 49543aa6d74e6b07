-- T and U differ: on the input tree e, at address 1, T has e and U has f.
-- Assumes nothing.
use native.Mathlib.Omega.{arith}
use mathlib.Core.List.{[], ◌∷◌}
use mathlib.Core.Path.{◌≡◌, refl}
use Rattle.theory.specs.Size.{size, levels}
use Rattle.theory.specs.Term.{bind, count, sub, root, symbol_at}
use Rattle.theory.specs.Transducer.{translate, output, closed, run, pick}
use Rattle.trees.specs.Alphabets.{inputs, outputs}
use Rattle.trees.specs.Code.{Ranked, preorder, code}
use Rattle.formats.specs.Samples.{S, T, U}
use Rattle.transducer.proofs.Samples.{T-machine, T-sheet, twice, line, leaf}
use Rattle.canonical.proofs.Samples.{U-sheet, one_state_lem, once, late, f}
use Rattle.witness.specs.Difference.{Difference}
use Rattle.table.specs.Table.{DifferOn}

leaf_coded : code leaf ≡ 1 ∷ []
unfolding leaf preorder
leaf_coded = refl

T-differs-U : Difference (inputs S) (outputs S) T-machine (one_state_lem (f once once) late) leaf (1 ∷ []) 1 0
unfolding T-machine twice line one_state_lem late leaf inputs outputs Ranked count bind translate output closed run pick symbol_at root sub size levels
T-differs-U = record { ranked = omega arith; small = omega arith; few_levels_lem = omega arith; short = omega arith; left = refl; right = refl; unlike = λ e. omega arith }

pub T-U_differ : DifferOn S T U (1 ∷ []) (1 ∷ []) 1 0
T-U_differ = record { states = 1; machine = T-machine; sheet = T-sheet; states' = 1; machine' = one_state_lem (f once once) late; sheet' = U-sheet; shown = leaf; coded = leaf_coded; difference = T-differs-U }
