-- Parts of a tree: a child by its number, and the symbol at the root of a ground tree.
use Rattle.std.specs.Prelude.{ℕ, suc}
use Rattle.std.proofs.Math.Option.{Option, none as nothing, some}
use Rattle.theory.specs.Term.{Term, Terms, none, more, Tree, var, node, Symbol, count}

-- the i-th child, from 1
unfoldable pub child_at : {A : Type 0} → Terms A → ℕ → Option (Term A)
child_at none i = nothing
child_at (more t ts) ℕ.zero = nothing
child_at (more t ts) (suc ℕ.zero) = some t
child_at (more t ts) (suc (suc i)) = child_at ts (suc i)

-- the symbol at the root of a ground tree
unfoldable pub symbol : Tree → Symbol
symbol (var x) = absurd x
symbol (node k ts) = (k, count ts)
