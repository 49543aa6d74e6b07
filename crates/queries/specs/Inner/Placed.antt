-- Following an address through the output, which is never built.
use Rattle.std.specs.Prelude.{None, Ok, Option, Result, Some, ℕ, List, get_or}
use Rattle.trees.specs.declared.refusal.Refusal.{Refusal}
use Rattle.std.proofs.Math.Option.{Option as MathOption, some, none as nothing}
use Rattle.theory.specs.Term.{Symbol}
use Rattle.trees.specs.Inner.Symbols.{IsTree}
use Rattle.formats.specs.Inner.Layout.{InBounds, Wholes}
use Rattle.transducer.specs.Inner.Written.{Input}

-- the symbol at an address, or that there is none
unfoldable pub placed : MathOption Symbol → Result (Option ℕ) Refusal
placed nothing = Ok None
placed (some b) = Ok (Some b.0)

-- the transducer and the input tree that are followed
pub record Followed (ins outs : List ℕ) (n : ℕ) (starts bytes s ends : List ℕ) : Type 0 where
  pub bounds : InBounds ins n starts bytes
  pub wholes : Wholes ins outs n (λ j. get_or starts j 0) bytes
  pub one : IsTree ins s
  pub input : Input ins s ends
