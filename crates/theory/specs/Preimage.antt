-- Which input tree has this output (02, F-13).
use Rattle.std.specs.Prelude.{◌≡◌}
use Rattle.theory.specs.Grammar.{Grammar, Allowed}
use Rattle.theory.specs.Term.{Tree}
use Rattle.theory.specs.Transducer.{Transducer, output, translate}

-- d is an input tree with the output t
pub record Preimage {Q : Type 0} (G : Grammar) (M : Transducer Q) (t d : Tree) : Type 0 where
  pub allowed : Allowed G 0 d
  pub gives : translate M d ≡ t

-- d is an input tree of which state q makes u
pub record Makes {Q : Type 0} (G : Grammar) (M : Transducer Q) (q : Q) (u d : Tree) : Type 0 where
  pub allowed : Allowed G (M.sort q) d
  pub gives : output M d q ≡ u

-- q makes u of some input tree: the pair (q, u) is made
abbrev pub Made : {Q : Type 0} → Grammar → Transducer Q → Q → Tree → Type 0
Made G M q u = (d : Tree) × Makes G M q u d
