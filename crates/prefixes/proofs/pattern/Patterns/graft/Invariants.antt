-- `graft` meets its contract. The invariant is `Grafting`. Assumes nothing.
use Rattle.prefixes.proofs.Grafts.{Grafting}
use Rattle.prefixes.proofs.pattern.Patterns.graft.Given as goal

abbrev pub invariant-loop-j : goal.invariant-loop-j
invariant-loop-j l = Grafting l.self.heads.now l.self.sizes.now l.marks l.from l.to l.initial.out l.out l.w l.j
