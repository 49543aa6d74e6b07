-- `add_states` meets its contract. The invariant: the right-hand sides of the first p states were added. Assumes nothing.
use native.Mathlib.Omega.{arith}
use Rattle.discovery.proofs.Finished.{found_all}
use Rattle.discovery.proofs.Loops.{adds_all}
use Rattle.discovery.proofs.discover.add_states.Goals as goal

pub returns : goal.returns
returns g c = adds_all (found_all (c.requires.1.leaf) c.loop-p.invariant.found (omega (arith, c.loop-p-test.false)))
