-- `discover` meets its contract: nothing is there, then the initial term, then the right-hand sides of every state met. Assumes nothing.
use Rattle.discovery.proofs.Loops.{form_discovered, some_counted}
use Rattle.discovery.proofs.discover.discover.Goals as goal

pub returns : goal.returns
returns g c = form_discovered (c.requires.1.numbers) (c.requires.1.leaf) (rw (some_counted c.in_ok-add_states.was) at c.add_states.ensures)
