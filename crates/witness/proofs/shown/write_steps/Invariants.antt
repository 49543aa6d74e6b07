-- `write_steps` meets its contract. The invariant: the steps from number k on stand in the buffer. Assumes nothing.
use Rattle.witness.proofs.Wrapping.{StepsLoop}
use Rattle.witness.proofs.shown.write_steps.Given as goal

abbrev pub invariant-loop-k : goal.invariant-loop-k
invariant-loop-k l = StepsLoop l.ins l.e l.steps l.count l.buffer l.span.from l.span.to l.k
