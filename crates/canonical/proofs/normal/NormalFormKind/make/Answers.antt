-- The normal form is made: the earliest form, and its quotient. Assumes nothing.
use Rattle.canonical.proofs.Cleaning.{normal_reducible, normal_states, normal_over}
use Rattle.canonical.proofs.normal.NormalFormKind.make.Goals as goal

pub reduce-requires : goal.reduce-requires
reduce-requires c = (normal_reducible c.requires.0 c.form_of_parts.ensures c.in_ok-states.was c.input_ranks-ins.ensures c.output_ranks-outs.ensures, c.requires.1, c.requires.2)

pub returns : goal.returns
returns c = normal_states c.requires.0 c.form_of_parts.ensures c.in_ok-states.was c.input_ranks-ins.ensures c.output_ranks-outs.ensures c.reduce.ensures

pub returns-in_err-states : goal.returns-in_err-states
returns-in_err-states c = rw c.from_residual.ensures (normal_over c.requires.0 c.form_of_parts.ensures c.in_err-states.was)
