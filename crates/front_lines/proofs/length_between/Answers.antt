-- `front_lines::length_between` meets its contract. Assumes nothing.
use Rattle.front.specs.Edges
use Rattle.front_lines.specs.Between
use Rattle.front_lines.proofs.length_between.Goals as goal

pub returns-in_err-from : goal.returns-in_err-from
unfolding Between.length_between
returns-in_err-from c = rw c.in_err-from.was c.from_residual.ensures

pub returns-in_err-to : goal.returns-in_err-to
unfolding Between.length_between Edges.length_to
returns-in_err-to c = rw (c.in_ok-from.was, c.in_err-to.was) c.from_residual-in_err-to.ensures

pub returns : goal.returns
unfolding Between.length_between Edges.length_to
returns c = rw (c.in_ok-from.was, c.in_ok-to.was) (cc)
