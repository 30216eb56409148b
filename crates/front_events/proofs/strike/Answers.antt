-- `front_events::strike` meets its contract. Assumes nothing.
use Rattle.front_events.specs.Found.{strike}
use Rattle.front_events.proofs.strike.Goals as goal

pub returns-in_err-from : goal.returns-in_err-from
unfolding strike
returns-in_err-from c = rw c.in_err-from.was c.from_residual.ensures

pub returns-in_err-to : goal.returns-in_err-to
unfolding strike
returns-in_err-to c = rw (c.in_ok-from.was, c.in_err-to.was) c.from_residual-in_err-to.ensures

pub returns : goal.returns
unfolding strike
returns c = rw (c.in_ok-from.was, c.in_ok-to.was) (cc)
