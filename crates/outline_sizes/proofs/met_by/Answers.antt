-- `outline_sizes::met_by` meets its contract. Assumes nothing.
use mathlib.Core.Path.{refl}
use Rattle.outline_ask.specs.Queries
use Rattle.outline_sizes.proofs.met_by.Goals as goal

pub returns-in-None : goal.returns-in-None
unfolding Queries.met_by
returns-in-None c = rw c.in-None.is c.unmet.ensures

pub returns-in-Some : goal.returns-in-Some
unfolding Queries.met_by
returns-in-Some c = rw c.in-Some.is refl
