-- `region_ask::outline_as` meets its contract. Assumes nothing.
use Rattle.region_ask.proofs.Whole.{outline_is}
use Rattle.region_ask.proofs.outline_as.Goals as goal

pub returns : goal.returns
returns c = outline_is _ _ _ c.write_numbers.ensures
