-- `region_given::ask_region` meets its contract. Assumes nothing.
use Rattle.region.specs.Queries
use Rattle.outline.specs.Outlines
use Rattle.region_given.proofs.ask_region.Goals as goal

pub returns : goal.returns
unfolding Queries.ask_region Outlines.ask
returns c = cc
