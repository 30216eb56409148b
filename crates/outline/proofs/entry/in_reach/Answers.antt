-- `outline::entry::in_reach` meets its contract. Assumes nothing.
use Rattle.ring_check.proofs.Reach.{in_reach_is}
use Rattle.outline.proofs.entry.in_reach.Goals as goal

pub returns : goal.returns
returns c = in_reach_is _
