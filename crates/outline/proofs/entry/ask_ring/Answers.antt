-- `outline::entry::ask_ring` meets its contract. Assumes nothing.
use Rattle.outline.specs.Outlines
use Rattle.outline.proofs.entry.ask_ring.Goals as goal

pub returns : goal.returns
unfolding Outlines.ask_ring Outlines.ask
returns c = cc
