-- `outline::store::refused` meets its contract. Assumes nothing.
use Rattle.outline.specs.Outlines
use Rattle.outline.proofs.store.refused.Goals as goal

pub returns : goal.returns
unfolding Outlines.outline_refused
returns c = cc
