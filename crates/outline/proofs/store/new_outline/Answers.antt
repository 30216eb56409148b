-- `outline::store::new_outline` meets its contract. Assumes nothing.
use Rattle.outline.specs.Outlines
use Rattle.outline.proofs.store.new_outline.Goals as goal

pub returns : goal.returns
unfolding Outlines.new_outline
returns c = cc
