-- `outline::store::no_outline` meets its contract. Assumes nothing.
use mathlib.Core.Path.{refl}
use Rattle.outline.specs.Outlines
use Rattle.outline.proofs.store.no_outline.Goals as goal

pub returns : goal.returns
unfolding Outlines.no_outline
returns c = refl
