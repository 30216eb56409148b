-- `offset_run::offset_tolerance` meets its contract. Assumes nothing.
use Rattle.outline.specs.Outlines
use mathlib.Core.Path.{refl}
use Rattle.offset_run.proofs.offset_tolerance.Goals as goal

pub returns : goal.returns
unfolding Outlines.offset_tolerance
returns c = refl
