-- `offset_run::offset_plain` meets its contract. Assumes nothing.
use Rattle.offset.specs.Offsets
use mathlib.Core.Path.{refl}
use Rattle.offset_run.proofs.offset_plain.Goals as goal

pub returns : goal.returns
unfolding Offsets.offset_plain
returns c = refl
