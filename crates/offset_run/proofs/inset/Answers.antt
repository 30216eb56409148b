-- `offset_run::inset` meets its contract. Assumes nothing.
use Rattle.offset.specs.Offsets
use Rattle.offset_run.proofs.OffsetByStages.{demanded}
use Rattle.offset_run.proofs.inset.Goals as goal

pub returns : goal.returns
unfolding Offsets.inset
returns c = record {
  is = c.offset.ensures;
  bounded = demanded _ _ _ _ c.offset.ensures;
}
