-- `offset_run::outset` meets its contract. Assumes nothing.
use Rattle.offset.specs.Offsets
use Rattle.offset_run.proofs.OffsetByStages.{demanded}
use Rattle.offset_run.proofs.outset.Goals as goal

pub returns : goal.returns
unfolding Offsets.outset
returns c = record {
  is = c.offset.ensures;
  bounded = demanded _ _ _ _ c.offset.ensures;
}
