-- `offset_run::offset_refused` meets its contract. Assumes nothing.
use Rattle.offset_run.proofs.OffsetByStages.{refused_as}
use Rattle.offset_run.proofs.offset_refused.Goals as goal

pub returns : goal.returns
returns c = refused_as _ _ _ _ _ c.no_outline.ensures
