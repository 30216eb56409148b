-- `region_inset::inset_refused` meets its contract. Assumes nothing.
use Rattle.region_inset.proofs.InsetIs.{refused_as}
use Rattle.region_inset.proofs.inset_refused.Goals as goal

pub returns : goal.returns
returns c = refused_as _ _ _ _ _ c.no_region.ensures
