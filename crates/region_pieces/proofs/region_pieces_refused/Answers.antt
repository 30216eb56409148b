-- `region_pieces::region_pieces_refused` meets its contract. Assumes nothing.
use Rattle.region_pieces.proofs.SlotRounds.{refused_as}
use Rattle.region_pieces.proofs.region_pieces_refused.Goals as goal

pub returns : goal.returns
returns c = refused_as _ _ c.no_region.ensures
