-- `offset_pieces::pieces_refused` meets its contract. Assumes nothing.
use Rattle.offset_pieces.proofs.Visited.{refused_as}
use Rattle.offset_pieces.proofs.pieces_refused.Goals as goal

pub returns : goal.returns
returns c = refused_as _ _ c.no_outline.ensures
