-- `region_pieces::place_refusal` meets its contract. Assumes nothing.
use Rattle.region_pieces.specs.Rooms
use mathlib.Core.Path.{refl}
use Rattle.region_pieces.proofs.place_refusal.Goals as goal

pub returns : goal.returns
unfolding Rooms.place_refusal
returns c =
    let choose2-gives = c.choose-full.ensures in
    let choose-gives = c.choose-split.ensures in
    rw (c.choose.ensures, choose2-gives, choose-gives) refl
