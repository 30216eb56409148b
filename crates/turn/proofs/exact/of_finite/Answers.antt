-- `turn::exact::of_finite` meets its contract. Assumes nothing.
use mathlib.Core.Path.{◌∙◌}
use Rattle.turn.proofs.Places.{turn_law}
use Rattle.turn.proofs.Totals.{totals}
use Rattle.turn.proofs.exact.of_finite.Goals as goal

pub returns : goal.returns
returns c =
    totals _ _ _ _ _ _ _ _ c.gather.ensures c.told.ensures
    ∙ turn_law _ _ _ _ _ _ _ _ _
    c.spot_of.ensures.east c.spot_of.ensures.north c.spot_of-2.ensures.east
    c.spot_of-2.ensures.north c.spot_of-3.ensures.east c.spot_of-3.ensures.north
