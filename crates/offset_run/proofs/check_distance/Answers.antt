-- `offset_run::check_distance` meets its contract. Assumes nothing.
use Rattle.offset.specs.Offsets
use Rattle.offset_run.proofs.check_distance.Goals as goal

pub returns : goal.returns
unfolding Offsets.check_distance
returns c =
    let finite-gives = c.finite.ensures in
    let choose-gives = c.choose-sign.ensures in
    simp (c.choose.ensures, finite-gives, choose-gives)
