-- `region_c::outer_into` meets its contract. Assumes nothing.
use Rattle.region_c.proofs.Made.{outer_is, read_as}
use Rattle.region_c.proofs.outer_into.Goals as goal

pub returns : goal.returns
returns c =
    let made = c.stored-made.ensures.is in
    let both =
    read_as _ _ (outer_is _ _ _ made) _ _ _ (c.read_into.ensures.answered, c.read_into.ensures.written) in
    record { answered = both.0; written = both.1 }
