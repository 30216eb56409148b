-- `region_inset_lent::inset_into` meets its contract. Assumes nothing.
use Rattle.region_inset_lent.proofs.Told.{told}
use Rattle.region_inset_lent.proofs.inset_into.Goals as goal

pub returns : goal.returns
returns c =
    let both =
    told _ _ _ _ _ _ c.inset.ensures.is c.write_inset.ensures.answered c.write_inset.ensures.written in
    record { answered = both.0; written = both.1 }
