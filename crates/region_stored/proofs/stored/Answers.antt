-- `region_stored::stored` meets its contract. Assumes nothing.
use Rattle.region_stored.proofs.Again.{kept_fits, stored_yes, stored_no}
use Rattle.region_stored.proofs.stored.Goals as goal

pub rings-requires : goal.rings-requires
rings-requires c = kept_fits _ _ _ _ c.kept.ensures c.if-kept-lengths.true

pub returns-then-kept-lengths : goal.returns-then-kept-lengths
returns-then-kept-lengths c =
    let both = stored_yes _ _ _ c.kept.ensures c.if-kept-lengths.true _ c.rings.ensures in
    record { is = both.0; again = both.1 }

pub returns-else-kept-lengths : goal.returns-else-kept-lengths
returns-else-kept-lengths c =
    let both = stored_no _ _ _ c.kept.ensures c.if-kept-lengths.false _ c.no_shape.ensures in
    record { is = both.0; again = both.1 }
