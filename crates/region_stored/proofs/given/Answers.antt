-- `region_stored::given` meets its contract. Assumes nothing.
use Rattle.region_stored.proofs.Again.{kept_fit, given_yes, given_no}
use Rattle.region_stored.proofs.given.Goals as goal

pub rings-requires : goal.rings-requires
rings-requires c = kept_fit _ _ _ c.kept.ensures c.if-kept.true

pub returns-then-kept : goal.returns-then-kept
returns-then-kept c =
    let both = given_yes _ _ _ c.kept.ensures c.if-kept.true _ c.rings.ensures _ c.region_loaded.ensures in
    record { is = both.0; again = both.1 }

pub returns-else-kept : goal.returns-else-kept
returns-else-kept c =
    let both = given_no _ _ _ c.kept.ensures c.if-kept.false _ c.no_shape.ensures in
    record { is = both.0; again = both.1 }
