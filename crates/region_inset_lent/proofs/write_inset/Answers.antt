-- `region_inset_lent::write_inset` meets its contract. Assumes nothing.
use Rattle.region.specs.Regions.{region_of}
use Rattle.region_inset_lent.proofs.Told.{refused, handed}
use Rattle.region_inset_lent.proofs.write_inset.Goals as goal

pub returns-then-not-granted : goal.returns-then-not-granted
returns-then-not-granted c =
    let granted-gives = c.granted.ensures in
    let yes1 = c.if-not-granted.true-raw in
    let no-rings-gives = c.no_rings.ensures in
    let both =
    refused _ _ _ _ c.inset_told.ensures _ granted-gives yes1 no-rings-gives in
    record { answered = both.0; written = both.1.0; kept = both.1.1 }

pub returns : goal.returns
unfolding region_of
returns c =
    let granted-gives = c.granted.ensures in
    let no1 = c.if-not-granted.false-raw in
    let both =
    handed _ _ _ _ c.inset_told-2.ensures _ granted-gives _ no1 c.write_region-w.ensures.answered c.write_region-w.ensures.written c.write_region-w.ensures.kept in
    record { answered = both.0; written = both.1.0; kept = both.1.1 }
