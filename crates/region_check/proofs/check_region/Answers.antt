-- `region_check::check_region` meets its contract. Assumes nothing.
use Rattle.region_check.proofs.FirstRefusal.{many_holes, by_apart, by_holes}
use Rattle.region_check.proofs.check_region.Goals as goal

pub returns-then-h-gt8 : goal.returns-then-h-gt8
returns-then-h-gt8 c = many_holes _ _ _ _ _ c.if-h-gt8.true

pub returns-then-granted : goal.returns-then-granted
returns-then-granted c =
    let no1 = c.if-h-gt8.false in
    let check-holes-gives = c.check_holes-r.ensures in
    let granted-gives = c.granted.ensures in
    let yes2 = c.if-granted.true in
    by_apart _ _ _ _ _ no1 _ check-holes-gives _ granted-gives yes2 _ c.check_apart.ensures

pub returns-else-granted : goal.returns-else-granted
returns-else-granted c =
    let no1 = c.if-h-gt8.false in
    let check-holes-gives = c.check_holes-r.ensures in
    let granted-gives = c.granted.ensures in
    by_holes _ _ _ _ _ no1 _ check-holes-gives _ granted-gives c.if-granted.false
