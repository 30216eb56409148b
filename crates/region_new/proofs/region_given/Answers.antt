-- `region_new::region_given` meets its contract. Assumes nothing.
use Rattle.region_new.proofs.GivenRings.{given_passed, given_refused, passes_again}
use Rattle.region_new.proofs.region_given.Goals as goal

pub returns-then-sound-proper_holes : goal.returns-then-sound-proper_holes
returns-then-sound-proper_holes c =
    let proper-gives = c.proper-sound.ensures in
    let proper-holes-gives = c.proper_holes.ensures in
    let yes1 = c.if-sound-proper_holes.true in
    let given-rings-gives = c.given_rings.ensures in
    let both =
    passes_again _ _ _ _
    (given_passed _ _ _ _ _ proper-gives proper-holes-gives _ yes1 _ given-rings-gives c.checked_region.ensures) in
    record { is = both.0; again = both.1 }

pub returns-else-sound-proper_holes : goal.returns-else-sound-proper_holes
returns-else-sound-proper_holes c =
    let proper-gives = c.proper-sound.ensures in
    let proper-holes-gives = c.proper_holes.ensures in
    let no1 = c.if-sound-proper_holes.false in
    let both =
    passes_again _ _ _ _
    (given_refused _ _ _ _ _ proper-gives proper-holes-gives _ no1 c.region_refused.ensures) in
    record { is = both.0; again = both.1 }
