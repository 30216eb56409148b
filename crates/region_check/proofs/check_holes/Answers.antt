-- `region_check::check_holes` meets its contract. Assumes nothing.
use Rattle.base.proofs.Laws.{no_round}
use Rattle.region_check.proofs.FirstRefusal.{hole_fits_on, hole_outside, holes_fit}
use Rattle.region_check.proofs.check_holes.Goals as goal

pub loop-k-init : goal.loop-k-init
loop-k-init c = no_round _ _

pub returns-then-not-hole_fits : goal.returns-then-not-hole_fits
returns-then-not-hole_fits c =
    let inv = c.loop-k.invariant in
    let going = c.loop-k-test.true in
    let hole-fits-gives = c.hole_fits.ensures in
    hole_outside _ _ _ _ _ _ inv going _ hole-fits-gives c.if-not-hole_fits.true-raw

pub loop-k-preserved : goal.loop-k-preserved
loop-k-preserved c =
    let inv = c.loop-k.invariant in
    let hole-fits-gives = c.hole_fits.ensures in
    hole_fits_on _ _ _ _ _ _ inv _ hole-fits-gives c.if-not-hole_fits.false-raw

pub returns : goal.returns
returns c = holes_fit _ _ _ _ _ _ c.loop-k.invariant c.loop-k.auto.k-end c.loop-k-test.false
