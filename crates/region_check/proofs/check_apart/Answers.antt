-- `region_check::check_apart` meets its contract. Assumes nothing.
use Rattle.base.proofs.Laws.{no_round}
use Rattle.region_check.proofs.FirstRefusal.{apart_on, touching, all_apart}
use Rattle.region_check.proofs.check_apart.Goals as goal

pub loop-i-init : goal.loop-i-init
loop-i-init c = no_round _ _

pub returns-then-not-granted : goal.returns-then-not-granted
returns-then-not-granted c =
    let inv = c.loop-i.invariant in
    let apart-from-gives = c.apart_from-r.ensures in
    let granted-gives = c.granted.ensures in
    let going = c.loop-i-test.true in
    touching _ _ _ _ inv _ apart-from-gives _ granted-gives going c.if-not-granted.true-raw

pub loop-i-preserved : goal.loop-i-preserved
loop-i-preserved c =
    let inv = c.loop-i.invariant in
    let apart-from-gives = c.apart_from-r.ensures in
    let granted-gives = c.granted.ensures in
    apart_on _ _ _ _ inv _ apart-from-gives _ granted-gives c.if-not-granted.false-raw

pub returns : goal.returns
returns c = all_apart _ _ _ _ c.loop-i.invariant c.loop-i.auto.i-end c.loop-i-test.false
