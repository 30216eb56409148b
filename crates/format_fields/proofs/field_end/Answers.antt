-- `format_fields::field_end` meets its contract. Assumes nothing.
use Rattle.format_fields.proofs.Ends.{begin, further, found, gone}
use Rattle.format_fields.proofs.field_end.Goals as goal

pub loop-at-init : goal.loop-at-init
loop-at-init c = begin _ _

pub returns-then-line-at-eq44 : goal.returns-then-line-at-eq44
returns-then-line-at-eq44 c =
    let inv = c.loop-at.invariant in
    found _ _ _ c.if-line-at-eq44.true inv

pub loop-at-preserved : goal.loop-at-preserved
loop-at-preserved c =
    let going = c.loop-at-test.true in
    let inv = c.loop-at.invariant in
    further _ _ _ going c.if-line-at-eq44.false inv

pub returns : goal.returns
returns c = gone _ _ _ _ c.loop-at-test.false c.max.ensures c.loop-at.invariant
