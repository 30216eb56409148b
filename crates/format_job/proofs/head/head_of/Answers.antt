-- `format_job::head::head_of` meets its contract. Assumes nothing.
use Rattle.format_job.proofs.Heads.{too_long, bad_side, bad_distance, bad_rings, unfit, the_head}
use Rattle.format_job.proofs.head.head_of.Goals as goal

pub returns-then-line-gt16384 : goal.returns-then-line-gt16384
returns-then-line-gt16384 c = too_long _ c.if-line-gt16384.true

pub returns-in_err-side : goal.returns-in_err-side
returns-in_err-side c = rw c.from_residual.ensures (bad_side _ c.in_err-side.ensures)

pub returns-in_err-distance : goal.returns-in_err-distance
returns-in_err-distance c = rw c.from_residual-in_err-distance.ensures (bad_distance _ _ c.in_ok-side.ensures c.in_err-distance.ensures)

pub returns-in_err-rings : goal.returns-in_err-rings
returns-in_err-rings c = rw c.from_residual-in_err-rings.ensures (bad_rings _ _ c.in_ok-side.ensures _ c.in_ok-distance.ensures c.in_err-rings.ensures)

pub returns-then-side-rings : goal.returns-then-side-rings
returns-then-side-rings c =
    unfit _ _ c.in_ok-side.ensures _ c.in_ok-distance.ensures _ c.in_ok-rings.ensures c.if-line-gt16384.false c.if-side-rings.true

pub returns : goal.returns
returns c = the_head _ _ c.in_ok-side.ensures _ c.in_ok-distance.ensures _ c.in_ok-rings.ensures c.if-line-gt16384.false c.if-side-rings.false
