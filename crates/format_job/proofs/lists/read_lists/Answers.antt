-- `format_job::lists::read_lists` meets its contract. Assumes nothing.
use Rattle.format_job.proofs.Tails.{no_counts, no_floats, short_counts, short_coordinates, all_read}
use Rattle.format_job.proofs.lists.read_lists.Goals as goal

pub returns-in_default : goal.returns-in_default
returns-in_default c = let r = c.refused.ensures in rw (r.refusal, r.count) (no_counts _ _ _ _ _ _ c.in_default.ensures)

pub returns-in_default-read_floats : goal.returns-in_default-read_floats
returns-in_default-read_floats c =
    let r = c.refused-in_default-read_floats.ensures in
    rw (r.refusal, r.count) (no_floats _ _ _ _ _ _ _ c.in-Some.ensures _ c.in_default-read_floats.ensures)

pub returns-then-lengths-rings : goal.returns-then-lengths-rings
returns-then-lengths-rings c =
    let r = c.refused-then-lengths-rings.ensures in
    rw (r.refusal, r.count) (short_counts _ _ _ _ _ _ _ c.in-Some.ensures _ _ c.in-Some-read_floats.ensures c.if-lengths-rings.true)

pub returns-then-coordinates-count : goal.returns-then-coordinates-count
returns-then-coordinates-count c =
    let r = c.refused-then-coordinates-count.ensures in
    rw (r.refusal, r.count)
    (short_coordinates _ _ _ _ _ _ _ c.in-Some.ensures _ _ c.in-Some-read_floats.ensures c.if-lengths-rings.false c.if-coordinates-count.true)

pub returns : goal.returns
returns c =
    all_read _ _ _ _ _ _ _ c.in-Some.ensures _ _ c.in-Some-read_floats.ensures c.if-lengths-rings.false c.if-coordinates-count.false _ _ _
    c.read_counts-2.ensures _ c.read_floats-2.ensures
