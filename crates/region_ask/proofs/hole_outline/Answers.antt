-- `region_ask::hole_outline` meets its contract. Assumes nothing.
use borrow.Author.Tests.{lt-ltb, le-ltb}
use Rattle.base.proofs.Choices.{yes, no}
use Rattle.region_ask.proofs.Whole.{stored_same}
use Rattle.region_ask.proofs.hole_outline.Goals as goal

pub returns-then-k-h : goal.returns-then-k-h
returns-then-k-h c =
    let hole-points-gives = c.hole_points-hole.ensures in
    let count-at-gives = c.count_at-n.ensures in
    let yes1 = c.if-k-h.true in
    yes _ _ _ _ (stored_same _ _ _ _ _ c.stored_outline.ensures hole-points-gives count-at-gives) (lt-ltb _ _ yes1)

pub returns-else-k-h : goal.returns-else-k-h
returns-else-k-h c = no _ _ _ _ c.no_outline.ensures (le-ltb _ _ c.if-k-h.false)
