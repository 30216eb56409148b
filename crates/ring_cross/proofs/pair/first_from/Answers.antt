-- `ring_cross::pair::first_from` meets its contract. Assumes nothing.
use mathlib.Core.Path.{sym, ◌∙◌}
use Rattle.segment.proofs.Apart.{over_own}
use Rattle.ring_cross.proofs.Walks.{told_meets, goes_on, pair_found, pair_none}
use Rattle.ring_cross.proofs.pair.first_from.Goals as goal
use Rattle.ring_cross.proofs.pair.first_from.Goals.{then-not-passed_over+else-segments_meet, else-not-passed_over}

-- an edge that is passed over does not meet
pub loop-k-preserved : goal.loop-k-preserved
loop-k-preserved c =
    let v = c.loop-k.invariant in
    let own = c.low-low.ensures in
    let on = goes_on _ _ _ _ _ _ (v.start c.loop-k-test.true) c.edge_end-b2.ensures v.none in
    elim c.if-not-passed_over.branch [
      | then-not-passed_over+else-segments_meet w ↦ on (sym w.segments_meet.ensures ∙ w.if-segments_meet.false)
      | else-not-passed_over w ↦
          on (over_own _ _ _ _ _ c.passed_over.ensures.passed_over w.if-not-passed_over.false _ _ own.double_point own.double_point_2 own.value c.high-high.ensures)
    ]

pub returns-then-segments_meet : goal.returns-then-segments_meet
returns-then-segments_meet c =
    let v = c.loop-k.invariant in
    let t = c.loop-k-test.true in
    sym (pair_found _ _ _ _ _ _ t v.none (told_meets _ _ _ _ _ (v.start t) c.edge_end-b2.ensures c.segments_meet.ensures c.if-segments_meet.true))

pub returns : goal.returns
returns c = sym (pair_none _ _ _ _ _ _ (c.loop-k.auto.k-end c.requires.start_le_m) c.loop-k-test.false c.loop-k.invariant.none)
