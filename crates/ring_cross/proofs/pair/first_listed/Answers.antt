-- `ring_cross::pair::first_listed` meets its contract. Assumes nothing.
use borrow.Author.Rules.{rules}
use mathlib.Core.Path.{refl, sym, ◌∙◌}
use Rattle.segment.proofs.Apart.{over_own}
use Rattle.ring_cross.proofs.Walks.{told_meets}
use Rattle.ring_cross.proofs.Listing.{list_starts, list_goes_on, list_finds, list_ends}
use Rattle.ring_cross.proofs.pair.first_listed.Goals as goal
use Rattle.ring_cross.proofs.pair.first_listed.Goals.{then-not-passed_over+else-segments_meet, else-not-passed_over}

pub loop-t-init : goal.loop-t-init
loop-t-init c = list_starts _ _ _ _ _ _

pub bounds-edges-t : goal.bounds-edges-t
bounds-edges-t c = let r = c.requires.room in search (rules, r)

pub returns-then-segments_meet : goal.returns-then-segments_meet
returns-then-segments_meet c =
    sym (list_finds _ _ _ _ _ _ _ _ c.requires _ _ c.loop-t-test.true refl c.loop-t.invariant
    (told_meets _ _ _ _ _ c.vertex_at-b1.ensures c.edge_end-b2.ensures c.segments_meet.ensures c.if-segments_meet.true))

-- an edge that is passed over does not meet
pub loop-t-preserved : goal.loop-t-preserved
loop-t-preserved c =
    let own = c.low-low.ensures in
    let asked = told_meets _ _ _ _ _ c.vertex_at-b1.ensures c.edge_end-b2.ensures refl in
    let on = list_goes_on _ _ _ _ _ _ _ _ c.requires _ _ c.loop-t-test.true refl c.loop-t.invariant in
    elim c.if-not-passed_over.branch [
      | then-not-passed_over+else-segments_meet w ↦ on (asked (sym w.segments_meet.ensures ∙ w.if-segments_meet.false))
      | else-not-passed_over w ↦
          on (asked (over_own _ _ _ _ _ c.passed_over.ensures.passed_over w.if-not-passed_over.false _ _ own.double_point own.double_point_2 own.value c.high-high.ensures))
    ]

pub returns : goal.returns
returns c = sym (list_ends _ _ _ _ _ _ _ _ c.requires _ c.loop-t.auto.t-end c.loop-t-test.false c.loop-t.invariant)
