-- `ring_cross::pair::walk_near` meets its contract. Assumes nothing.
use mathlib.Core.Path.{refl, sym, ◌∙◌}
use Rattle.base.proofs.Laws.{no_round}
use Rattle.ring_cross.proofs.Frames.{row_beside}
use Rattle.ring_cross.proofs.Listing.{row_listed}
use Rattle.ring_cross.proofs.Walks.{told_row, row_none, row_found, walk_none}
use Rattle.ring_cross.proofs.pair.walk_near.Goals as goal
use Rattle.ring_cross.proofs.pair.walk_near.Goals.{then-not-passed_over+else-is_some, else-not-passed_over}

pub loop-i-init : goal.loop-i-init
loop-i-init c = no_round _ _

pub first_met-met-requires : goal.first_met-met-requires
first_met-met-requires c =
    row_listed _ _ _ _ _ _ _ _ _ c.requires.framed c.list_near-near.ensures _ c.loop-i-test.true _ _ c.vertex_at-a1.ensures c.edge_end-a2.ensures

pub returns-then-is_some : goal.returns-then-is_some
returns-then-is_some c =
    let r = told_row _ _ _ _ _ c.vertex_at-a1.ensures c.edge_end-a2.ensures c.first_met-met.ensures in
    sym (row_found _ _ _ _ _ _ c.loop-i-test.true c.loop-i.invariant r (sym c.is_some.ensures ∙ c.if-is_some.true))

-- an edge of the outer walk that meets none, or is passed over
pub loop-i-preserved : goal.loop-i-preserved
loop-i-preserved c =
    elim c.if-not-passed_over.branch [
      | then-not-passed_over+else-is_some w ↦
          let r = told_row _ _ _ _ _ c.vertex_at-a1.ensures c.edge_end-a2.ensures w.first_met-met.ensures in
          row_none _ _ _ _ _ _ c.loop-i.invariant r (sym w.is_some.ensures ∙ w.if-is_some.false)
      | else-not-passed_over w ↦
          let none = row_beside _ _ _ _ _ _ _ c.requires.framed_2 c.passed_over.ensures.passed_over w.if-not-passed_over.false in
          row_none _ _ _ _ _ _ c.loop-i.invariant (told_row _ _ _ _ _ c.vertex_at-a1.ensures c.edge_end-a2.ensures (sym none)) refl
    ]

pub returns : goal.returns
returns c = sym (walk_none _ _ _ _ _ c.loop-i.auto.i-end c.loop-i-test.false c.loop-i.invariant)
