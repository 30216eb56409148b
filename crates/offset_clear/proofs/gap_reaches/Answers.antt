-- `offset_clear::gap_reaches` meets its contract. Assumes nothing.
use mathlib.Core.Path.{sym, ◌∙◌}
use Rattle.base.proofs.Laws.{no_round}
use Rattle.ring.proofs.Starts.{start_first, start_next, start_edge}
use Rattle.offset_clear.proofs.FirstShort.{edge_told, short_at, not_short, none_short}
use Rattle.offset_clear.proofs.gap_reaches.Goals as goal

pub loop-k-init : goal.loop-k-init
loop-k-init c = (c.vertex_at-a.ensures ∙ start_first _ _, no_round _ _)

pub returns-then-falls_short : goal.returns-then-falls_short
returns-then-falls_short c =
    let inv = c.loop-k.invariant in
    let going = c.loop-k-test.true in
    let edge-end-gives = c.edge_end-b.ensures in
    let falls-short-gives = c.falls_short.ensures in
    sym
    (short_at _ _ _ _ _ inv.1 going
    (edge_told _ _ _ _ _ _ _ (inv.0 ∙ start_edge _ _ _ going) edge-end-gives
    falls-short-gives c.if-falls_short.true))

pub loop-k-preserved : goal.loop-k-preserved
loop-k-preserved c =
    let edge-end-gives = c.edge_end-b.ensures in
    let inv = c.loop-k.invariant in
    let going = c.loop-k-test.true in
    let falls-short-gives = c.falls_short.ensures in (
      edge-end-gives ∙ start_next _ _ _,
      not_short _ _ _ _ _ inv.1
          (edge_told _ _ _ _ _ _ _ (inv.0 ∙ start_edge _ _ _ going) edge-end-gives
          falls-short-gives c.if-falls_short.false),
    )

pub returns : goal.returns
returns c = sym (none_short _ _ _ _ _ c.loop-k.auto.k-end c.loop-k-test.false c.loop-k.invariant.1)
