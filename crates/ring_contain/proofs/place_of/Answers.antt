-- `ring_contain::place_of` meets its contract. Assumes nothing.
use mathlib.Core.Path.{◌∙◌}
use Rattle.base.proofs.Laws.{goes_on, ends}
use Rattle.ring_contain.specs.Contains
use Rattle.ring.proofs.Starts.{start_first, start_next, start_edge}
use Rattle.ring_contain.proofs.Skipped.{odd, first_odd, left_out, counted, on_boundary}
use Rattle.ring_contain.proofs.place_of.Goals as goal
use Rattle.ring_contain.proofs.place_of.Goals.{then-not-beside+else-on_segment, else-not-beside}

pub loop-k-init : goal.loop-k-init
loop-k-init c = (c.vertex_at-a.ensures ∙ start_first _ _, first_odd _ _ _)

pub returns-then-on_segment : goal.returns-then-on_segment
returns-then-on_segment c =
    let v = c.loop-k.invariant in
    let t = c.loop-k-test.true in
    on_boundary _ _ _ _ _ _ _ _ (v.0 ∙ start_edge _ _ _ t) c.edge_end-b.ensures t v.1 c.on_segment.ensures c.if-on_segment.true

pub loop-k-preserved : goal.loop-k-preserved
loop-k-preserved c =
    let v = c.loop-k.invariant in
    let a = v.0 ∙ start_edge _ _ _ c.loop-k-test.true in
    let b = c.edge_end-b.ensures in (
      b ∙ start_next _ _ _,
      elim c.if-not-beside.branch [
        | then-not-beside+else-on_segment w ↦
            rw w.inside-is (goes_on _ _ _ _ _ v.1 (counted _ _ _ _ _ _ _ a b _ _ w.on_segment.ensures w.if-on_segment.false w.passes-inside.ensures))
        | else-not-beside w ↦ rw w.inside-is (goes_on _ _ _ _ _ v.1 (left_out _ _ _ _ _ _ _ a b _ c.beside.ensures w.if-not-beside.false))
      ],
    )

pub returns : goal.returns
unfolding Contains.ring_contains odd
returns c = c.choose.ensures ∙ ends _ _ _ _ _ c.loop-k.auto.k-end c.loop-k-test.false c.loop-k.invariant.1
