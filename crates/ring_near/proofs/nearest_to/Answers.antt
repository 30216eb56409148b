-- `ring_near::nearest_to` meets its contract. Assumes nothing.
use mathlib.Core.Path.{sym, ap, ◌∙◌}
use Rattle.base.proofs.Laws.{no_round, goes_on, ends}
use Rattle.ring_near.specs.Near
use Rattle.ring.proofs.Starts.{start_first, start_next}
use Rattle.ring_near.proofs.Leads.{step_is, walk_ends}
use Rattle.ring_near.proofs.nearest_to.Goals as goal

pub loop-k-init : goal.loop-k-init
loop-k-init c = (c.vertex_at-a.ensures ∙ start_first _ _, c.no_lead-s.ensures ∙ sym (no_round _ _))

pub loop-k-preserved : goal.loop-k-preserved
loop-k-preserved c =
    let edge-end-gives = c.edge_end-b.ensures in
    let inv = c.loop-k.invariant in (
      edge-end-gives ∙ start_next _ _ _,
      goes_on _ _ _ _ _ inv.1 (step_is _ _ _ _ _ _ _ _ c.loop-k-test.true inv.0 edge-end-gives c.lead_between-s.ensures),
    )

pub returns : goal.returns
returns c =
    c.reached.ensures ∙ ap Near.reached (ends _ _ _ _ _ c.loop-k.auto.k-end c.loop-k-test.false c.loop-k.invariant.1) ∙ walk_ends _ _ _
