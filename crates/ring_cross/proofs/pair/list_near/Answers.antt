-- `ring_cross::pair::list_near` meets its contract. Assumes nothing.
use native.Mathlib.Omega.{arith}
use mathlib.Core.Path.{◌∙◌}
use lib.ListN.{length}
use Rattle.ring.proofs.Starts.{start_first, start_next, start_edge}
use Rattle.ring_cross.proofs.Frames.{missed_by}
use Rattle.ring_cross.proofs.Listing.{least_within, least_room, lists_to, nothing_listed, one_listed, one_left_out}
use Rattle.ring_cross.proofs.pair.list_near.Goals as goal
use Rattle.ring_cross.proofs.pair.list_near.Goals.{then-not-passed_over, else-not-passed_over}

pub loop-k-init : goal.loop-k-init
loop-k-init c = record { few = omega arith; from = c.vertex_at-b1.ensures ∙ start_first _ _; lists = nothing_listed _ _ }

-- an edge that is listed, or left out
pub loop-k-preserved : goal.loop-k-preserved
loop-k-preserved c =
    let v = c.loop-k.invariant in
    let e = c.edge_end-b2.ensures in
    let within = least_within c.args.m (length c.args.edges.now) c.choose-stop.result c.choose-stop.ensures in
    let room = least_room c.args.m (length c.args.edges.now) c.choose-stop.result c.choose-stop.ensures in
    elim c.if-not-passed_over.branch [
      | then-not-passed_over w ↦ record {
        few = omega arith;
        from = e ∙ start_next _ _ _;
        lists = rw (w.count-is, w.edges-is) (one_listed _ _ _ _ v.lists (omega (arith, room)));
      }
      | else-not-passed_over w ↦ record {
        few = omega arith;
        from = e ∙ start_next _ _ _;
        lists = rw (w.count-is, w.edges-is) (one_left_out _ _ _ _ v.lists
            (missed_by _ _ _ _ _ (v.from ∙ start_edge _ _ _ (omega (arith, within))) e c.passed_over.ensures.passed_over w.if-not-passed_over.false));
      }
    ]

pub returns : goal.returns
returns c =
    lists_to _ _ _ _ _ _ _ _ (least_within _ _ _ c.choose-stop.ensures) c.loop-k.auto.k-end c.loop-k-test.false c.loop-k.invariant.lists
    c.choose.ensures c.choose-2.ensures
