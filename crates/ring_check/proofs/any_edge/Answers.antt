-- `ring_check::any_edge` meets its contract. Assumes nothing.
use Rattle.ring_check.proofs.Exits.{one_more, starts}
use Rattle.ring_check.proofs.any_edge.Goals as goal

pub loop-k-preserved : goal.loop-k-preserved
loop-k-preserved g c =
    let v = c.loop-k.invariant in
    record {
      from = λ l. starts _ _ _ _ c.edge_end-b.ensures l;
      none = one_more (goal.F-post g c.args.test) _ _ _ v.none (v.from c.loop-k-test.true) c.edge_end-b.ensures c.if-test.ensures;
    }
