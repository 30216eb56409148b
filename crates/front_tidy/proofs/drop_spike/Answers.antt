-- `front_tidy::drop_spike` meets its contract. Assumes nothing.
use Rattle.front_tidy.proofs.Dropped.{from_none, from_some}
use Rattle.front_tidy.proofs.drop_spike.Goals as goal

pub returns-in_default : goal.returns-in_default
returns-in_default c = from_none _ _ _ _ _ c.vertex.ensures c.in_default.is c.stalled.ensures

pub returns : goal.returns
returns c =
    from_some _ _ _ _ _ _ _ _ _ c.edge_at-e.ensures c.edge_at-after.ensures c.vertex.ensures c.in-Some.is c.vertex-to.ensures c.spike_to.ensures
