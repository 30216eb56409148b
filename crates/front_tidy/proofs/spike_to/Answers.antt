-- `front_tidy::spike_to` meets its contract. Assumes nothing.
use Rattle.front_tidy.proofs.Dropped.{to_none, to_some}
use Rattle.front_tidy.proofs.spike_to.Goals as goal

pub returns-in_default : goal.returns-in_default
returns-in_default c = to_none _ _ _ _ _ _ _ _ _ c.in_default.is c.stalled.ensures

pub returns : goal.returns
returns c =
    to_some _ _ _ _ _ _ _ _ _ _ _ _ _ _ _ _ c.in-Some.is c.edge_at-a.ensures c.edge_at-b.ensures c.edge_line.ensures c.edge_line-2.ensures c.meeting-place.ensures
    c.meeting_or.ensures c.drop_both.ensures
