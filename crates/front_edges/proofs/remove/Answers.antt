-- `front_edges::remove` meets its contract. Assumes nothing.
use Rattle.front_edges.proofs.Actions.{remove_is}
use Rattle.front_edges.proofs.remove.Goals as goal

pub returns : goal.returns
returns c = remove_is _ _ _ _ _ _ c.edge_at-gone.ensures c.set_next.ensures c.set_previous.ensures c.kill.ensures
