-- `outline_ask::edge` meets its contract. Assumes nothing.
use Rattle.outline_ask.specs.Queries
use Rattle.outline_ask.proofs.GrantedOrRefused.{edged_within}
use Rattle.outline_ask.proofs.edge.Goals as goal

pub returns : goal.returns
unfolding Queries.edge
returns c =
    let ask-ring-gives = c.ask_ring-r.ensures in
    let granted-gives = c.granted.ensures in
    let within-gives = c.within.ensures in
    let vertex-at-gives = c.vertex_at.ensures in
    let edge-end-gives = c.edge_end.ensures in
    edged_within _ _ ask-ring-gives _ _ _ granted-gives _ _ _ _ _ _ within-gives vertex-at-gives c.within-2.ensures edge-end-gives
