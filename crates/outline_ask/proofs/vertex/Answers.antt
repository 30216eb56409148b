-- `outline_ask::vertex` meets its contract. Assumes nothing.
use Rattle.outline_ask.specs.Queries
use Rattle.outline_ask.proofs.GrantedOrRefused.{footed_within}
use Rattle.outline_ask.proofs.vertex.Goals as goal

pub returns : goal.returns
unfolding Queries.vertex
returns c =
    let ask-ring-gives = c.ask_ring-r.ensures in
    let granted-gives = c.granted.ensures in
    let vertex-at-gives = c.vertex_at.ensures in
    footed_within _ _ ask-ring-gives _ _ _ granted-gives _ _ _ c.within.ensures vertex-at-gives
