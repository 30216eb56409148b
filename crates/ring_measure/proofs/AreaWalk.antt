-- What the walk of the area is proved by: each edge starts where the last one ends. Assumes nothing.
use Rattle.base.proofs.Laws.{counted}
use Rattle.ring.proofs.Vertices.{following_on}

pub ruleset walk = (counted, following_on)
