-- A point of the boundary with its distance, so that each is measured once. Assumes nothing.
use Rattle.plane.specs.declared.PlanarPoint.{PlanarPoint}
use Rattle.ring_near.specs.declared.Nearest.{Nearest}
use Rattle.plane.specs.Points.{distance_to}

-- the point q, and how far it is from p
unfoldable pub gap_from : PlanarPoint → PlanarPoint → Nearest
gap_from p q = record { gap = distance_to p q; foot = q }

-- opens every definition above, for a proof that computes with all of them
unfoldable pub open_gaps : Unit {0}
unfolding gap_from
open_gaps = tt
