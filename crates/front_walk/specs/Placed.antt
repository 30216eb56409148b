-- The place of a finished vertex. Assumes nothing.
use Rattle.std.specs.Prelude.{cond, not, ◌&&◌, Option, Some, None}
use Rattle.plane.specs.declared.PlanarPoint.{PlanarPoint}
use Rattle.front.specs.declared.Moving.{Moving}
use Rattle.math.specs.Number.{finite, add}

-- a point from the origin of the front, in plane coordinates
unfoldable pub from_origin : PlanarPoint → PlanarPoint → PlanarPoint
from_origin p origin = record { east = add p.east origin.east; north = add p.north origin.north }

-- none where it is not finite
unfoldable pub finite_place : PlanarPoint → Option PlanarPoint
finite_place p = cond (not (finite p.east && finite p.north)) None (Some p)

-- where a vertex of the finished front lies: none where it has no velocity
unfoldable pub placed : PlanarPoint → Option Moving → Option PlanarPoint
placed origin None = None
placed origin (Some m) = finite_place (from_origin m.at origin)

-- opens every definition above, for a proof that computes with all of them
unfoldable pub open_placed : Unit {0}
unfolding from_origin finite_place placed
open_placed = tt
