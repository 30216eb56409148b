-- mod.rs, `PlanarPoint`, and the vectors of polygon.rs. Each float step stands in the Rust's order. Assumes nothing.
use Rattle.std.specs.Prelude.{Bool, ◌&&◌, Float}
use Rattle.std.specs.Float.Ieee.{eq}
use Rattle.plane.specs.declared.PlanarPoint.{PlanarPoint}
use Rattle.math.specs.Number
use Rattle.math.specs.Number.{add, mul}

abbrev pub point : Float → Float → PlanarPoint
point x y = record { east = x; north = y }

unfoldable pub sub : PlanarPoint → PlanarPoint → PlanarPoint
sub a b = record { east = Number.sub a.east b.east; north = Number.sub a.north b.north }

unfoldable pub dot : PlanarPoint → PlanarPoint → Float
dot a b = add (mul a.east b.east) (mul a.north b.north)

unfoldable pub cross : PlanarPoint → PlanarPoint → Float
cross a b = Number.sub (mul a.east b.north) (mul a.north b.east)

-- mod.rs, `==` of two points: −0 and 0 are equal
unfoldable pub same : PlanarPoint → PlanarPoint → Bool
same a b = eq a.east b.east && eq a.north b.north

-- opens every definition above, for a proof that computes with all of them
unfoldable pub open_plane : Unit {0}
unfolding sub dot cross same
open_plane = tt
