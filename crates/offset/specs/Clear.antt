-- On which side of a ring a point lies, and a test of every vertex of a ring. Assumes nothing.
use Rattle.std.specs.Prelude.{ℕ, Bool, true, false, cond, ◌&&◌, List, Float}
use Rattle.plane.specs.declared.PlanarPoint.{PlanarPoint}
use Rattle.plane.specs.declared.Containment.{Containment}
use Rattle.plane.specs.declared.Containment.TheVariants.{Inside, OnBoundary, Outside}
use Rattle.base.specs.Loop.{rounds}
use Rattle.ring.specs.Ring.{vertex_at}

unfoldable pub is_inside : Containment → Bool
is_inside Inside = true
is_inside OnBoundary = false
is_inside Outside = false

unfoldable pub is_outside : Containment → Bool
is_outside Inside = false
is_outside OnBoundary = false
is_outside Outside = true

-- an inset's vertices lie inside the source, an outset's outside
unfoldable pub right_side : Bool → Containment → Bool
right_side outward c = cond outward (is_outside c) (is_inside c)

unfoldable pub every_step : (PlanarPoint → Bool) → List Float → ℕ → Bool → Bool
every_step test qs k s = s && test (vertex_at qs k)

unfoldable pub every_vertex : (PlanarPoint → Bool) → List Float → ℕ → Bool
every_vertex test qs m = rounds (every_step test qs) m true

-- opens every definition above, for a proof that computes with all of them
unfoldable pub open_clear : Unit {0}
unfolding is_inside is_outside right_side every_step every_vertex
open_clear = tt
