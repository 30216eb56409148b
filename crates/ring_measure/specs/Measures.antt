-- polygon.rs, the measures of a ring: area, span, perimeter and extent. Every walk goes by `rounds`, over a body of its own. Assumes
-- nothing.
use Rattle.std.specs.Prelude.{ℕ, List, Float}
use Rattle.std.specs.Float.Ieee.{neg}
use Rattle.plane.specs.declared.PlanarPoint.{PlanarPoint}
use Rattle.plane.specs.declared.Bounds.{Bounds}
use Rattle.math.specs.Number
use Rattle.math.specs.Number.{add, div, zero_float, two, abs, fmin, fmax, infinity, distance}
use Rattle.plane.specs.Plane.{sub, cross}
use Rattle.plane.specs.Points.{length_of}
use Rattle.ring.specs.Ring.{vertex_at, edge_end}
use Rattle.base.specs.Loop.{rounds}
use Rattle.hypotenuse.specs.Hypot.{hypot}

-- ---- area and span

unfoldable pub area_step : List Float → ℕ → ℕ → Float → Float
area_step ps n k s = add s (cross (sub (vertex_at ps k) (vertex_at ps 0)) (sub (edge_end ps n k) (vertex_at ps 0)))

unfoldable pub signed_area : List Float → ℕ → Float
signed_area ps n = div (rounds (area_step ps n) n zero_float) two

unfoldable pub area : List Float → ℕ → Float
area ps n = abs (signed_area ps n)

unfoldable pub widened : Bounds → PlanarPoint → Bounds
widened b v =
    record {
      low = record { east = fmin b.low.east v.east; north = fmin b.low.north v.north };
      high = record { east = fmax b.high.east v.east; north = fmax b.high.north v.north };
    }

unfoldable pub bounds_step : List Float → ℕ → Bounds → Bounds
bounds_step ps k b = widened b (vertex_at ps k)

abbrev pub no_bounds : Bounds
no_bounds = record { low = record { east = infinity; north = infinity }; high = record { east = neg infinity; north = neg infinity } }

unfoldable pub diagonal : Bounds → Float
diagonal b = hypot (Number.sub b.high.east b.low.east) (Number.sub b.high.north b.low.north)

unfoldable pub span : List Float → ℕ → Float
span ps n = diagonal (rounds (bounds_step ps) n no_bounds)

-- ---- perimeter and extent

unfoldable pub perimeter_step : List Float → ℕ → ℕ → Float → Float
perimeter_step ps n k s = add s (length_of (sub (edge_end ps n k) (vertex_at ps k)))

unfoldable pub perimeter : List Float → ℕ → Float
perimeter ps n = distance (rounds (perimeter_step ps n) n zero_float)

unfoldable pub reach : PlanarPoint → Float
reach v = fmax (abs v.east) (abs v.north)

unfoldable pub extent_step : List Float → ℕ → Float → Float
extent_step ps k s = fmax s (reach (vertex_at ps k))

unfoldable pub extent : List Float → ℕ → Float
extent ps n = rounds (extent_step ps) n zero_float

-- opens every definition above, for a proof that computes with all of them
unfoldable pub open_measures : Unit {0}
unfolding area_step signed_area area widened bounds_step diagonal span perimeter_step perimeter reach extent_step extent
open_measures = tt
