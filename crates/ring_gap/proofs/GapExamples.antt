-- The rows of specs/GapExamples.antt compute. Assumes nothing.
use mathlib.Core.Path.{refl}
use Rattle.base.specs.Loop.{open_loop}
use Rattle.hypotenuse.specs.Hypot.{open_hypot}
use Rattle.math.specs.Number.{open_number}
use Rattle.plane.specs.Plane.{open_plane}
use Rattle.plane.specs.Points.{open_points}
use Rattle.segment.specs.Segments.{open_segments}
use Rattle.ring.specs.Ring.{open_ring}
use Rattle.ring_near.specs.Near.{open_near}
use Rattle.ring_gap.specs.Gap.{open_gap}
use Rattle.ring_gap.specs.GapExamples.{GapExamples}

pub gap_examples : GapExamples
unfolding open_loop open_hypot open_number open_plane open_points open_segments open_ring open_near open_gap
gap_examples = record {
  collar_sleeve = refl;
  sleeve_collar = refl;
  by_the_sleeve = refl;
  by_the_collar = refl;
  not_a_number = refl;
  no_ring = refl;
}
