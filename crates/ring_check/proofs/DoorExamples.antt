-- The rows of specs/DoorExamples.antt compute. Assumes nothing.
use mathlib.Core.Path.{refl}
use Rattle.base.specs.Loop.{open_loop}
use Rattle.error.specs.Refusals.{open_refusals}
use Rattle.hypotenuse.specs.Hypot.{open_hypot}
use Rattle.math.specs.Number.{open_number}
use Rattle.plane.specs.Plane.{open_plane}
use Rattle.plane.specs.Points.{open_points}
use Rattle.turn.specs.Turns.{open_turns}
use Rattle.segment.specs.Segments.{open_segments}
use Rattle.ring.specs.Ring.{open_ring}
use Rattle.ring_measure.specs.Measures.{open_measures}
use Rattle.ring_cross.specs.Simple.{open_simple}
use Rattle.ring_check.specs.Checks.{open_checks}
use Rattle.ring_check.specs.DoorExamples.{DoorExamples}

pub door_examples : DoorExamples
unfolding open_loop open_refusals open_hypot open_number open_plane open_points open_turns open_segments open_ring open_measures open_simple open_checks
door_examples = record {
  bound = refl;
  below = refl;
  below_piece = refl;
  slanted = refl;
  slanted_passes = refl;
  far = refl;
  closing = refl;
  closed = refl;
  closed_twice = refl;
  after_seven = refl;
  before_eight = refl;
  flat_piece = refl;
  before_nine = refl;
  crossed_piece = refl;
}
