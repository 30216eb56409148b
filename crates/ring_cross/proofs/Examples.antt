-- The rows of specs/Examples.antt compute. Assumes nothing.
use mathlib.Core.Path.{refl}
use Rattle.base.specs.Loop.{open_loop}
use Rattle.math.specs.Number.{open_number}
use Rattle.plane.specs.Plane.{open_plane}
use Rattle.turn.specs.Turns.{open_turns}
use Rattle.segment.specs.Segments.{open_segments}
use Rattle.ring.specs.Ring.{open_ring}
use Rattle.ring_cross.specs.Simple.{open_simple}
use Rattle.ring_cross.specs.Examples.{SimpleExamples}

pub examples : SimpleExamples
unfolding open_loop open_number open_plane open_turns open_segments open_ring open_simple
examples = record { dart_is_simple = refl; crossed_by = refl; aligned_is_simple = refl; touching_itself = refl }
