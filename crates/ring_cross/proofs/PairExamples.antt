-- The rows of specs/PairExamples.antt compute. Assumes nothing.
use mathlib.Core.Path.{refl}
use Rattle.base.specs.Loop.{open_loop}
use Rattle.math.specs.Number.{open_number}
use Rattle.plane.specs.Plane.{open_plane}
use Rattle.turn.specs.Turns.{open_turns}
use Rattle.segment.specs.Segments.{open_segments}
use Rattle.ring.specs.Ring.{open_ring}
use Rattle.ring_cross.specs.Meet.{open_meet}
use Rattle.ring_cross.specs.Pair.{open_pair}
use Rattle.ring_cross.specs.PairExamples.{PairExamples}

pub pair_examples : PairExamples
unfolding open_loop open_number open_plane open_turns open_segments open_ring open_meet open_pair
pair_examples = record {
  fewer_second = refl;
  fewer_first = refl;
  equal = refl;
  equal_turned = refl;
  not_numbers = refl;
  not_numbers_meet = refl;
  no_ring = refl;
}
