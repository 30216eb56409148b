-- The numbers of specs/Examples.antt compute. Assumes nothing.
use mathlib.Core.Path.{refl}
use lib.Ieee.{of_bits}
use Rattle.math.specs.Number.{open_number}
use Rattle.plane.specs.Plane.{cross, sub}
use Rattle.turn.specs.Turns.{open_turns}
use Rattle.turn.specs.Examples.{TurnExamples}

pub examples : TurnExamples
unfolding open_turns open_number cross sub of_bits
examples = record {
  to_left = refl;
  to_right = refl;
  beside_line = refl;
  beside_line_rounded = refl;
  smallest = refl;
  smallest_bend = refl;
  smallest_rounded = refl;
  widest = refl;
  widest_rounded = refl;
  speck_away = refl;
  speck_rounded = refl;
  zeros = refl;
  zeros_left = refl;
  infinite = refl;
  no_number = refl;
}
