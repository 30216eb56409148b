-- R-3 in numbers. Proved in `proofs/PairExamples.antt`. Assumes nothing.
use Rattle.std.specs.Prelude.{◌≡◌, true, List, [], ◌∷◌, Float, None}
use Rattle.std.specs.Float.{nan}
use Rattle.ring_cross.specs.EdgePairs.{edges}
use Rattle.ring_cross.specs.Meet.{rings_meet}
use Rattle.ring_cross.specs.Pair.{ring_pair}
use Rattle.ring_cross.specs.Examples.{d}

-- (0, 0), (4, 0), (4, 4), (0, 4)
abbrev pub square : List Float
square =
    d 0 ∷ d 0 ∷ d 0x4010000000000000 ∷ d 0 ∷ d 0x4010000000000000 ∷ d 0x4010000000000000 ∷
    d 0 ∷ d 0x4010000000000000 ∷ []

-- (3, 3), (6, 3), (6, 6): edge 0 meets edge 1 of the square, edge 2 meets edges 1 and 2
abbrev pub triangle : List Float
triangle =
    d 0x4008000000000000 ∷ d 0x4008000000000000 ∷ d 0x4018000000000000 ∷ d 0x4008000000000000 ∷
    d 0x4018000000000000 ∷ d 0x4018000000000000 ∷ []

-- (3, 1), (6, 1), (6, -2), (1, 2): edge 0 meets edge 1 of the square, edge 2 meets edge 0
abbrev pub blade : List Float
blade =
    d 0x4008000000000000 ∷ d 0x3ff0000000000000 ∷ d 0x4018000000000000 ∷ d 0x3ff0000000000000 ∷
    d 0x4018000000000000 ∷ d 0xc000000000000000 ∷ d 0x3ff0000000000000 ∷ d 0x4000000000000000 ∷ []

-- one vertex, (4, 2), between two that are NaN: edge 0 ends on edge 1 of the square
abbrev pub broken : List Float
broken =
    nan ∷ nan ∷ d 0x4010000000000000 ∷ d 0x4000000000000000 ∷ nan ∷ nan ∷ []

pub record PairExamples : Type 0 where
  -- the triangle has fewer vertices, so its edge stands first, by either name first
  pub fewer_second : ring_pair square 4 triangle 3 ≡ edges 0 1
  pub fewer_first : ring_pair triangle 3 square 4 ≡ edges 0 1
  -- of equal ones the first named is outer: neither pair is the other one read backwards
  pub equal : ring_pair square 4 blade 4 ≡ edges 0 2
  pub equal_turned : ring_pair blade 4 square 4 ≡ edges 0 1
  -- NaN, too: yes exactly where it was yes
  pub not_numbers : ring_pair square 4 broken 3 ≡ edges 0 1
  pub not_numbers_meet : rings_meet square 4 broken 3 ≡ true
  -- no vertex, no edge
  pub no_ring : ring_pair square 4 [] 0 ≡ None
