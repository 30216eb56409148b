-- polygon.rs, the check of a ring: questions 4 to 9, for a room, of the ring of this number; and the same check at the door, where 27 is
-- asked, too (R-7). Assumes nothing.
use Rattle.std.specs.Prelude.{Bool, true, false, cond, not, ◌&&◌, ◌||◌, Float, ℕ, ◌-◌, List, ltb, Option, None, Some}
use Rattle.std.specs.Float.{binary64}
use Rattle.std.specs.Float.Ieee.{lt, le, of_bits}
use Rattle.plane.specs.declared.PlanarPoint.{PlanarPoint}
use Rattle.error.specs.declared.Refusal.{Refusal}
use Rattle.error.specs.declared.Refusal.TheVariants.{Granted, Range, Room, Crossed, Flat, Repeated, Few, Hairline}
use Rattle.ring_cross.specs.declared.EdgePair.{EdgePair}
use Rattle.ring_check.specs.declared.Checked.{Checked}
use Rattle.plane.specs.Plane.{same, sub}
use Rattle.plane.specs.Points.{length_of}
use Rattle.ring.specs.Ring.{vertex_at, edge_end}
use Rattle.ring_measure.specs.Measures.{span, signed_area}
use Rattle.math.specs.Number.{abs, mul, zero_float}
use Rattle.error.specs.Refusals.{granted}
use Rattle.base.specs.Loop.{rounds}
use Rattle.ring_cross.specs.Simple.{check_simple}

-- 1e9
abbrev pub max_coordinate : Float
max_coordinate = of_bits binary64 0x41cdcd6500000000

-- the double nearest to 1e-12
abbrev pub min_relative_area : Float
min_relative_area = of_bits binary64 0x3d719799812dea11

-- the double nearest to 0.000001
abbrev pub hairline_length : Float
hairline_length = of_bits binary64 0x3eb0c6f7a0b5ed8d

-- one closing repeat is dropped
unfoldable pub kept : List Float → ℕ → ℕ
kept ps n = cond (ltb 1 n && same (vertex_at ps (n - 1)) (vertex_at ps 0)) (n - 1) n

-- question 5 of a number: it is not within ±1e9. A NaN is beyond it; the Rust asks for `>`, and its points are never NaN.
unfoldable pub beyond : Float → Bool
beyond x = not (le (abs x) max_coordinate)

unfoldable pub vertex_refusal : ℕ → ℕ → ℕ → ℕ → PlanarPoint → Refusal
vertex_refusal room ring n k v =
    cond (beyond v.east) (Range ring v.east)
    (cond (beyond v.north) (Range ring v.north) (cond (ltb k room) Granted (Room ring n room)))

unfoldable pub range_step : ℕ → ℕ → List Float → ℕ → ℕ → Refusal → Refusal
range_step room ring ps n k r = cond (granted r) (vertex_refusal room ring n k (vertex_at ps k)) r

unfoldable pub check_range : ℕ → ℕ → List Float → ℕ → Refusal
check_range room ring ps n = rounds (range_step room ring ps n) n Granted

unfoldable pub repeat_step : List Float → ℕ → ℕ → Bool → Bool
repeat_step ps n k s = s || same (vertex_at ps k) (edge_end ps n k)

unfoldable pub repeats : List Float → ℕ → Bool
repeats ps n = rounds (repeat_step ps n) n false

-- R-7: edge k is shorter than 0.000001 by the length function
unfoldable pub short_edge : List Float → ℕ → ℕ → Bool
short_edge ps n k = lt (length_of (sub (edge_end ps n k) (vertex_at ps k))) hairline_length

unfoldable pub hairline_step : List Float → ℕ → ℕ → Bool → Bool
hairline_step ps n k s = s || short_edge ps n k

-- question 27: some edge of the ring, the closing one included, is that short
unfoldable pub hairline : List Float → ℕ → Bool
hairline ps n = rounds (hairline_step ps n) n false

unfoldable pub flat : Float → Float → Bool
flat signed s = le (abs signed) (mul (mul min_relative_area s) s)

-- edge k of the reversed ring is edge n − 1 − k of the input
unfoldable pub crossed : ℕ → ℕ → Bool → Option EdgePair → Refusal
crossed ring n back None = Granted
crossed ring n back (Some c) = cond back (Crossed ring (n - 1 - c.second) (n - 1 - c.first)) (Crossed ring c.first c.second)

unfoldable pub refused : Refusal → Checked
refused r = record { refusal = r; count = 0; back = false }

unfoldable pub passed : Refusal → ℕ → Bool → Checked
passed r n back = cond (granted r) (record { refusal = Granted; count = n; back = back }) (refused r)

unfoldable pub check_reversed : ℕ → List Float → ℕ → Bool → Checked
check_reversed ring ps n back = passed (crossed ring n back (check_simple ps n back)) n back

unfoldable pub check_area : ℕ → List Float → ℕ → Float → Checked
check_area ring ps n signed = cond (flat signed (span ps n)) (refused (Flat ring)) (check_reversed ring ps n (lt signed zero_float))

-- 27 is asked after 7 and before 8, and at the door alone
unfoldable pub check_shape : Bool → ℕ → List Float → ℕ → Checked
check_shape door ring ps n =
    cond (repeats ps n) (refused (Repeated ring))
    (cond (door && hairline ps n) (refused (Hairline ring)) (check_area ring ps n (signed_area ps n)))

unfoldable pub check_in_range : Bool → ℕ → List Float → ℕ → Refusal → Checked
check_in_range door ring ps n r = cond (granted r) (check_shape door ring ps n) (refused r)

unfoldable pub check_kept : Bool → ℕ → ℕ → List Float → ℕ → Checked
check_kept door room ring ps n =
    cond (ltb n 3) (refused (Few ring n)) (check_in_range door ring ps n (check_range room ring ps n))

unfoldable pub check_by : Bool → ℕ → ℕ → List Float → ℕ → Checked
check_by door room ring ps n = check_kept door room ring ps (kept ps n)

-- 4 to 9 alone: a piece of an offset, and a run that is cut from a drawing
abbrev pub check_ring : ℕ → ℕ → List Float → ℕ → Checked
check_ring room ring ps n = check_by false room ring ps n

-- 4 to 7, 27, 8 and 9: a ring that comes in from outside
abbrev pub check_door : ℕ → ℕ → List Float → ℕ → Checked
check_door room ring ps n = check_by true room ring ps n

-- opens every definition above, for a proof that computes with all of them
unfoldable pub open_checks : Unit {0}
unfolding kept beyond vertex_refusal range_step check_range repeat_step repeats short_edge hairline_step hairline flat crossed refused
    passed check_reversed check_area check_shape check_in_range check_kept check_by
open_checks = tt
