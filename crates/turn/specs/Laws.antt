-- Laws of the exact turn. Assumes nothing.
use Rattle.std.specs.Prelude.{◌≡◌, ◌⊎◌, true, false, cond, ℕ, ◌+◌, ◌*◌, ◌%◌, ◌^◌, ◌≤◌, ◌<◌, T, leb, Float}
use Rattle.std.specs.Float.{nan, inf, fin, binary64}
use Rattle.std.specs.Float.Ieee.{fits, of_bits}
use Rattle.std.specs.Float.Ieee.Exact.{HasValue}
use Rattle.hypotenuse.specs.Hypot.{count}
use Rattle.math.specs.Number.{finite}
use Rattle.math.specs.Parts.{units_of}
use Rattle.plane.specs.declared.PlanarPoint.{PlanarPoint}
use Rattle.turn.specs.declared.Turn.{Turn}
use Rattle.turn.specs.declared.Turn.TheVariants.{Left, Right, Straight, Unknown}
use Rattle.turn.specs.Turns.{place_of, place, by_sums, turn, Finite}

-- ---- the exact sign

-- the units of a number above 0, and those of a number below 0
unfoldable pub above : Float → ℕ
above nan = 0
above (inf s) = 0
above (fin s m e) = cond s 0 (count m e)

unfoldable pub beneath : Float → ℕ
beneath nan = 0
beneath (inf s) = 0
beneath (fin s m e) = cond s (count m e) 0

-- y - x is `onward x y` less `backward x y`
abbrev pub onward : Float → Float → ℕ
onward x y = above y + beneath x

abbrev pub backward : Float → Float → ℕ
backward x y = beneath y + above x

-- (y - x) (t - z) is `gain x y z t` less `loss x y z t`
abbrev pub gain : Float → Float → Float → Float → ℕ
gain x y z t = onward x y * onward z t + backward x y * backward z t

abbrev pub loss : Float → Float → Float → Float → ℕ
loss x y z t = onward x y * backward z t + backward x y * onward z t

-- the cross product (b - a) × (c - a) is `cross_plus a b c` less `cross_minus a b c`. It is
-- (b.east - a.east) (c.north - a.north) - (b.north - a.north) (c.east - a.east), in squares of the unit.
abbrev pub cross_plus : PlanarPoint → PlanarPoint → PlanarPoint → ℕ
cross_plus a b c = gain a.east b.east a.north c.north + loss a.north b.north a.east c.east

abbrev pub cross_minus : PlanarPoint → PlanarPoint → PlanarPoint → ℕ
cross_minus a b c = loss a.east b.east a.north c.north + gain a.north b.north a.east c.east

-- THE STATEMENT, R-9's "exact sign": of three points with finite numbers the turn is the sign of the cross product of the differences
-- b - a and c - a, nothing being rounded: Left where it is above 0, Right where it is below, Straight where it is 0. `values`: the units
-- that it is said in are the numbers, each `above x` or -`beneath x` times 2 ^ -1074.
pub record TurnIsSign : Type 0 where
  pub sign : (a b c : PlanarPoint) → Finite a → Finite b → Finite c → turn a b c ≡ by_sums (cross_plus a b c) (cross_minus a b c)
  pub values : (x : Float) → T (fits binary64 x) → finite x ≡ true →
      (HasValue x false (above x) (2 ^ 1074) × (beneath x ≡ 0)) ⊎ (HasValue x true (beneath x) (2 ^ 1074) × (above x ≡ 0))

-- ---- points in another order

unfoldable pub opposite : Turn → Turn
opposite Left = Right
opposite Right = Left
opposite Straight = Straight
opposite Unknown = Unknown

-- THE STATEMENT: from b by a it is the opposite turn, and the points may be taken in turn, for all numbers; from a by a to c it is
-- straight, for all that are finite
pub record TurnLaws : Type 0 where
  pub back : (a b c : PlanarPoint) → turn b a c ≡ opposite (turn a b c)
  pub round : (a b c : PlanarPoint) → turn b c a ≡ turn a b c
  pub still : (a c : PlanarPoint) → Finite a → Finite c → turn a a c ≡ Straight

-- ---- the bits

-- THE STATEMENT, "from the bits": of 64 bits w the first, 2 ^ 63, is the sign. The others are w % 2 ^ 63, and where they are below the
-- pattern of infinity they stand for significand * 2 ^ exponent units: `units_of` of math/specs/Parts.antt. Else they are no finite number.
pub record PlaceOfBits : Type 0 where
  pub place_is : (w : ℕ) → w % 2 ^ 63 < 0x7ff0_0000_0000_0000 →
      place (of_bits binary64 w) ≡ place_of (leb (2 ^ 63) w) (units_of (w % 2 ^ 63))
  pub few : (w : ℕ) → w % 2 ^ 63 < 0x7ff0_0000_0000_0000 → units_of (w % 2 ^ 63) < 2 ^ 2098
  pub others : (w : ℕ) → 0x7ff0_0000_0000_0000 ≤ w % 2 ^ 63 → finite (of_bits binary64 w) ≡ false
