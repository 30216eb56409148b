-- R-10: what it means that a point keeps the margin from an edge in true distance. Whole numbers throughout; nothing is rounded.
--
--   unit     2 ^ -1074, the smallest double above 0. A finite double x is a whole number of units, `over x` above 0 or `under x` below it:
--            `UnitsExact` says so of its value, `UnitsOfBits` of its 64 bits. The number 1 is 2 ^ 1074 units.
--   D, M     the distance and the largest absolute coordinate of the source, in units. The extent is M, too: margin/specs/Margin.antt.
--   n        `margin_of D M`, the distance that is promised, in units and times 10 ^ 15, so that no fraction is left of
--                distance - 2 × 1e-9 × (1 + distance + extent) - 1e-15 × the largest coordinate.
--            It is 0 where that is below 0, and then nothing is promised.
--   i / j    a fraction from 0 to 1. It names the point a + (i / j) (b - a) of the edge from a to b.
--   squares  a distance is a root, and seldom a whole number of units; j² times its square is one. Of two numbers from 0 up the larger
--            has the larger square. So `Far` compares (n / 10 ^ 15)² with the square of the distance, both times
--            10 ^ 30 j², which makes both whole numbers.
--
-- Of one edge `Far` is proved in `proofs/Points.antt` (`far_edge`), what is stated here in `proofs/Units.antt` and `proofs/Nearest.antt`;
-- `Examples.antt` has numbers that can be worked out by hand. Assumes nothing.
use Rattle.std.specs.Prelude.{ℕ, zero, suc, ◌+◌, ◌-◌, ◌*◌, ◌/◌, ◌%◌, ◌^◌, ◌≤◌, ◌<◌, ◌≡◌, ◌⊎◌, Bool, true, false, cond, T, leb, Float}
use Rattle.std.specs.Float.{nan, inf, fin, binary64}
use Rattle.std.specs.Float.Ieee.{fits, of_bits}
use Rattle.std.specs.Float.Ieee.Exact.{HasValue}
use Rattle.math.specs.Number.{finite}
use Rattle.plane.specs.declared.PlanarPoint.{PlanarPoint}
use Rattle.hypotenuse.specs.Hypot.{count}

-- ---- units

-- the units of a number above 0
unfoldable pub over : Float → ℕ
over nan = 0
over (inf s) = 0
over (fin s m e) = cond s 0 (count m e)

-- the units of a number below 0
unfoldable pub under : Float → ℕ
under nan = 0
under (inf s) = 0
under (fin s m e) = cond s (count m e) 0

-- the units of a number without its sign
abbrev pub magnitude : Float → ℕ
magnitude x = over x + under x

-- the value of a finite double is its units: over x / 2 ^ 1074 where it is not below 0, - under x / 2 ^ 1074 where it is
abbrev pub UnitsExact : Type 0
UnitsExact =
    (x : Float) → T (fits binary64 x) → finite x ≡ true →
    (HasValue x false (over x) (2 ^ 1074) × (under x ≡ 0)) ⊎ (HasValue x true (under x) (2 ^ 1074) × (over x ≡ 0))

-- the units that the exponent's field x and the digits t stand for
unfoldable pub field_units : ℕ → ℕ → ℕ
field_units zero t = t
field_units (suc x) t = (2 ^ 52 + t) * 2 ^ x

-- of 64 bits b the first is the sign, the next eleven are the exponent's field, the other 52 the digits
abbrev pub sign_of : ℕ → Bool
sign_of b = leb (2 ^ 63) b

abbrev pub field_of : ℕ → ℕ
field_of b = b % 2 ^ 63 / 2 ^ 52

abbrev pub digits_of : ℕ → ℕ
digits_of b = b % 2 ^ 52

-- the units by the bits; a field of 2047 stands for an infinity or a NaN
pub record UnitsOfBits : Type 0 where
  pub over_is : (b : ℕ) → (field_of b ≡ 2047 → ⊥) →
      over (of_bits binary64 b) ≡ cond (sign_of b) 0 (field_units (field_of b) (digits_of b))
  pub under_is : (b : ℕ) → (field_of b ≡ 2047 → ⊥) →
      under (of_bits binary64 b) ≡ cond (sign_of b) (field_units (field_of b) (digits_of b)) 0

-- ---- the square of a distance

-- how far apart two whole numbers are
abbrev pub dist : ℕ → ℕ → ℕ
dist a b = a - b + (b - a)

-- the square of a - b
abbrev pub sq : ℕ → ℕ → ℕ
sq a b = dist a b * dist a b

-- one axis: the square of j (p - a) - i (b - a), what adds to it and what takes from it
unfoldable pub axis_apart : Float → Float → Float → ℕ → ℕ → ℕ
axis_apart p a b i j = sq (j * (over p + under a) + i * (under b + over a)) (j * (under p + over a) + i * (over b + under a))

-- j² times the squared distance of p from the point i / j of the edge from a to b
unfoldable pub squared_apart : PlanarPoint → PlanarPoint → PlanarPoint → ℕ → ℕ → ℕ
squared_apart p a b i j = axis_apart p.east a.east b.east i j + axis_apart p.north a.north b.north i j

-- ---- the margin

-- n: 10 ^ 15 times the distance D less twice 1e-9 × (1 + D + M) and less 1e-15 × M, and 0 where that is below 0
unfoldable pub margin_of : ℕ → ℕ → ℕ
margin_of D M = 10 ^ 15 * D - (2 * 10 ^ 6 * (2 ^ 1074 + D + M) + M)

-- every point of the edge from a to b is at least the margin away from p
abbrev pub Far : ℕ → ℕ → PlanarPoint → PlanarPoint → PlanarPoint → Type 0
Far D M p a b = (i j : ℕ) → i ≤ j → 0 < j → margin_of D M * margin_of D M * (j * j) ≤ 10 ^ 30 * squared_apart p a b i j

-- ---- no point is missed: among the fractions there is one whose point is the nearest of the edge

-- The point i / j of the edge from a to b is as near to p as that of any fraction, and so as any point of the edge: each has points of
-- fractions as close to it as one likes.
pub record NearestFraction (p a b : PlanarPoint) : Type 0 where
  pub i : ℕ
  pub j : ℕ
  pub within : i ≤ j
  pub some : 0 < j
  pub least : (k l : ℕ) → k ≤ l → 0 < l → l * l * squared_apart p a b i j ≤ j * j * squared_apart p a b k l

abbrev pub NearestIsFraction : Type 0
NearestIsFraction = (p a b : PlanarPoint) → NearestFraction p a b
