-- What the functions of `root.rt`, the parts of `hypot`, promise one another. Definitions only.
use Rattle.std.specs.Prelude.{◌≡◌, false, Float, ℕ, ◌+◌, ◌-◌, ◌*◌, ◌/◌, ◌%◌, ◌^◌, ◌≤◌, ◌<◌, min}
use Rattle.std.specs.Float.{inf, binary64}
use Rattle.hypotenuse.specs.Hypot.{round_root}

-- root is the whole part of the root of n, and rest is what it leaves
pub record RootOf (n root rest : ℕ) : Type 0 where
  pub is : root * root + rest ≡ n
  pub under : rest ≤ 2 * root

-- what `refine` asks
pub record Halved (root rest base mid low : ℕ) : Type 0 where
  pub small : root < 2 ^ 28
  pub under : rest ≤ 2 * root
  pub some : 1 ≤ base
  pub base_le : base ≤ 2 * root
  pub base_small : base ≤ 2 ^ 27
  pub mid_lt : mid < base
  pub low_lt : low < base

-- hi * 2 ^ 54 + lo is n
pub record WideOf (n hi lo : ℕ) : Type 0 where
  pub is : hi * 2 ^ 54 + lo ≡ n
  pub lo_lt : lo < 2 ^ 54

-- hi * 2 ^ 54 + lo is n / 2 ^ k, and lost is n % 2 ^ k
pub record CutOf (n k hi lo lost : ℕ) : Type 0 where
  pub is : (hi * 2 ^ 54 + lo) * 2 ^ k + lost ≡ n
  pub lo_lt : lo < 2 ^ 54
  pub lost_lt : lost < 2 ^ k

-- root is the whole part of twice the root of s / 2 ^ k, and rest is 0 where that is exact
pub record Twice (s k root rest : ℕ) : Type 0 where
  pub from : root * root * 2 ^ k ≤ 4 * s
  pub below : 4 * s < (root + 1) * (root + 1) * 2 ^ k
  pub exact : rest ≡ 0 → root * root * 2 ^ k ≡ 4 * s
  pub more : 0 < rest → root * root * 2 ^ k < 4 * s

-- r is a fourth of g to the nearest, at a tie the even one. A rest above 0 says that there is more than g.
pub record Fourth (g rest r : ℕ) : Type 0 where
  pub down : g % 4 < 2 → r ≡ g / 4
  pub tie : g % 4 ≡ 2 → rest ≡ 0 → r ≡ g / 4 + g / 4 % 2
  pub past : g % 4 ≡ 2 → 0 < rest → r ≡ g / 4 + 1
  pub up : 2 < g % 4 → r ≡ g / 4 + 1

-- q * 2 ^ k units, written with as many digits as a double keeps, or with the next number up
pub record Parts (q k : ℕ) : Type 0 where
  pub q_le : q ≤ 2 ^ 53
  pub full : 0 < k → 2 ^ 52 ≤ q

-- the exponent and the significand of a pattern without a sign: it stands for significand * 2 ^ exponent units
abbrev pub exponent_of : ℕ → ℕ
exponent_of a = a / 2 ^ 52 - 1

abbrev pub significand_of : ℕ → ℕ
significand_of a = a % 2 ^ 52 + min (a / 2 ^ 52) 1 * 2 ^ 52

unfoldable pub units_of : ℕ → ℕ
units_of a = significand_of a * 2 ^ exponent_of a

-- what `of_magnitudes` makes of two patterns, of which a is the larger
pub record Larger (a b : ℕ) (r : Float) : Type 0 where
  pub infinite : a ≡ 0x7ff0_0000_0000_0000 → r ≡ inf false
  pub finite : a < 0x7ff0_0000_0000_0000 → r ≡ round_root binary64 (units_of a * units_of a + units_of b * units_of b)
