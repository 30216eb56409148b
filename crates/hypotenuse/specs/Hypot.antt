-- `hypot` of 01 (math.rs), correctly rounded by IEEE 754-2019, clause 9.2: the double nearest to the root of x² + y², at a tie the one
-- whose last digit is even. `Nearest.antt` states that of it, and it is proved. Everything is a whole number: a finite magnitude is counted
-- in units of the smallest positive double, 2 ^ -1074. Definitions only.
use Prim.Native.Nat.{ℕ, zero, suc, ◌+◌, ◌-◌, ◌*◌, ◌/◌, ◌^◌, compare}
use Rattle.std.specs.Prelude.{false, cond, leb, ℤ, Float}
use Rattle.std.specs.Float.{nan, inf, fin, Format, binary64}
use Rattle.std.specs.Float.Ieee.{prec, low, up, down, size, nearest, units}

-- the whole part of the root of n, for an n below 2 ^ (2 * d): one binary digit of the root for each two of n
unfoldable pub whole_root : ℕ → ℕ → ℕ
whole_root zero n = zero
whole_root (suc d) n = let r = 2 * whole_root d (n / 4) in cond (leb ((r + 1) * (r + 1)) n) (r + 1) r

-- How many of the last binary digits of the root of s the format drops: the root of an s of z digits has half as many, rounded up.
unfoldable pub dropped : Format → ℕ → ℕ
unfolding size
dropped f s = (size s + 1) / 2 - prec f

-- the digits that the root keeps, in units of 2 ^ k: q or the next number up, by how the root compares with the middle between the two
unfoldable pub kept : Format → ℕ → ℕ → ℕ
unfolding whole_root
kept f s k = let q = whole_root (prec f) (s / 2 ^ (2 * k)) in nearest q (compare (4 * s) ((2 * q + 1) * (2 * q + 1) * 2 ^ (2 * k)))

-- the value of the format nearest to the root of s, where s counts squares of the smallest value: from 2 ^ (emax + 1) on it is infinity
unfoldable pub round_root : Format → ℕ → Float
unfolding dropped kept units
round_root f s = units f false (kept f s (dropped f s)) (dropped f s)

-- m * 2 ^ e in units of the smallest double: exact for every finite double (`count_exact`), subnormal ones too
abbrev pub count : ℕ → ℤ → ℕ
count m e = m * up e * 2 ^ low binary64 / down e

-- 01, math.rs: an infinite operand gives infinity, even beside a NaN; else a NaN gives NaN; else the rounded root of the sum of the squares
unfoldable pub hypot : Float → Float → Float
unfolding round_root
hypot (inf s) y = inf false
hypot nan nan = nan
hypot nan (inf t) = inf false
hypot nan (fin t n d) = nan
hypot (fin s m e) nan = nan
hypot (fin s m e) (inf t) = inf false
hypot (fin s m e) (fin t n d) = round_root binary64 (count m e * count m e + count n d * count n d)

-- opens every definition above, for a proof that computes with all of them
unfoldable pub open_hypot : Unit {0}
unfolding whole_root dropped kept round_root hypot
open_hypot = tt
