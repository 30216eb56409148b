-- The float operations of the port, all on f64 (01), its constants, and `abs`, `min`, `max` and `clamp` of the Rust. Definitions only.
use Rattle.std.specs.Prelude.{Bool, true, false, cond}
use lib.Ieee.{Float, nan, inf, fin, binary64, lt, eq, of_bits}

-- ---- Rust's +, -, * and /, each rounded once

abbrev pub add : Float → Float → Float
add x y = lib.Ieee.add binary64 x y

abbrev pub sub : Float → Float → Float
sub x y = lib.Ieee.sub binary64 x y

abbrev pub mul : Float → Float → Float
mul x y = lib.Ieee.mul binary64 x y

abbrev pub div : Float → Float → Float
div x y = lib.Ieee.div binary64 x y

-- ---- constants

abbrev pub zero_float : Float
zero_float = of_bits binary64 0x0

abbrev pub one : Float
one = of_bits binary64 0x3ff0000000000000

abbrev pub infinity : Float
infinity = of_bits binary64 0x7ff0000000000000

abbrev pub two : Float
two = of_bits binary64 0x4000000000000000

-- ---- abs, min, max, clamp

-- math.rs `abs`
unfoldable pub abs : Float → Float
abs nan = nan
abs (inf s) = inf false
abs (fin s m e) = fin false m e

-- `f64::min` and `f64::max`: they pass over a NaN (01, polygon.rs). Which zero they give is not compared; of two equal ones this gives the
-- second.
unfoldable pub fmin : Float → Float → Float
fmin x y = cond (lt x y) x (cond (eq y y) y x)

unfoldable pub fmax : Float → Float → Float
fmax x y = cond (lt y x) x (cond (eq y y) y x)

-- `f64::is_finite`
unfoldable pub finite : Float → Bool
finite nan = false
finite (inf s) = false
finite (fin s m e) = true

-- `f64::clamp(0.0, 1.0)`: below 0 it is 0, and then above 1 it is 1, and a NaN stays
unfoldable pub raised : Float → Float
raised x = cond (lt x zero_float) zero_float x

unfoldable pub lowered : Float → Float
lowered x = cond (lt one x) one x

unfoldable pub clamp : Float → Float
clamp x = lowered (raised x)

-- 01, math.rs: an infinite or NaN distance reads 0, as `unwrap_or(Distance::ZERO)` has it
unfoldable pub distance : Float → Float
distance x = cond (finite x) x zero_float

-- opens every definition above, for a proof that computes with all of them
unfoldable pub open_number : Unit {0}
unfolding abs fmin fmax finite raised lowered clamp distance lib.Ieee.add lib.Ieee.sub lib.Ieee.mul lib.Ieee.div lib.Ieee.neg lib.Ieee.sum
    lib.Ieee.round lib.Ieee.units lib.Ieee.odd lib.Ieee.size lib.Ieee.span lib.Ieee.climb lib.Ieee.lt lib.Ieee.le lib.Ieee.eq
    lib.Ieee.of_bits lib.Ieee.of_fields lib.Ieee.of_int lib.Count.count_trailing_zeros
open_number = tt
