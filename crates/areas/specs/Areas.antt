-- mod.rs: `Area`. Assumes nothing.
use Rattle.std.specs.Prelude.{cond, Float}
use Rattle.std.specs.Float.{binary64}
use Rattle.std.specs.Float.Ieee.{lt, of_bits}
use Rattle.error.specs.declared.Refusal.{Refusal}
use Rattle.error.specs.declared.Refusal.TheVariants.{Granted, NotFinite, Negative}
use Rattle.error.specs.Refusals.{granted}
use Rattle.math.specs.Number.{mul, div, zero_float, finite}
use Rattle.areas.specs.declared.Area.{Area}
use Rattle.areas.specs.declared.NewArea.{NewArea}

-- `SQUARE_METRES_PER_HECTARE`
abbrev pub hectare : Float
hectare = of_bits binary64 0x40c3880000000000

-- `Area::ZERO`
abbrev pub zero_area : Area
zero_area = record { value = zero_float }

-- 2 of a number that is not finite, 14 of one below 0
unfoldable pub check_area : Float → Refusal
check_area x = cond (finite x) (cond (lt x zero_float) (Negative x) Granted) (NotFinite 0)

unfoldable pub area_if : Float → Refusal → NewArea
area_if x r = cond (granted r) (record { refusal = Granted; area = record { value = x } }) (record { refusal = r; area = zero_area })

-- `Area::from_square_metres`; refused, the area beside it is 0
unfoldable pub from_square_metres : Float → NewArea
from_square_metres x = area_if x (check_area x)

-- `Area::from_hectares`
unfoldable pub from_hectares : Float → NewArea
from_hectares x = from_square_metres (mul x hectare)

-- `Area::hectares`
unfoldable pub hectares : Area → Float
hectares a = div a.value hectare

-- opens every definition above, for a proof that computes with all of them
unfoldable pub open_areas : Unit {0}
unfolding check_area area_if from_square_metres from_hectares hectares
open_areas = tt
