-- The refusals: for each case the number and the values that the scope gives it, and which the offset of a piece turns into another.
-- Assumes nothing.
use Rattle.std.specs.Prelude.{ℕ, Bool, cond, ◌||◌, eqb, List, [], ◌∷◌, Float}
use Rattle.error.specs.declared.Refusal.{Refusal}
use Rattle.error.specs.declared.Refusal.TheVariants.{Granted, Odd, NotFinite, Lengths, Few, Range, Room, Repeated, Flat, Crossed}
use Rattle.error.specs.declared.Refusal.TheVariants.{ManyHoles, HoleOutside, HolesTouch, Far, Negative, Slots, Collapses, Splits}
use Rattle.error.specs.declared.Refusal.TheVariants.{Unfinished, ManyPieces, Short, Shape, Job, Hairline}

-- what a refusal stands for: the question's number, the ring's number in 4 to 9 and 27, the whole numbers and the float that it carries
pub record Values : Type 0 where
  pub question : ℕ
  pub ring : List ℕ
  pub wholes : List ℕ
  pub floats : List Float

-- 2 the index; 4 the count found; 5 the value; 6 needed and room; 9 the two edges; 10 the holes given; 11 the hole; 12 the two holes; 14,
-- 16, 17 the distance; 15 and 20 what is needed; 18 the events and what remained; 19 the hole pieces needed. `Granted`: nothing is refused.
unfoldable pub values : Refusal → Values
values Granted = record { question = 0; ring = []; wholes = []; floats = [] }
values Odd = record { question = 1; ring = []; wholes = []; floats = [] }
values (NotFinite index) = record { question = 2; ring = []; wholes = index ∷ []; floats = [] }
values Lengths = record { question = 3; ring = []; wholes = []; floats = [] }
values (Few ring found) = record { question = 4; ring = ring ∷ []; wholes = found ∷ []; floats = [] }
values (Range ring value) = record { question = 5; ring = ring ∷ []; wholes = []; floats = value ∷ [] }
values (Room ring needed room) = record { question = 6; ring = ring ∷ []; wholes = needed ∷ room ∷ []; floats = [] }
values (Repeated ring) = record { question = 7; ring = ring ∷ []; wholes = []; floats = [] }
values (Flat ring) = record { question = 8; ring = ring ∷ []; wholes = []; floats = [] }
values (Crossed ring first second) = record { question = 9; ring = ring ∷ []; wholes = first ∷ second ∷ []; floats = [] }
values (ManyHoles holes) = record { question = 10; ring = []; wholes = holes ∷ []; floats = [] }
values (HoleOutside hole) = record { question = 11; ring = []; wholes = hole ∷ []; floats = [] }
values (HolesTouch first second) = record { question = 12; ring = []; wholes = first ∷ second ∷ []; floats = [] }
values Far = record { question = 13; ring = []; wholes = []; floats = [] }
values (Negative distance) = record { question = 14; ring = []; wholes = []; floats = distance ∷ [] }
values (Slots needed) = record { question = 15; ring = []; wholes = needed ∷ []; floats = [] }
values (Collapses distance) = record { question = 16; ring = []; wholes = []; floats = distance ∷ [] }
values (Splits distance) = record { question = 17; ring = []; wholes = []; floats = distance ∷ [] }
values (Unfinished events residual) = record { question = 18; ring = []; wholes = events ∷ []; floats = residual ∷ [] }
values (ManyPieces needed) = record { question = 19; ring = []; wholes = needed ∷ []; floats = [] }
values (Short needed) = record { question = 20; ring = []; wholes = needed ∷ []; floats = [] }
values Shape = record { question = 21; ring = []; wholes = []; floats = [] }
values Job = record { question = 22; ring = []; wholes = []; floats = [] }
values (Hairline ring) = record { question = 27; ring = ring ∷ []; wholes = []; floats = [] }

-- the question's number; 0 where nothing is refused
unfoldable pub number : Refusal → ℕ
number r = (values r).question

unfoldable pub granted : Refusal → Bool
granted r = eqb (number r) 0

-- error.rs, `Degenerate`: 7 and 8, a ring with nothing inside
unfoldable pub degenerate : Refusal → Bool
degenerate r = eqb (number r) 7 || eqb (number r) 8

-- polygon.rs, `offset_failure`: of a piece of an offset by d, 7 and 8 become 16, and 9 becomes 17. Any other stays.
unfoldable pub offset_failure : Float → Refusal → Refusal
offset_failure d r = cond (degenerate r) (Collapses d) (cond (eqb (number r) 9) (Splits d) r)

-- holes.rs, `Region::inset`: of the new region, 11 and 12 become 17. Any other stays.
unfoldable pub region_failure : Float → Refusal → Refusal
region_failure d r = cond (eqb (number r) 11 || eqb (number r) 12) (Splits d) r

-- opens every definition above, for a proof that computes with all of them
unfoldable pub open_refusals : Unit {0}
unfolding values number granted degenerate offset_failure region_failure
open_refusals = tt
