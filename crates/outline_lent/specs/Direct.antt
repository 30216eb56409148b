-- The outline check without a stored outline, and what it answers where the ring goes to lent output. Assumes nothing.
use Rattle.std.specs.Prelude.{◌/◌, ◌%◌, cond, List, eqb, length, Float}
use Rattle.error.specs.declared.Refusal.{Refusal}
use Rattle.error.specs.declared.Refusal.TheVariants.{Odd}
use Rattle.error.specs.Refusals.{granted}
use Rattle.ring_check.specs.declared.Checked.{Checked}
use Rattle.ring_check.specs.Checks.{check_door, refused}
use Rattle.outline.specs.declared.NewOutline.{NewOutline}
use Rattle.outline.specs.Outlines.{check_finite}
use Rattle.outline_lent.specs.Writes.{ring_write, written_ring}
use Rattle.outline_lent.specs.declared.direct.Counted.{Counted}

unfoldable pub check_if : List Float → Refusal → Checked
check_if ps r = cond (granted r) (check_door 128 0 ps (length ps / 2)) (refused r)

-- questions 1, 2, 4 to 7, 27, 8 and 9 of numbers
unfoldable pub check_numbers : List Float → Checked
check_numbers ps = cond (eqb (length ps % 2) 0) (check_if ps (check_finite ps)) (refused Odd)

-- what the check of an outline answers, the shape left out
unfoldable pub counted : NewOutline → Counted
counted o = record { refusal = o.refusal; count = o.shape.count }

-- lent output: 20 is asked after the others
unfoldable pub outline_told : NewOutline → List Float → Refusal
outline_told o out = cond (granted o.refusal) (ring_write o.shape.points o.shape.count out) o.refusal

unfoldable pub told : NewOutline → List Float → Counted
told o out = record { refusal = outline_told o out; count = cond (granted (outline_told o out)) o.shape.count 0 }

-- the lent numbers afterwards
unfoldable pub over_outline : NewOutline → List Float → List Float
over_outline o out = cond (granted o.refusal) (written_ring o.shape.points o.shape.count out) out

-- opens every definition above, for a proof that computes with all of them
unfoldable pub open_direct : Unit {0}
unfolding check_if check_numbers counted outline_told told over_outline
open_direct = tt
