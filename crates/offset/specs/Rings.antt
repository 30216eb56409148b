-- polygon.rs, `offset_piece`: what a finished ring comes to. Shared by the offset of an outline and the inset of a region. Assumes nothing.
use Rattle.std.specs.Prelude.{ℕ, Bool, cond, ◌&&◌, List, Float}
use Rattle.std.specs.Float.Ieee.{le}
use Rattle.error.specs.declared.Refusal.{Refusal}
use Rattle.error.specs.declared.Refusal.TheVariants.{Splits}
use Rattle.ring_check.specs.declared.Checked.{Checked}
use Rattle.front.specs.declared.Walk.{Walk}
use Rattle.offset.specs.declared.Piece.{Piece}
use Rattle.offset.specs.declared.Piece.TheVariants.{Shrunk, Failed, Whole}
use Rattle.error.specs.Refusals.{granted, degenerate, offset_failure}
use Rattle.math.specs.Number.{abs, mul}
use Rattle.ring_measure.specs.Measures.{signed_area}
use Rattle.ring_check.specs.Checks.{check_ring}

-- questions 4 to 9 of a ring that an offset left, for a room; its number is its place among the finished rings
unfoldable pub check_piece : ℕ → ℕ → List Float → ℕ → Checked
check_piece room place ps n = check_ring room place ps n

-- a ring that shrank to nothing at the distance is refused by 7 or 8, and has next to no area
unfoldable pub vanished : List Float → ℕ → Float → Refusal → Bool
vanished ps n tolerance r = degenerate r && le (abs (signed_area ps n)) (mul tolerance tolerance)

unfoldable pub piece_by : Float → Float → Walk → Checked → Piece
piece_by d tolerance w c =
    cond (granted c.refusal) (Whole c.count c.back)
    (cond (vanished w.points w.count tolerance c.refusal) Shrunk (Failed (offset_failure d c.refusal)))

-- a ring that was lost on the way round is 17
unfoldable pub offset_piece : ℕ → ℕ → Float → Float → Walk → Piece
offset_piece room place d tolerance w =
    cond w.lost (Failed (Splits d)) (piece_by d tolerance w (check_piece room place w.points w.count))

-- opens every definition above, for a proof that computes with all of them
unfoldable pub open_rings : Unit {0}
unfolding check_piece vanished piece_by offset_piece
open_rings = tt
