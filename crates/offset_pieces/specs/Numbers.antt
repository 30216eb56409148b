-- `offset_piece`, of a ring given by its numbers. Assumes nothing.
use Rattle.std.specs.Prelude.{ℕ, Bool, cond, List, Float}
use Rattle.error.specs.declared.Refusal.TheVariants.{Splits}
use Rattle.error.specs.Refusals.{granted, offset_failure}
use Rattle.ring_check.specs.declared.Checked.{Checked}
use Rattle.ring_check.specs.Checks.{check_ring}
use Rattle.offset.specs.declared.Piece.{Piece}
use Rattle.offset.specs.declared.Piece.TheVariants.{Shrunk, Failed, Whole}
use Rattle.offset.specs.Rings.{vanished}

unfoldable pub checked_piece : Float → Float → List Float → ℕ → Checked → Piece
checked_piece d tolerance ps n c =
    cond (granted c.refusal) (Whole c.count c.back)
    (cond (vanished ps n tolerance c.refusal) Shrunk (Failed (offset_failure d c.refusal)))

unfoldable pub ring_piece : ℕ → ℕ → Float → Float → Bool → List Float → ℕ → Piece
ring_piece room place d tolerance lost ps n = cond lost (Failed (Splits d)) (checked_piece d tolerance ps n (check_ring room place ps n))

-- opens every definition above, for a proof that computes with all of them
unfoldable pub open_numbers : Unit {0}
unfolding checked_piece ring_piece
open_numbers = tt
