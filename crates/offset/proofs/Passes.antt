-- A piece that is whole is a ring that passes 4 to 9. Assumes nothing.
use Prim.Native.Nat.{ℕ}
use mathlib.Core.Path.{◌≡◌}
use mathlib.Core.Bool.{true, false}
use mathlib.Core.List.{List}
use lib.Ieee.{Float}
use Rattle.error.specs.declared.Refusal.TheVariants.{Splits}
use Rattle.ring_check.specs.declared.Checked.{Checked}
use Rattle.front.specs.declared.Walk.{Walk}
use Rattle.offset.specs.declared.Piece.{Piece}
use Rattle.offset.specs.declared.Piece.TheVariants.{Shrunk, Failed, Whole}
use Rattle.error.specs.Refusals.{granted, offset_failure}
use Rattle.ring_check.proofs.Sound.{Passed, check_sound}
use Rattle.base.proofs.Choices.{by_test}
use Rattle.base.proofs.Choices.{both}
use Rattle.offset.specs.Rings.{check_piece, vanished, piece_by, offset_piece}

abbrev pub PassedPiece : ℕ → Walk → Piece → Type 0
PassedPiece room w Shrunk = Unit {0}
PassedPiece room w (Failed r) = Unit {0}
PassedPiece room w (Whole n back) = Passed room w.points w.count n back

-- questions 4 to 9 of a piece
check_piece_sound : (room place : ℕ) (ps : List Float) (n : ℕ) → granted (check_piece room place ps n).refusal ≡ true
    → Passed room ps n (check_piece room place ps n).count (check_piece room place ps n).back
unfolding check_piece
check_piece_sound room place ps n h = check_sound false room place ps n h

pub piece_sound : (room place : ℕ) (d tolerance : Float) (w : Walk) → PassedPiece room w (offset_piece room place d tolerance w)
unfolding offset_piece piece_by
piece_sound room place d tolerance w =
    let c : Checked = check_piece room place w.points w.count in
    both (PassedPiece room w) w.lost {x = Failed (Splits d)} tt
    (by_test (PassedPiece room w) (granted c.refusal) {x = Whole c.count c.back} (λ h. check_piece_sound room place w.points w.count h)
    (λ h. both (PassedPiece room w) (vanished w.points w.count tolerance c.refusal) {x = Shrunk} {y = Failed (offset_failure d c.refusal)} tt tt))
