-- What a finished ring comes to, branch by branch of the code. Assumes nothing.
use Prim.Native.Nat.{ℕ}
use mathlib.Core.Bool.{Bool, true, false, cond, ◌&&◌}
use mathlib.Core.List.{List}
use mathlib.Core.Path.{◌≡◌, refl, sym, ap, ◌∙◌, subst}
use lib.Dec.{eqb}
use lib.Ieee.{Float, le}
use Rattle.error.specs.declared.Refusal.{Refusal}
use Rattle.error.specs.declared.Refusal.TheVariants.{Splits, Collapses}
use Rattle.error.specs.Refusals.{values, number, granted, degenerate, offset_failure}
use Rattle.math.specs.Number.{abs, mul}
use Rattle.ring_measure.specs.Measures.{signed_area}
use Rattle.ring_check.specs.declared.Checked.{Checked}
use Rattle.ring_check.specs.Checks.{check_ring}
use Rattle.front.specs.declared.Walk.{Walk}
use Rattle.offset.specs.declared.Piece.{Piece}
use Rattle.offset.specs.declared.Piece.TheVariants.{Shrunk, Failed, Whole}
use Rattle.offset.specs.Rings.{check_piece, vanished, piece_by, offset_piece}
use Rattle.offset_pieces.specs.Numbers.{checked_piece, ring_piece}

module _ (ps : List Float) (n : ℕ) (tolerance : Float) (r : Refusal) (b : Bool) (is : b ≡ degenerate r) where
  pub vanished_by : (area size : Float) → b ≡ true → area ≡ signed_area ps n → size ≡ abs area → le size (mul tolerance tolerance) ≡ vanished ps n tolerance r
  unfolding vanished
  vanished_by area size h e i =
      ap (λ (z : Float). le z (mul tolerance tolerance)) (i ∙ ap abs e) ∙
      sym (ap (λ (z : Bool). z && le (abs (signed_area ps n)) (mul tolerance tolerance)) (sym is ∙ h))

  pub not_vanished : b ≡ false → false ≡ vanished ps n tolerance r
  unfolding vanished
  not_vanished h = sym (ap (λ (z : Bool). z && le (abs (signed_area ps n)) (mul tolerance tolerance)) (sym is ∙ h))

module _ (d tolerance : Float) (ps : List Float) (n : ℕ) (c : Checked) (b : Bool) (is : b ≡ granted c.refusal) where
  pub piece_whole : b ≡ true → Whole c.count c.back ≡ checked_piece d tolerance ps n c
  unfolding checked_piece
  piece_whole h = rw (sym is ∙ h) refl

  module _ (left : b ≡ false) (v : Bool) (gone : v ≡ vanished ps n tolerance c.refusal) where
    pub piece_shrunk : v ≡ true → Shrunk ≡ checked_piece d tolerance ps n c
    unfolding checked_piece
    piece_shrunk h = rw (sym is ∙ left, sym gone ∙ h) refl

    pub piece_failed : (f : Refusal) → v ≡ false → f ≡ offset_failure d c.refusal → Failed f ≡ checked_piece d tolerance ps n c
    unfolding checked_piece
    piece_failed f h e = rw (sym is ∙ left, sym gone ∙ h) (ap Failed e)

-- a ring by its numbers, and as it was walked
pub ring_piece_is : (room place : ℕ) (d tolerance : Float) (w : Walk) (x y : Piece) →
    x ≡ ring_piece room place d tolerance w.lost w.points w.count → x ≡ y → offset_piece room place d tolerance w ≡ y
unfolding offset_piece piece_by check_piece ring_piece checked_piece
ring_piece_is room place d tolerance w x y e h = sym e ∙ h

-- ---- a ring that failed is refused

unfoldable Refuses : Piece → Type 0
Refuses Shrunk = Unit
Refuses (Failed r) = granted r ≡ false
Refuses (Whole n back) = Unit

failure_refuses : (d : Float) (r : Refusal) → granted r ≡ false → granted (offset_failure d r) ≡ false
unfolding offset_failure granted number values
failure_refuses d r h = go (degenerate r) (eqb (number r) 9)
  where
    go : (a b : Bool) → granted (cond a (Collapses d) (cond b (Splits d) r)) ≡ false
    go true b = refl
    go false true = refl
    go false false = h

checked_refuses : (d tolerance : Float) (ps : List Float) (n : ℕ) (c : Checked) → Refuses (checked_piece d tolerance ps n c)
unfolding checked_piece Refuses
checked_refuses d tolerance ps n c = go (granted c.refusal) refl (vanished ps n tolerance c.refusal)
  where
    go : (a : Bool) → granted c.refusal ≡ a → (b : Bool) → Refuses (cond a (Whole c.count c.back) (cond b Shrunk (Failed (offset_failure d c.refusal))))
    go true h b = tt
    go false h true = tt
    go false h false = failure_refuses d c.refusal h

piece_refuses : (room place : ℕ) (d tolerance : Float) (lost : Bool) (ps : List Float) (n : ℕ) → Refuses (ring_piece room place d tolerance lost ps n)
unfolding ring_piece Refuses granted number values
piece_refuses room place d tolerance true ps n = refl
piece_refuses room place d tolerance false ps n = checked_refuses d tolerance ps n (check_ring room place ps n)

pub failed_refuses : (room place : ℕ) (d tolerance : Float) (lost : Bool) (ps : List Float) (n : ℕ) (x : Piece) (r : Refusal) →
    x ≡ ring_piece room place d tolerance lost ps n → x ≡ Failed r → granted r ≡ false
unfolding Refuses
failed_refuses room place d tolerance lost ps n x r e h = subst Refuses (sym e ∙ h) (piece_refuses room place d tolerance lost ps n)
