-- No check of a ring and no piece is refused by 18. Assumes nothing.
use Prim.Native.Nat.{ℕ}
use mathlib.Core.Logic.{◌≢◌}
use mathlib.Core.Bool.{Bool, false}
use mathlib.Core.List.{List}
use native.Mathlib.Omega.{arith}
use lib.Dec.{ltb, eqb}
use lib.Ieee.{Float, lt}
use Rattle.plane.specs.declared.PlanarPoint.{PlanarPoint}
use Rattle.error.specs.declared.Refusal.{Refusal}
use Rattle.error.specs.declared.Refusal.TheVariants.{Granted, Few, Repeated, Flat, Splits, Collapses}
use Rattle.ring_check.specs.declared.Checked.{Checked}
use Rattle.std.specs.Prelude.{Option, None, Some}
use Rattle.ring_cross.specs.declared.EdgePair.{EdgePair}
use Rattle.front.specs.declared.Walk.{Walk}
use Rattle.offset.specs.declared.Piece.{Piece}
use Rattle.offset.specs.declared.Piece.TheVariants.{Shrunk, Failed, Whole}
use Rattle.error.specs.Refusals.{number, values, granted, degenerate, offset_failure}
use Rattle.math.specs.Number.{zero_float}
use Rattle.ring.specs.Ring.{vertex_at}
use Rattle.ring_measure.specs.Measures.{signed_area, span}
use Rattle.ring_cross.specs.Simple.{check_simple}
use Rattle.ring_check.specs.Checks.{kept, beyond, vertex_refusal, range_step, check_range, repeats, flat, crossed, refused, passed, check_reversed, check_area, check_shape, check_in_range, check_kept, check_by}
use Rattle.base.proofs.Laws.{rounds_keep}
use Rattle.base.proofs.Choices.{both}
use Rattle.offset.specs.Rings.{check_piece, vanished, piece_by, offset_piece}

pub record Other (r : Refusal) : Type 0 where
  pub no : number r ≢ 18

record OtherCheck (c : Checked) : Type 0 where
  other : Other c.refusal

pub granted_other : Other Granted
unfolding number values
granted_other = record { no = λ q. omega arith }

pub splits_other : (d : Float) → Other (Splits d)
unfolding number values
splits_other d = record { no = λ q. omega arith }

pub collapses_other : (d : Float) → Other (Collapses d)
unfolding number values
collapses_other d = record { no = λ q. omega arith }

-- ---- questions 4 to 9

vertex_other : (room ring n k : ℕ) (v : PlanarPoint) → Other (vertex_refusal room ring n k v)
unfolding vertex_refusal number values
vertex_other room ring n k v =
    both Other (beyond v.east) (record { no = λ q. omega arith })
    (both Other (beyond v.north) (record { no = λ q. omega arith }) (both Other (ltb k room) granted_other (record { no = λ q. omega arith })))

range_other : (room ring : ℕ) (ps : List Float) (n : ℕ) → Other (check_range room ring ps n)
unfolding check_range range_step
range_other room ring ps n =
    rounds_keep (range_step room ring ps n) (λ k r. Other r) Granted granted_other
    (λ k r h. both Other (granted r) (vertex_other room ring n k (vertex_at ps k)) h) n

crossed_other : (ring n : ℕ) (back : Bool) (c : Option EdgePair) → Other (crossed ring n back c)
unfolding crossed number values
crossed_other ring n back None = granted_other
crossed_other ring n back (Some p) = both Other back (record { no = λ q. omega arith }) (record { no = λ q. omega arith })

refused_other : (r : Refusal) → Other r → OtherCheck (refused r)
unfolding refused
refused_other r h = record { other = h }

reversed_other : (ring : ℕ) (ps : List Float) (n : ℕ) (back : Bool) → OtherCheck (check_reversed ring ps n back)
unfolding check_reversed passed
reversed_other ring ps n back =
    let r : Refusal = crossed ring n back (check_simple ps n back) in
    both OtherCheck (granted r) (record { other = granted_other }) (refused_other r (crossed_other ring n back (check_simple ps n back)))

shape_other : (ring : ℕ) (ps : List Float) (n : ℕ) → OtherCheck (check_shape false ring ps n)
unfolding check_shape check_area number values
shape_other ring ps n =
    both OtherCheck (repeats ps n) (refused_other (Repeated ring) (record { no = λ q. omega arith }))
    (both OtherCheck (flat (signed_area ps n) (span ps n)) (refused_other (Flat ring) (record { no = λ q. omega arith }))
    (reversed_other ring ps n (lt (signed_area ps n) zero_float)))

kept_other : (room ring : ℕ) (ps : List Float) (n : ℕ) → OtherCheck (check_kept false room ring ps n)
unfolding check_kept check_in_range number values
kept_other room ring ps n =
    both OtherCheck (ltb n 3) (refused_other (Few ring n) (record { no = λ q. omega arith }))
    (both OtherCheck (granted (check_range room ring ps n)) (shape_other ring ps n)
    (refused_other (check_range room ring ps n) (range_other room ring ps n)))

-- ---- a piece

failure_other : (d : Float) (r : Refusal) → Other r → Other (offset_failure d r)
unfolding offset_failure
failure_other d r h = both Other (degenerate r) (collapses_other d) (both Other (eqb (number r) 9) (splits_other d) h)

abbrev pub OtherPiece : Piece → Type 0
OtherPiece Shrunk = Unit {0}
OtherPiece (Failed r) = Other r
OtherPiece (Whole n back) = Unit {0}

by_other : (d tolerance : Float) (w : Walk) (c : Checked) → OtherCheck c → OtherPiece (piece_by d tolerance w c)
unfolding piece_by
by_other d tolerance w c h =
    both OtherPiece (granted c.refusal) {x = Whole c.count c.back} tt
    (both OtherPiece (vanished w.points w.count tolerance c.refusal) {x = Shrunk} {y = Failed (offset_failure d c.refusal)} tt (failure_other d c.refusal h.other))

check_piece_other : (room place : ℕ) (ps : List Float) (n : ℕ) → OtherCheck (check_piece room place ps n)
unfolding check_piece check_by
check_piece_other room place ps n = kept_other room place ps (kept ps n)

pub piece_other : (room place : ℕ) (d tolerance : Float) (w : Walk) → OtherPiece (offset_piece room place d tolerance w)
unfolding offset_piece
piece_other room place d tolerance w =
    both OtherPiece w.lost {x = Failed (Splits d)} (splits_other d)
    (by_other d tolerance w (check_piece room place w.points w.count) (check_piece_other room place w.points w.count))
