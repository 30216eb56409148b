-- R-7 in numbers. Proved in `proofs/DoorExamples.antt`. Assumes nothing.
use Rattle.std.specs.Prelude.{ℕ, ◌≡◌, List, [], ◌∷◌, Float}
use Rattle.std.specs.Float.{binary64}
use Rattle.std.specs.Float.Ieee.{of_bits}
use Rattle.error.specs.declared.Refusal.{Refusal}
use Rattle.error.specs.declared.Refusal.TheVariants.{Granted, Repeated, Flat, Crossed, Hairline}
use Rattle.ring_check.specs.Checks.{check_ring, check_door}

abbrev f : ℕ → Float
f bits = of_bits binary64 bits

-- 0, 4, 0.0000005
abbrev o : Float
o = f 0x0

abbrev four : Float
four = f 0x4010000000000000

abbrev hair : Float
hair = f 0x3ea0c6f7a0b5ed8d

-- (0, 0), (x, y), (u, v)
abbrev pub triangle : Float → Float → Float → Float → List Float
triangle x y u v = o ∷ o ∷ x ∷ y ∷ u ∷ v ∷ []

-- of n vertices as the outer ring, at the door and as a piece
abbrev pub at_door : List Float → ℕ → Refusal
at_door ps n = (check_door 128 0 ps n).refusal

abbrev pub as_piece : List Float → ℕ → Refusal
as_piece ps n = (check_ring 128 0 ps n).refusal

pub record DoorExamples : Type 0 where
  -- an edge of 0.000001 passes, and one of a bit less does not; a piece may have it
  pub bound : at_door (triangle (f 0x3eb0c6f7a0b5ed8d) o four four) 3 ≡ Granted
  pub below : at_door (triangle (f 0x3eb0c6f7a0b5ed8c) o four four) 3 ≡ Hairline 0
  pub below_piece : as_piece (triangle (f 0x3eb0c6f7a0b5ed8c) o four four) 3 ≡ Granted
  -- by the length and not by an axis: 0.0000007 east and north is too short, 0.000000708 is not
  pub slanted : at_door (triangle (f 0x3ea77cf44765195f) (f 0x3ea77cf44765195f) o four) 3 ≡ Hairline 0
  pub slanted_passes : at_door (triangle (f 0x3ea7c1ac7705b4ba) (f 0x3ea7c1ac7705b4ba) o four) 3 ≡ Granted
  -- 1e9, and the double before it
  pub far : at_door (f 0x41cdcd6500000000 ∷ o ∷ f 0x41cdcd64ffffffff ∷ o ∷ o ∷ four ∷ []) 3 ≡ Hairline 0
  -- the closing edge, of a hole that is ring 3: (0, 0), (4, 0), (4, 4), (0.0000005, 0)
  pub closing : (check_door 32 3 (o ∷ o ∷ four ∷ o ∷ four ∷ four ∷ hair ∷ o ∷ []) 4).refusal ≡ Hairline 3
  -- one closing repeat is dropped first, and of two the other one is 7
  pub closed : at_door (o ∷ o ∷ four ∷ o ∷ four ∷ four ∷ o ∷ o ∷ []) 4 ≡ Granted
  pub closed_twice : at_door (o ∷ o ∷ four ∷ o ∷ four ∷ four ∷ o ∷ o ∷ o ∷ o ∷ []) 5 ≡ Repeated 0
  -- 7 of a later edge comes before 27 of the first; 27 before 8 and before 9
  pub after_seven : at_door (o ∷ o ∷ hair ∷ o ∷ four ∷ four ∷ four ∷ four ∷ []) 4 ≡ Repeated 0
  pub before_eight : at_door (triangle hair o four o) 3 ≡ Hairline 0
  pub flat_piece : as_piece (triangle hair o four o) 3 ≡ Flat 0
  pub before_nine : at_door (o ∷ o ∷ hair ∷ o ∷ four ∷ four ∷ four ∷ o ∷ o ∷ four ∷ []) 5 ≡ Hairline 0
  pub crossed_piece : as_piece (o ∷ o ∷ hair ∷ o ∷ four ∷ four ∷ four ∷ o ∷ o ∷ four ∷ []) 5 ≡ Crossed 0 1 3
