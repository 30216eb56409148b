-- R-1 in numbers: the collar that sits 0.2 from a spike of the sleeve. Proved in `proofs/GapExamples.antt`. Assumes nothing.
use Rattle.std.specs.Prelude.{ℕ, ◌≡◌, List, [], ◌∷◌, Float}
use Rattle.std.specs.Float.{nan, binary64}
use Rattle.std.specs.Float.Ieee.{of_bits}
use Rattle.math.specs.Number.{infinity}
use Rattle.ring_gap.specs.Gap.{least_gap, least_between}

-- a double by its bits
abbrev d : ℕ → Float
d bits = of_bits binary64 bits

-- (-3, 0), (3, 0), (3, -2), (-3, -2)
abbrev pub collar : List Float
collar =
    d 0xc008000000000000 ∷ d 0 ∷ d 0x4008000000000000 ∷ d 0 ∷ d 0x4008000000000000 ∷ d 0xc000000000000000 ∷
    d 0xc008000000000000 ∷ d 0xc000000000000000 ∷ []

-- (-5, 10), (-1, 6), (0, 0.2), (1, 6), (5, 10)
abbrev pub sleeve : List Float
sleeve =
    d 0xc014000000000000 ∷ d 0x4024000000000000 ∷ d 0xbff0000000000000 ∷ d 0x4018000000000000 ∷ d 0 ∷ d 0x3fc999999999999a ∷
    d 0x3ff0000000000000 ∷ d 0x4018000000000000 ∷ d 0x4014000000000000 ∷ d 0x4024000000000000 ∷ []

pub record GapExamples : Type 0 where
  -- 0.2, whichever is named first
  pub collar_sleeve : least_between collar 4 sleeve 5 ≡ d 0x3fc999999999999a
  pub sleeve_collar : least_between sleeve 5 collar 4 ≡ d 0x3fc999999999999a
  -- by the sleeve's vertices alone 0.2, by the collar's alone 2.9903617305345733
  pub by_the_sleeve : least_gap collar 4 sleeve 5 ≡ d 0x3fc999999999999a
  pub by_the_collar : least_gap sleeve 5 collar 4 ≡ d 0x4007ec42c55ed900
  -- a NaN is passed over; from a ring without a vertex it is infinity
  pub not_a_number : least_between collar 4 (d 0 ∷ d 0x3ff0000000000000 ∷ nan ∷ nan ∷ []) 2 ≡ d 0x3ff0000000000000
  pub no_ring : least_between collar 4 [] 0 ≡ infinity
