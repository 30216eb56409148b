-- R-9 in numbers: rings of which rounded turns told something else. The first three go round clockwise, so they are stored backwards;
-- `check_simple` names edges in the stored order. Proved in `proofs/Examples.antt`. Assumes nothing.
use Rattle.std.specs.Prelude.{◌≡◌, true, false, List, [], ◌∷◌, ℕ, Float, None}
use Rattle.std.specs.Float.{binary64}
use Rattle.std.specs.Float.Ieee.{of_bits}
use Rattle.ring_cross.specs.EdgePairs.{edges}
use Rattle.ring_cross.specs.Simple.{check_simple}

abbrev pub d : ℕ → Float
d w = of_bits binary64 w

-- (2.6, 0.6), (0.1, 1.6), (1.5, 1.7), (1.85, 0.9)
abbrev pub dart : List Float
dart =
    d 0x4004cccccccccccd ∷ d 0x3fe3333333333333 ∷ d 0x3fb999999999999a ∷ d 0x3ff999999999999a ∷
    d 0x3ff8000000000000 ∷ d 0x3ffb333333333333 ∷ d 0x3ffd99999999999a ∷ d 0x3feccccccccccccd ∷ []

-- (0.8, 0.3), (1.4, 3), (1.6, 1.2), (1.2, 2.1)
abbrev pub crossed : List Float
crossed =
    d 0x3fe999999999999a ∷ d 0x3fd3333333333333 ∷ d 0x3ff6666666666666 ∷ d 0x4008000000000000 ∷
    d 0x3ff999999999999a ∷ d 0x3ff3333333333333 ∷ d 0x3ff3333333333333 ∷ d 0x4000cccccccccccd ∷ []

-- (0, 0), (0.31350552556601974, 0.3895051802474181), (4.389077357924276, 5.453072523463854), (4.702582883490296, 5.842577703711272),
-- (9, 0): edges 0 and 2 lie nearly on one line, some 6 apart
abbrev pub aligned : List Float
aligned =
    d 0 ∷ d 0 ∷ d 0x3fd410797adaf758 ∷ d 0x3fd8eda722b24178 ∷ d 0x40118e6a4b7f986d ∷ d 0x4015cff23e5bf94a ∷
    d 0x4012cf71e32d47e2 ∷ d 0x40175eccb0871d61 ∷ d 0x4022000000000000 ∷ d 0 ∷ []

-- (0.1, 0), (0.2, 0), (0.2, 0.1), (0.4, 0.3): edge 3 crosses edge 1 right below vertex 2
abbrev pub touching : List Float
touching =
    d 0x3fb999999999999a ∷ d 0 ∷ d 0x3fc999999999999a ∷ d 0 ∷
    d 0x3fc999999999999a ∷ d 0x3fb999999999999a ∷ d 0x3fd999999999999a ∷ d 0x3fd3333333333333 ∷ []

pub record SimpleExamples : Type 0 where
  -- rounded turns told 1 and 3, which are 0 and 2 of the ring as it was given
  pub dart_is_simple : check_simple dart 4 true ≡ None
  -- rounded turns told 0 and 3 here; 1 and 3 are 0 and 2 of the ring as it was given
  pub crossed_by : check_simple crossed 4 true ≡ edges 1 3
  -- rounded turns told 2 and 4
  pub aligned_is_simple : check_simple aligned 5 true ≡ None
  -- by rounded turns it was simple
  pub touching_itself : check_simple touching 4 false ≡ edges 1 3
