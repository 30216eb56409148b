-- R-7 in numbers: "so an inset with a hairline can be inset again". (0, 0), (4, 0), (4, 4), (1, 4), (0, 3) inset by 1.7071065 has an edge
-- of 2.3e-7. Drawn anew it is refused with 27; as it is it can be inset. Proved in `proofs/Again.antt`. Assumes nothing.
use Rattle.std.specs.Prelude.{◌≡◌, List, [], ◌∷◌, Float}
use Rattle.std.specs.Float.{binary64}
use Rattle.std.specs.Float.Ieee.{of_bits}
use Rattle.outline.specs.Outlines.{outline}
use Rattle.offset.specs.Offsets.{inset}
use Rattle.examples.specs.Table.{rings, outline_of, inset_of, offset_answer, answer, w, no}

unfoldable pub drawn : List Float
drawn = w 0 ∷ w 0 ∷ w 4 ∷ w 0 ∷ w 4 ∷ w 4 ∷ w 1 ∷ w 4 ∷ w 0 ∷ w 3 ∷ []

-- 1.7071065 and 0.1
unfoldable pub margin : Float
margin = of_bits binary64 0x3ffb504ee7c49fd8

unfoldable pub tenth : Float
tenth = of_bits binary64 0x3fb999999999999a

unfoldable pub cage : List Float
cage =
    of_bits binary64 0x3ffb504ee7c49fd8 ∷ of_bits binary64 0x3ffb504ee7c49fd8 ∷
    of_bits binary64 0x400257d88c1db014 ∷ of_bits binary64 0x3ffb504ee7c49fd8 ∷
    of_bits binary64 0x400257d88c1db014 ∷ of_bits binary64 0x400257d88c1db014 ∷
    of_bits binary64 0x3ffb504f13fbc572 ∷ of_bits binary64 0x400257d88c1db014 ∷
    of_bits binary64 0x3ffb504ee7c49fd8 ∷ of_bits binary64 0x400257d876021d47 ∷ []

-- its inset by 0.1, a square
unfoldable pub inner : List Float
inner =
    of_bits binary64 0x3ffce9e8815e3972 ∷ of_bits binary64 0x3ffce9e8815e3972 ∷
    of_bits binary64 0x40018b0bbf50e347 ∷ of_bits binary64 0x3ffce9e8815e3972 ∷
    of_bits binary64 0x40018b0bbf50e347 ∷ of_bits binary64 0x40018b0bbf50e347 ∷
    of_bits binary64 0x3ffce9e8815e3972 ∷ of_bits binary64 0x40018b0bbf50e347 ∷ []

pub record Again : Type 0 where
  -- the piece that an offset leaves may have a hairline
  pub accepted : answer (inset_of drawn margin) ≡ rings (cage ∷ []) (0 ∷ 0 ∷ 0 ∷ [])
  -- a drawing may not
  pub outside : answer (outline_of cage) ≡ no 27 (0 ∷ []) [] [] []
  -- a shape handed in may
  pub again : offset_answer (inset (inset (outline drawn).shape margin).shape tenth) ≡ rings (inner ∷ []) (1 ∷ 0 ∷ 0 ∷ [])
