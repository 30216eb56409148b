-- offset.rs, the thresholds, which the edge's type holds. Assumes nothing.
use Rattle.std.specs.Prelude.{Float}
use Rattle.std.specs.Float.{binary64}
use Rattle.std.specs.Float.Ieee.{of_bits}

-- `PARALLEL`: lines closer to parallel than this, by the sine of the angle, are parallel: 1e-12
abbrev pub parallel : Float
parallel = of_bits binary64 0x3d719799812dea11

-- `OPPOSITE`: neighbours that face opposite ways closer than this, by one plus the cosine, enclose nothing: 1e-12
abbrev pub opposite : Float
opposite = of_bits binary64 0x3d719799812dea11

-- `ON_EDGE`: the slack for a split point at the very end of the edge that it hits: 1e-9
abbrev pub on_edge : Float
on_edge = of_bits binary64 0x3e112e0be826d695

-- `TIE`: the relative offset within which two events count as simultaneous: 1e-12
abbrev pub tie : Float
tie = of_bits binary64 0x3d719799812dea11
