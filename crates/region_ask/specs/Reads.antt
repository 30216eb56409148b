-- The outer ring of a region handed in, as an outline. An outline's numbers are 256; a list of another length is filled up with 0 or cut
-- off. Assumes nothing.
use Rattle.std.specs.Prelude.{ℕ, ◌≡◌, List, length, replicate, Float}
use Rattle.outline.specs.declared.Outline.{Outline}
use Rattle.outline.specs.declared.NewOutline.{NewOutline}
use Rattle.region.specs.declared.Region.{Region}
use Rattle.math.specs.Number.{zero_float}
use Rattle.base.specs.Loop.{rounds}
use Rattle.outline_lent.specs.Writes.{write_step}
use Rattle.region.specs.Queries.{read_outline, region_outer}

unfoldable pub outline_as : List Float → ℕ → Outline
outline_as ps n = record { points = rounds (write_step ps 0) (length ps) (replicate 256 zero_float); count = n }

-- holes.rs, `outer`
unfoldable pub outer_of : Region → NewOutline
outer_of r = read_outline r (outline_as r.outer.points r.outer.count)

-- 256 numbers are read as they are. Proved in `proofs/Whole.antt`.
abbrev pub OuterWhole : Type 0
OuterWhole = (r : Region) → length r.outer.points ≡ 256 → outer_of r ≡ region_outer r

-- opens every definition above, for a proof that computes with all of them
unfoldable pub open_reads : Unit {0}
unfolding outline_as outer_of
open_reads = tt
