-- R-10 of the functions for C. The `refusal` of an answer is 0 where nothing is refused. Then, at a distance above 0, what `lw_inset`,
-- `lw_region_inset` or `lw_stored_region_inset` has written to `out` keeps the margin: each vertex, from each edge of the numbers handed
-- in, the one that closes a ring, those at a closing repeat and those of the holes too. The largest absolute coordinate is that of the
-- numbers handed in. What is written is counted by the answer: by its `count`, or by its `rings` and `counts`. Proved in
-- `proofs/Told.antt`. Assumes nothing.
use Rattle.std.specs.Prelude.{ℕ, ◌≡◌, true, false, List, T, get_or, length, Float}
use Rattle.std.specs.Float.{binary64}
use Rattle.std.specs.Float.Ieee.{fits, lt}
use Rattle.math.specs.Number.{zero_float}
use Rattle.margin.specs.Margin.{Doubles}
use Rattle.margin.specs.Lent.{ring_in}
use Rattle.margin.specs.Drawn.{DrawnMargin, DrawnRings}
use Rattle.region_stored.specs.Stored.{ring_from}
use Rattle.told.specs.Told.{vertices}
use Rattle.region_c.specs.Told.{lw_region_inset, lw_region_inset_out, lw_stored_region_inset, lw_stored_region_inset_out}
use Rattle.lizardwire_c.specs.Exports.{lw_offset, lw_offset_out}

-- ---- `lw_inset` of the numbers ps

abbrev pub LwInsetMargin : Type 0
LwInsetMargin =
    (ps : List Float) (d : Float) (out : List Float) → Doubles ps → T (fits binary64 d) →
    (lw_offset false ps d out).refusal ≡ 0 → lt zero_float d ≡ true →
    DrawnMargin d ps (vertices (length ps)) (lw_offset_out false ps d out) (lw_offset false ps d out).count

-- ---- `lw_region_inset` of the numbers ps in rings of these lengths

abbrev pub LwRegionInsetMargin : Type 0
LwRegionInsetMargin =
    (lengths : List ℕ) (ps : List Float) (d : Float) (out : List Float) → Doubles ps → T (fits binary64 d) →
    (lw_region_inset lengths ps d out).refusal ≡ 0 → lt zero_float d ≡ true →
    DrawnRings d lengths ps (lw_region_inset lengths ps d out).rings
    (ring_in (lw_region_inset lengths ps d out).counts (lw_region_inset_out lengths ps d out))
    (λ k. get_or (lw_region_inset lengths ps d out).counts k 0)

-- ---- `lw_stored_region_inset` of a region that is handed in as it is written

abbrev pub LwStoredInsetMargin : Type 0
LwStoredInsetMargin =
    (lengths : List ℕ) (ps : List Float) (d : Float) (out : List Float) → Doubles ps → T (fits binary64 d) →
    (lw_stored_region_inset lengths ps d out).refusal ≡ 0 → lt zero_float d ≡ true →
    DrawnRings d lengths ps (lw_stored_region_inset lengths ps d out).rings
    (ring_in (lw_stored_region_inset lengths ps d out).counts (lw_stored_region_inset_out lengths ps d out))
    (λ k. get_or (lw_stored_region_inset lengths ps d out).counts k 0)

-- ---- ring k of numbers that are handed in is ring k of numbers that are written

abbrev pub SameRing : Type 0
SameRing = (lengths : List ℕ) (ps : List Float) (k : ℕ) → ring_from lengths ps k ≡ ring_in lengths ps k
