-- R-7 of what is accepted: "An outline or hole that comes in from outside is refused when an edge is shorter than 0.000001 by the length
-- function." So no ring of an accepted outline, region or job has such an edge, as it was drawn, the closing one included and a closing
-- repeat dropped. Proved in `proofs/Hairlines.antt`. Assumes nothing.
use Rattle.std.specs.Prelude.{ℕ, ◌/◌, ◌<◌, ◌≡◌, Bool, true, false, List, get_or, length, Float}
use Rattle.error.specs.Refusals.{granted}
use Rattle.ring_check.specs.Checks.{kept, short_edge}
use Rattle.outline.specs.Outlines.{outline}
use Rattle.region.specs.Checks.{region}
use Rattle.job.specs.Jobs.{job}
use Rattle.margin.specs.Lent.{ring_in}

-- of n vertices that were drawn
abbrev pub NoHairline : List Float → ℕ → Type 0
NoHairline ps n = (k : ℕ) → k < kept ps n → short_edge ps (kept ps n) k ≡ false

abbrev pub OutlineNoHairline : Type 0
OutlineNoHairline = (ps : List Float) → granted (outline ps).refusal ≡ true → NoHairline ps (length ps / 2)

-- ring l is the outer one, or hole l - 1
abbrev pub RegionNoHairline : Type 0
RegionNoHairline =
    (lengths : List ℕ) (ps : List Float) → granted (region lengths ps).refusal ≡ true → (l : ℕ) → l < length lengths →
    NoHairline (ring_in lengths ps l) (get_or lengths l 0)

-- whatever its distance, inset or outset
abbrev pub JobNoHairline : Type 0
JobNoHairline =
    (outward : Bool) (d : Float) (lengths : List ℕ) (ps : List Float) → granted (job outward d lengths ps).refusal ≡ true →
    (l : ℕ) → l < length lengths → NoHairline (ring_in lengths ps l) (get_or lengths l 0)
