-- R-10 of jobs: where a job asks for an inset, at a distance above 0, and is granted, every vertex handed back keeps the margin from every
-- edge that was drawn, be it one ring or more. Proved in `proofs/Jobs.antt`. Assumes nothing.
use Rattle.std.specs.Prelude.{ℕ, ◌+◌, ◌≡◌, true, false, List, T, Float}
use Rattle.std.specs.Float.{binary64}
use Rattle.std.specs.Float.Ieee.{fits, lt}
use Rattle.math.specs.Number.{zero_float}
use Rattle.error.specs.Refusals.{granted}
use Rattle.region.specs.Regions.{ring_points, ring_count}
use Rattle.job.specs.Jobs.{job}
use Rattle.margin.specs.Margin.{Doubles}
use Rattle.margin.specs.Drawn.{DrawnRings}

abbrev pub JobMargin : Type 0
JobMargin =
    (d : Float) (lengths : List ℕ) (ps : List Float) → Doubles ps → T (fits binary64 d) →
    granted (job false d lengths ps).refusal ≡ true → lt zero_float d ≡ true →
    DrawnRings d lengths ps ((job false d lengths ps).shape.holes + 1) (ring_points (job false d lengths ps).shape)
    (ring_count (job false d lengths ps).shape)
