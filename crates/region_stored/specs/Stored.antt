-- A region handed in as it is written: the vertex count of each ring, and the numbers ring after ring, the outer one first. Question 21 is
-- asked of the counts and of each ring, and the rings are taken as they are. Assumes nothing.
use Rattle.std.specs.Prelude.{ℕ, ◌+◌, ◌-◌, ◌*◌, ◌≤◌, ◌<◌, ◌≡◌, Bool, true, false, cond, ◌&&◌, List, leb, get_or, drop, length, Float}
use Rattle.std.specs.Float.{nan}
use Rattle.error.specs.declared.Refusal.TheVariants.{Granted, Shape}
use Rattle.error.specs.Refusals.{granted}
use Rattle.base.specs.Loop.{rounds}
use Rattle.outline.specs.Outlines.{proper, stored_outline}
use Rattle.region.specs.declared.Region.{Region}
use Rattle.region.specs.declared.NewRegion.{NewRegion}
use Rattle.region.specs.Regions.{no_region, ring_points, ring_count, with_outer, with_hole}
use Rattle.region.specs.Checks.{total_step, total, lengths_fit, check_region, region_refused, region_if}
use Rattle.region.specs.Queries.{ask_region}

-- the numbers from ring k on; it has `get_or lengths k` vertices. It is `ring_in` of `margin`, a crate of theorems, which code does not
-- use: `SameRing` (margin_c/specs/Told.antt).
unfoldable pub ring_from : List ℕ → List Float → ℕ → List Float
ring_from lengths ps k = drop (2 * rounds (total_step lengths) k 0) ps

-- 21 of each hole, which is ring k + 1
unfoldable pub proper_holes_step : List ℕ → List Float → ℕ → Bool → Bool
proper_holes_step lengths ps k s = s && proper 32 (ring_from lengths ps (k + 1)) (get_or lengths (k + 1) 0)

unfoldable pub proper_holes : List ℕ → List Float → Bool
proper_holes lengths ps = rounds (proper_holes_step lengths ps) (length lengths - 1) true

-- 21 of the counts and of each ring: an even count, at least one ring, lengths that add up, then ring by ring
unfoldable pub kept : List ℕ → List Float → Bool
kept lengths ps = lengths_fit lengths ps && (proper 128 ps (get_or lengths 0 0) && proper_holes lengths ps)

-- the rings as they are: none is reversed, and no vertex dropped
unfoldable pub rings_step : List ℕ → List Float → ℕ → Region → Region
rings_step lengths ps k r = with_hole r (ring_from lengths ps (k + 1)) (get_or lengths (k + 1) 0) false

unfoldable pub rings : List ℕ → List Float → Region
rings lengths ps =
    rounds (rings_step lengths ps) (length lengths - 1) (with_outer no_region (stored_outline ps (get_or lengths 0 0) false))

-- a region as it was written: 21 alone, of more than 8 holes, too. 11 and 12 are not asked
unfoldable pub stored_region : List ℕ → List Float → NewRegion
stored_region lengths ps =
    cond (kept lengths ps && leb (length lengths) 9) (record { refusal = Granted; shape = rings lengths ps }) (region_refused Shape)

-- what 21 refuses is the empty region, of which 21 is the answer to every question; what it grants passes 21 again. Proved in
-- `proofs/Again.antt`.
abbrev pub StoredAsked : Type 0
StoredAsked =
    (lengths : List ℕ) (ps : List Float) →
    (stored_region lengths ps).refusal ≡ ask_region (stored_region lengths ps).shape Granted

-- the region of given outlines: 21, then 10 to 12
unfoldable pub given_region : List ℕ → List Float → NewRegion
given_region lengths ps =
    cond (kept lengths ps) (region_if (rings lengths ps) (check_region (rings lengths ps))) (region_refused Shape)

-- What is granted is what was handed in: the counts add up to the numbers, and each ring has its count and its numbers.
pub record AsHanded (lengths : List ℕ) (ps : List Float) (r : Region) : Type 0 where
  pub sum : 2 * total lengths ≡ length ps
  pub rings : length lengths ≡ r.holes + 1
  pub counts : (k : ℕ) → k ≤ r.holes → ring_count r k ≡ get_or lengths k 0
  pub numbers : (k i : ℕ) → k ≤ r.holes → i < 2 * get_or lengths k 0 →
      get_or (ring_points r k) i nan ≡ get_or (ring_from lengths ps k) i nan

-- So an odd count, no ring and counts that do not add up are refused. Proved in `proofs/AsStored.antt`.
abbrev pub StoredAsHanded : Type 0
StoredAsHanded = (lengths : List ℕ) (ps : List Float) → let a = stored_region lengths ps in
    granted a.refusal ≡ true → AsHanded lengths ps a.shape

abbrev pub GivenAsHanded : Type 0
GivenAsHanded = (lengths : List ℕ) (ps : List Float) → let a = given_region lengths ps in
    granted a.refusal ≡ true → AsHanded lengths ps a.shape

-- opens every definition above, for a proof that computes with all of them
unfoldable pub open_stored : Unit {0}
unfolding ring_from proper_holes_step proper_holes kept rings_step rings stored_region given_region
open_stored = tt
