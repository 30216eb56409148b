-- The rings of a region handed in, numbered from the outer one. Assumes nothing.
use Rattle.std.specs.Prelude.{ℕ, zero, suc, ◌+◌, ◌*◌, ◌≤◌, List, get_or, drop, set, replicate, Float}
use Rattle.error.specs.declared.Refusal.TheVariants.{Granted}
use Rattle.base.specs.Loop.{rounds}
use Rattle.region.specs.declared.Region.{Region}
use Rattle.region.specs.declared.RegionWritten.{RegionWritten}
use Rattle.region.specs.Queries.{ask_region, rings_told}

-- ring 0 is the outer one, ring k + 1 is hole k

unfoldable pub count_of : ℕ → List ℕ → ℕ → ℕ
count_of n cs zero = n
count_of n cs (suc k) = get_or cs k 0

unfoldable pub points_of : List Float → List Float → ℕ → List Float
points_of ps hs zero = ps
points_of ps hs (suc k) = drop (64 * k) hs

-- the vertices of the rings before ring k
unfoldable pub before_of_step : ℕ → List ℕ → ℕ → ℕ → ℕ
before_of_step n cs k s = s + count_of n cs k

unfoldable pub before_of : ℕ → List ℕ → ℕ → ℕ
before_of n cs k = rounds (before_of_step n cs) k 0

-- the vertices of each ring, for nine rings
unfoldable pub counts_of_step : ℕ → List ℕ → ℕ → List ℕ → List ℕ
counts_of_step n cs k s = set s k (count_of n cs k)

unfoldable pub counts_of : ℕ → List ℕ → ℕ → List ℕ
counts_of n cs h = rounds (counts_of_step n cs) (h + 1) (replicate 9 0)

-- at most 8 holes, and 128 vertices a ring: so no sum of them is too large
pub record Few (n : ℕ) (cs : List ℕ) (h : ℕ) : Type 0 where
  pub holes : h ≤ 8
  pub each : (k : ℕ) → k ≤ h → count_of n cs k ≤ 128

-- the rings of a region and the vertices of each, where there is nothing to write to: 21
unfoldable pub region_told : Region → RegionWritten
region_told r = rings_told r (ask_region r Granted)

-- opens every definition above, for a proof that computes with all of them
unfoldable pub open_rings : Unit {0}
unfolding count_of points_of before_of_step before_of counts_of_step counts_of region_told
open_rings = tt
