-- The rings of a region from numbers: question 3, then 4 to 9 and 27 ring by ring. `load_rings` without question 3 is that of the region's
-- own check. Assumes nothing.
use Rattle.std.specs.Prelude.{ℕ, ◌-◌, cond, List, get_or, length, Float}
use Rattle.error.specs.declared.Refusal.{Refusal}
use Rattle.error.specs.declared.Refusal.TheVariants.{Granted, Lengths}
use Rattle.outline.specs.declared.Outline.{Outline}
use Rattle.region.specs.declared.RegionLoad.{RegionLoad}
use Rattle.base.specs.Loop.{rounds}
use Rattle.region.specs.Regions.{no_region, with_outer}
use Rattle.region.specs.Checks.{hole_load_step, load_rings, lengths_fit}

-- the rings loaded so far: the outer one and k holes
unfoldable pub loaded : Refusal → Outline → List Float → List ℕ → ℕ → ℕ → RegionLoad
loaded r o points counts k start =
    record { refusal = r; shape = record { outer = o; points = points; counts = counts; holes = k }; start = start }

-- no rings
unfoldable pub no_load : Refusal → ℕ → RegionLoad
no_load r start = record { refusal = r; shape = no_region; start = start }

-- the outer ring, which has passed 4 to 9 and 27
unfoldable pub outer_alone : Outline → ℕ → RegionLoad
outer_alone o n = record { refusal = Granted; shape = with_outer no_region o; start = n }

-- 4 to 9 and 27 of each hole after it
unfoldable pub load_holes : List ℕ → List Float → Outline → RegionLoad
load_holes lengths ps o = rounds (hole_load_step lengths ps) (length lengths - 1) (outer_alone o (get_or lengths 0 0))

-- question 3, then 4 to 9 and 27 ring by ring, outer first
unfoldable pub load_fitting : List ℕ → List Float → RegionLoad
load_fitting lengths ps = cond (lengths_fit lengths ps) (load_rings lengths ps) (no_load Lengths 0)

-- opens every definition above, for a proof that computes with all of them
unfoldable pub open_loads : Unit {0}
unfolding loaded no_load outer_alone load_holes load_fitting
open_loads = tt
