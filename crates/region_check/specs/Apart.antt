-- Questions 11 and 12 over the numbers of a region's holes: the walks of `check_holes` and `check_apart`, which look at nothing else of the
-- region. Assumes nothing.
use Rattle.std.specs.Prelude.{ℕ, ◌+◌, ◌-◌, ◌*◌, Bool, cond, List, get_or, drop, Float}
use Rattle.error.specs.declared.Refusal.{Refusal}
use Rattle.error.specs.declared.Refusal.TheVariants.{Granted, HolesTouch}
use Rattle.error.specs.Refusals.{granted}
use Rattle.base.specs.Loop.{rounds}
use Rattle.region.specs.Checks.{hole_free, holes_touch}

-- question 11 of hole k
unfoldable pub hole_fits : List Float → ℕ → List Float → List ℕ → ℕ → Bool
hole_fits ps n hs cs k = hole_free ps n (drop (64 * k) hs) (get_or cs k 0)

-- question 12 of the holes i and j
unfoldable pub pair_touches : List Float → List ℕ → ℕ → ℕ → Bool
pair_touches hs cs i j = holes_touch (drop (64 * i) hs) (get_or cs i 0) (drop (64 * j) hs) (get_or cs j 0)

-- question 12 of hole i and each hole after it
unfoldable pub after_step : List Float → List ℕ → ℕ → ℕ → Refusal → Refusal
after_step hs cs i k s = cond (granted s) (cond (pair_touches hs cs i (i + 1 + k)) (HolesTouch i (i + 1 + k)) Granted) s

unfoldable pub apart_from : List Float → List ℕ → ℕ → ℕ → Refusal
apart_from hs cs h i = rounds (after_step hs cs i) (h - (i + 1)) Granted

unfoldable pub apart_step : List Float → List ℕ → ℕ → ℕ → Refusal → Refusal
apart_step hs cs h i s = cond (granted s) (apart_from hs cs h i) s

unfoldable pub check_apart : List Float → List ℕ → ℕ → Refusal
check_apart hs cs h = rounds (apart_step hs cs h) h Granted

-- opens every definition above, for a proof that computes with all of them
unfoldable pub open_apart : Unit {0}
unfolding hole_fits pair_touches after_step apart_from apart_step check_apart
open_apart = tt
