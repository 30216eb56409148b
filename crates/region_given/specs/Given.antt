-- Question 21 of the holes of a region handed in, over their flat numbers and their counts. Assumes nothing.
use Rattle.std.specs.Prelude.{ℕ, ◌*◌, Bool, true, ◌&&◌, List, get_or, drop, Float}
use Rattle.outline.specs.Outlines.{proper}
use Rattle.base.specs.Loop.{rounds}

-- question 21 of hole k
unfoldable pub proper_hole : List Float → List ℕ → ℕ → Bool
proper_hole hs cs k = proper 32 (drop (64 * k) hs) (get_or cs k 0)

unfoldable pub proper_hole_step : List Float → List ℕ → ℕ → Bool → Bool
proper_hole_step hs cs k s = s && proper_hole hs cs k

-- question 21 of the first h holes
unfoldable pub proper_holes : List Float → List ℕ → ℕ → Bool
proper_holes hs cs h = rounds (proper_hole_step hs cs) h true

-- opens every definition above, for a proof that computes with all of them
unfoldable pub open_given : Unit {0}
unfolding proper_hole proper_hole_step proper_holes
open_given = tt
