-- One ring more into a front whose numbers are those of a front: 128 edges and 128 rings at most. Assumes nothing.
use Rattle.std.specs.Prelude.{ℕ, Bool, cond, ◌&&◌, List, ltb, Float}
use Rattle.plane.specs.declared.PlanarPoint.{PlanarPoint}
use Rattle.error.specs.declared.Refusal.TheVariants.{Shape}
use Rattle.front.specs.declared.Loaded.{Loaded}
use Rattle.front.specs.Loading.{load_ring, load_refused}

unfoldable pub fits : ℕ → Loaded → Bool
fits n s = (ltb s.used 129 && ltb s.rings 129) && ltb n 129

-- numbers that no front has are refused
unfoldable pub load_next : List Float → ℕ → Bool → PlanarPoint → Float → Loaded → Loaded
load_next ps n back origin d s = cond (fits n s) (load_ring ps n back origin d s) (load_refused s Shape)

-- opens every definition above, for a proof that computes with all of them
unfoldable pub open_next : Unit {0}
unfolding fits load_next
open_next = tt
