-- The vertex that a walk round a ring holds at round k: where the edge k starts, and after the last round the first one. Assumes nothing.
use Prim.Native.Nat.{ℕ, ◌+◌, ◌<◌}
use mathlib.Core.Path.{◌≡◌, refl}
use mathlib.Core.Bool.{Bool, true, false, cond}
use mathlib.Core.List.{List}
use borrow.Author.Tests.{lt-ltb}
use lib.Dec.{ltb}
use lib.Ieee.{Float}
use Rattle.plane.specs.declared.PlanarPoint.{PlanarPoint}
use Rattle.ring.specs.Ring.{vertex_at, following, edge_end}

unfoldable pub start : List Float → ℕ → ℕ → PlanarPoint
start ps n k = vertex_at ps (cond (ltb k n) k 0)

pub start_first : (ps : List Float) (n : ℕ) → vertex_at ps 0 ≡ start ps n 0
unfolding start
start_first ps n = go (ltb 0 n)
  where
    go : (t : Bool) → vertex_at ps 0 ≡ vertex_at ps (cond t 0 0)
    go true = refl
    go false = refl

pub start_next : (ps : List Float) (n k : ℕ) → edge_end ps n k ≡ start ps n (k + 1)
unfolding start edge_end following
start_next ps n k = refl

pub start_edge : (ps : List Float) (n k : ℕ) → k < n → start ps n k ≡ vertex_at ps k
unfolding start
start_edge ps n k l = rw (lt-ltb k n l) refl
