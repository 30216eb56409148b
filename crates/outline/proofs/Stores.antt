-- One vertex stored into an outline's numbers, and one past the room. Assumes nothing.
use mathlib.Core.Path.{◌≡◌, refl, sym, ap, ◌∙◌}
use mathlib.Core.Bool.{Bool}
use mathlib.Core.List.{List}
use Prim.Native.Nat.{ℕ, ◌+◌, ◌*◌, ◌≤◌}
use native.Mathlib.Nat.{zero-add}
use native.Mathlib.Omega.{arith}
use lib.ListN.{length, set, replicate}
use lib.Seq.{set_out}
use lib.Ieee.{Float}
use Rattle.math.specs.Number.{zero_float}
use Rattle.base.specs.Loop.{rounds}
use Rattle.plane.specs.declared.PlanarPoint.{PlanarPoint}
use Rattle.ring.specs.Ring.{stored_at}
use Rattle.ring.specs.Store.{store_vertex, store_step, stored}
use Rattle.outline.specs.Outlines.{stored_outline}

module _ (ps : List Float) (n : ℕ) (back : Bool) (k : ℕ) (out : List Float) where
  pub store_in : (v : PlanarPoint) → v ≡ stored_at ps n back k → set (set out (2 * k) v.east) (2 * k + 1) v.north ≡ store_step ps n back 0 k out
  unfolding store_step store_vertex
  store_in v e = rw (zero-add, e) refl

  pub store_out : length out ≡ 256 → 128 ≤ k → out ≡ store_step ps n back 0 k out
  unfolding store_step store_vertex
  store_out e l =
      let v = stored_at ps n back k in
      let a : set out (2 * k) v.east ≡ out = set_out out (2 * k) v.east (omega arith) in
      let b : set out (2 * k + 1) v.north ≡ out = set_out out (2 * k + 1) v.north (omega arith) in
      rw zero-add (sym (ap (λ (x : List Float). set x (2 * k + 1) v.north) a ∙ b))

pub stored_as : (ps : List Float) (n : ℕ) (back : Bool) (out : List Float) → out ≡ rounds (store_step ps n back 0) n (replicate 256 zero_float) → record { points = out; count = n } ≡ stored_outline ps n back
unfolding stored_outline stored
stored_as ps n back out e = rw e refl
