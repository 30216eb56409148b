-- The walk round one ring, inside the round over the slots. Assumes nothing.
use Prim.Native.Nat.{ℕ, ◌+◌, ◌*◌, ◌≤◌, ◌<◌}
use native.Mathlib.Omega.{arith}
use mathlib.Core.Bool.{Bool, true, false, not, ◌&&◌}
use mathlib.Core.List.{List}
use mathlib.Core.Path.{◌≡◌, refl, sym, ap, ◌∙◌}
use mathlib.Mathlib.Data.Bool.Basic.{and_elim_left, and_elim_right}
use borrow.Author.Tests.{ltb-true, ltb-false, not-true}
use lib.Dec.{ltb, eqb}
use lib.ListN.{set, replicate}
use lib.Ieee.{Float}
use Rattle.base.specs.Loop.{rounds}
use Rattle.base.proofs.Laws.{no_round, ends, stays_to}
use Rattle.math.specs.Number.{zero_float}
use Rattle.plane.specs.declared.PlanarPoint.{PlanarPoint}
use Rattle.front.specs.declared.Edge.{Edge}
use Rattle.std.specs.Prelude.{None, Some}
use Rattle.front.specs.Edges.{edge, vertex}
use Rattle.front.specs.Finished.{walk_step, walk_from, walk}
use Rattle.front_walk.specs.Placed.{placed}
use Rattle.front_walk.proofs.RingWalk.{walk_at, walk_loses, stepped}

module _ (f : List Edge) (t : Float) (origin : PlanarPoint) (first : ℕ) (seen₀ : List Bool) where
  -- after `count` steps, the ring closed or not
  pub record Walking (seen : List Bool) (points : List Float) (at count : ℕ) (closed : Bool) : Type 0 where
    pub room : count ≤ 128
    pub same : rounds (walk_step f t origin first) count (walk_from first seen₀) ≡ walk_at at seen points count closed false

  pub sets_out : Walking seen₀ (replicate 256 zero_float) first 0 false
  unfolding walk_from
  sets_out = record { room = omega arith; same = no_round _ _ }

  module _ (seen : List Bool) (points : List Float) (at count : ℕ) (closed : Bool) (w : Walking seen points at count closed) where
    -- the walk is the definition's
    pub walked : (not closed && ltb count 128) ≡ false → walk_at at seen points count closed false ≡ walk f t origin first seen₀
    unfolding walk walk_step
    walked h = go closed w.same h
      where
        go : (b : Bool) → rounds (walk_step f t origin first) count (walk_from first seen₀) ≡ walk_at at seen points count b false → (not b && ltb count 128) ≡ false →
            walk_at at seen points count b false ≡ rounds (walk_step f t origin first) 128 (walk_from first seen₀)
        go true e i = sym (stays_to (walk_step f t origin first) (walk_from first seen₀) (walk_at at seen points count true false) count 128 w.room e (λ m. refl))
        go false e i = ends (walk_step f t origin first) (walk_from first seen₀) _ count 128 w.room (ltb-false count 128 i) (sym e)

    module _ (goes : (not closed && ltb count 128) ≡ true) where
      so_far : rounds (walk_step f t origin first) count (walk_from first seen₀) ≡ walk_at at seen points count false false
      so_far = w.same ∙ ap (λ (b : Bool). walk_at at seen points count b false) (not-true closed (and_elim_left (not closed) (ltb count 128) goes))

      pub inside : count < 128
      inside = ltb-true count 128 (and_elim_right (not closed) (ltb count 128) goes)

      -- a vertex is lost
      pub loses : placed origin (vertex f at t) ≡ None → walk_at at seen points count false true ≡ walk f t origin first seen₀
      loses e = walk_loses f t origin first at count seen₀ seen points so_far inside e

      -- one vertex more
      pub walks_on :
          (e : Edge) (p : PlanarPoint) (after : List Bool) → e ≡ edge f at → after ≡ set seen at true → placed origin (vertex f at t) ≡ Some p →
          Walking after (set (set points (2 * count) p.east) (2 * count + 1) p.north) e.next (count + 1) (eqb e.next first)
      walks_on e p after is mark there = record {
        room = omega (arith, inside);
        same = stepped f t origin first at count seen₀ seen points so_far e p after is mark there (eqb e.next first) refl;
      }
