-- A step of the walk round a finished ring, and where it stops. Assumes nothing.
use Prim.Native.Nat.{ℕ, ◌+◌, ◌*◌, ◌≤◌, ◌<◌}
use mathlib.Core.Bool.{Bool, true, false, cond, not, ◌&&◌}
use mathlib.Core.List.{List}
use mathlib.Core.Path.{◌≡◌, refl, sym, ap, ◌∙◌}
use native.Mathlib.Omega.{arith}
use borrow.Author.Tests.{eq-eqb, ne_eqb}
use lib.Dec.{eqb}
use lib.ListN.{set}
use lib.Ieee.{Float}
use Rattle.base.specs.Loop.{rounds}
use Rattle.base.proofs.Laws.{next_round, stays_to}
use Rattle.math.specs.Number.{finite}
use Rattle.plane.specs.declared.PlanarPoint.{PlanarPoint}
use Rattle.ring.specs.Store.{store_vertex}
use Rattle.front.specs.declared.Edge.{Edge}
use Rattle.front.specs.declared.Line.{Line}
use Rattle.front.specs.declared.Moving.{Moving}
use Rattle.std.specs.Prelude.{Option, None, Some}
use Rattle.front.specs.declared.Walk.{Walk}
use Rattle.front.specs.Lines.{velocity}
use Rattle.front.specs.Edges.{edge, vertex_by, vertex_of, vertex, edge_line}
use Rattle.front.specs.Finished.{walk_lost, walk_on, walk_vertex, walk_step, walk_from, walk}
use Rattle.std.specs.Bool.{then_some}
use Rattle.front_walk.specs.Placed.{from_origin, finite_place, placed}

-- ---- where a vertex lies

-- a point that is not finite is none, as the code says it
pub finite_is : (b : Bool) (p : PlanarPoint) → then_some b p ≡ cond (not b) None (Some p)
finite_is true p = refl
finite_is false p = refl

pub place_is : (f : List Edge) (at : ℕ) (t : Float) (origin : PlanarPoint) (e b : Edge) (l : Line) (x y : Option PlanarPoint) → e ≡ edge f at → b ≡ edge f e.previous → l ≡ edge_line b →
    x ≡ placed origin (vertex_by e t (velocity l (edge_line e))) → x ≡ y → placed origin (vertex f at t) ≡ y
unfolding vertex vertex_of
place_is f at t origin e b l x y i j m h k =
    sym
    (sym k ∙ h ∙ ap (λ (z : Line). placed origin (vertex_by e t (velocity z (edge_line e)))) m ∙
    ap (λ (z : Edge). placed origin (vertex_by e t (velocity (edge_line z) (edge_line e)))) j ∙
    ap (λ (z : Edge). placed origin (vertex_by z t (velocity (edge_line (edge f z.previous)) (edge_line z)))) i)

-- ---- the walk

abbrev pub walk_at : ℕ → List Bool → List Float → ℕ → Bool → Bool → Walk
walk_at at seen points count closed lost = record { at = at; seen = seen; points = points; count = count; closed = closed; lost = lost }

unfoldable walk_placed : ℕ → ℕ → Walk → Option PlanarPoint → Walk
walk_placed first next w None = walk_lost w
walk_placed first next w (Some p) = walk_at next (set w.seen w.at true) (store_vertex w.points w.count p) (w.count + 1) (eqb next first) false

by_place : (first next : ℕ) (origin : PlanarPoint) (w : Walk) (v : Option Moving) → walk_vertex first next origin w v ≡ walk_placed first next w (placed origin v)
unfolding walk_vertex walk_on walk_placed placed finite_place from_origin
by_place first next origin w None = refl
by_place first next origin w (Some m) = go (from_origin m.at origin) (finite (from_origin m.at origin).east && finite (from_origin m.at origin).north)
  where
    go : (q : PlanarPoint) (b : Bool) →
        cond b (walk_at next (set w.seen w.at true) (store_vertex w.points w.count q) (w.count + 1) (eqb next first) false) (walk_lost w)
        ≡ walk_placed first next w (cond (not b) None (Some q))
    go q true = refl
    go q false = refl

module _ (f : List Edge) (t : Float) (origin : PlanarPoint) (first at k : ℕ) (seen₀ seen : List Bool) (points : List Float)
    (so_far : rounds (walk_step f t origin first) k (walk_from first seen₀) ≡ walk_at at seen points k false false) where
  round : (y : Option PlanarPoint) → placed origin (vertex f at t) ≡ y →
      rounds (walk_step f t origin first) (k + 1) (walk_from first seen₀) ≡ walk_placed first (edge f at).next (walk_at at seen points k false false) y
  unfolding walk_step
  round y e =
      next_round _ _ _ ∙ ap (walk_step f t origin first k) so_far ∙
      by_place first (edge f at).next origin (walk_at at seen points k false false) (vertex f at t) ∙
      ap (walk_placed first (edge f at).next (walk_at at seen points k false false)) e

  -- a vertex is lost
  pub walk_loses : k < 128 → placed origin (vertex f at t) ≡ None → walk_at at seen points k false true ≡ walk f t origin first seen₀
  unfolding walk walk_step walk_placed walk_lost
  walk_loses l e =
      sym (stays_to (walk_step f t origin first) (walk_from first seen₀) (walk_at at seen points k false true) (k + 1) 128 (omega arith) (round None e) (λ m. refl))

  -- one vertex more
  module _ (e : Edge) (p : PlanarPoint) (after : List Bool) (is : e ≡ edge f at) (mark : after ≡ set seen at true) (there : placed origin (vertex f at t) ≡ Some p) where
    pub stepped : (b : Bool) → eqb e.next first ≡ b → rounds (walk_step f t origin first) (k + 1) (walk_from first seen₀)
        ≡ walk_at e.next after (set (set points (2 * k) p.east) (2 * k + 1) p.north) (k + 1) b false
    unfolding walk_placed store_vertex
    stepped b h = round (Some p) there ∙ rw (← is, h, mark) refl

    pub walk_goes : (e.next ≡ first → ⊥) → rounds (walk_step f t origin first) (k + 1) (walk_from first seen₀)
        ≡ walk_at e.next after (set (set points (2 * k) p.east) (2 * k + 1) p.north) (k + 1) false false
    walk_goes h = stepped false (ne_eqb _ _ h)

    -- the ring is closed
    pub walk_closes : k < 128 → e.next ≡ first →
        walk_at e.next after (set (set points (2 * k) p.east) (2 * k + 1) p.north) (k + 1) true false ≡ walk f t origin first seen₀
    unfolding walk walk_step
    walk_closes l h = sym (stays_to (walk_step f t origin first) (walk_from first seen₀) _ (k + 1) 128 (omega arith) (stepped true (eq-eqb _ _ h)) (λ m. refl))

  -- 128 steps are made
  pub walk_ends : k ≤ 128 → 128 ≤ k → walk_at at seen points 128 false false ≡ walk f t origin first seen₀
  unfolding walk
  walk_ends l h =
      let same : k ≡ 128 = omega arith in
      ap (λ (m : ℕ). walk_at at seen points m false false) (sym same) ∙ sym so_far ∙ ap (λ (m : ℕ). rounds (walk_step f t origin first) m (walk_from first seen₀)) same
