-- offset.rs, `Finished::for_each_ring`: the rings of a front that has come to the distance, in plane coordinates. Assumes nothing.
use Rattle.std.specs.Prelude.{ℕ, ◌+◌, Bool, true, false, cond, not, ◌&&◌, ◌||◌, List, eqb, get_or, set, replicate, Float, Option, Some, None}
use Rattle.plane.specs.declared.PlanarPoint.{PlanarPoint}
use Rattle.error.specs.declared.Refusal.{Refusal}
use Rattle.front.specs.declared.Edge.{Edge}
use Rattle.front.specs.declared.Moving.{Moving}
use Rattle.front.specs.declared.Walk.{Walk}
use Rattle.error.specs.Refusals.{granted}
use Rattle.base.specs.Loop.{rounds}
use Rattle.math.specs.Number.{finite, add, zero_float}
use Rattle.ring.specs.Store.{store_vertex}
use Rattle.front.specs.Edges.{edge, vertex}

-- ---- one ring: a walk from its first slot, in which a vertex without velocity, or one that is not finite, is lost

unfoldable pub walk_lost : Walk → Walk
walk_lost w = record { at = w.at; seen = w.seen; points = w.points; count = w.count; closed = w.closed; lost = true }

unfoldable pub walk_on : ℕ → ℕ → PlanarPoint → Walk → Walk
walk_on first next p w =
    cond (finite p.east && finite p.north)
    (record {
      at = next;
      seen = set w.seen w.at true;
      points = store_vertex w.points w.count p;
      count = w.count + 1;
      closed = eqb next first;
      lost = false;
    })
    (walk_lost w)

unfoldable pub walk_vertex : ℕ → ℕ → PlanarPoint → Walk → Option Moving → Walk
walk_vertex first next origin w None = walk_lost w
walk_vertex first next origin w (Some m) =
    walk_on first next (record { east = add m.at.east origin.east; north = add m.at.north origin.north }) w

unfoldable pub walk_step : List Edge → Float → PlanarPoint → ℕ → ℕ → Walk → Walk
walk_step f t origin first k w =
    cond (w.closed || w.lost) w (walk_vertex first (edge f w.at).next origin w (vertex f w.at t))

unfoldable pub walk_from : ℕ → List Bool → Walk
walk_from first seen = record { at = first; seen = seen; points = replicate 256 zero_float; count = 0; closed = false; lost = false }

unfoldable pub walk : List Edge → Float → PlanarPoint → ℕ → List Bool → Walk
walk f t origin first seen = rounds (walk_step f t origin first) 128 (walk_from first seen)

-- a ring of the front starts at the first live slot that no ring before it has passed
unfoldable pub starts : List Edge → List Bool → ℕ → Bool
starts f seen first = (edge f first).alive && not (get_or seen first false)

-- ---- every ring, by its lowest live slot, is handed to `visit` with its place among the finished rings; the first refusal ends it

-- what the visits have made so far, how many rings there were, and the slots that they have passed
pub record Visits (A : Type 0) : Type 0 where
  pub made : A
  pub place : ℕ
  pub seen : List Bool

unfoldable pub visited : {A : Type 0} → (ℕ → Walk → A → A) → Visits A → Walk → Visits A
visited visit s w = record { made = visit s.place w s.made; place = s.place + 1; seen = w.seen }

unfoldable pub visit_step : {A : Type 0} → (A → Refusal) → (ℕ → Walk → A → A) → List Edge → Float → PlanarPoint →
    ℕ → Visits A → Visits A
visit_step refusal visit f t origin first s =
    cond (granted (refusal s.made) && starts f s.seen first) (visited visit s (walk f t origin first s.seen)) s

unfoldable pub visits_from : {A : Type 0} → A → Visits A
visits_from a = record { made = a; place = 0; seen = replicate 128 false }

unfoldable pub for_each_ring : {A : Type 0} → (A → Refusal) → (ℕ → Walk → A → A) → List Edge → Float →
    PlanarPoint → A → A
for_each_ring refusal visit f t origin a = (rounds (visit_step refusal visit f t origin) 128 (visits_from a)).made

-- opens every definition above, for a proof that computes with all of them
unfoldable pub open_finished : Unit {0}
unfolding walk_lost walk_on walk_vertex walk_step walk_from walk starts visited visit_step visits_from for_each_ring
open_finished = tt
