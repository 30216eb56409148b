-- offset.rs, `offset_rings`, its main loop: the events, one after the other, until the front has come to the distance. Each offset also
-- hands back its completed events:
-- collapses, dividing splits and joining splits, never what tidying removes. Assumes nothing.
use Rattle.std.specs.Prelude.{ℕ, ◌+◌, Bool, true, false, cond, not, ◌&&◌, List, ltb, Float, Option, Some, None}
use Rattle.std.specs.Float.Ieee.{le}
use Rattle.front.specs.declared.Sweep.{Sweep}
use Rattle.error.specs.declared.Refusal.{Refusal}
use Rattle.front.specs.declared.Edge.{Edge}
use Rattle.error.specs.declared.Refusal.TheVariants.{Granted, Splits, Slots, Unfinished}
use Rattle.front.specs.declared.Front.{Front}
use Rattle.plane.specs.declared.PlanarPoint.{PlanarPoint}
use Rattle.front.specs.declared.Moving.{Moving}
use Rattle.front.specs.declared.Event.{Event}
use Rattle.front.specs.declared.Event.TheVariants.{Stalled, Never, Collapse, Split}
use Rattle.front.specs.declared.Loaded.{Loaded}
use Rattle.math.specs.Number
use Rattle.front.specs.Splitting.{one_ring, split_linked, free}
use Rattle.front.specs.Edges.{edge, vertex, collapse}
use Rattle.math.specs.Number.{add, zero_float}
use Rattle.front.specs.NextEvent.{next_event}
use Rattle.error.specs.Refusals.{granted}
use Rattle.front.specs.Tidying.{tidy}
use Rattle.base.specs.Loop.{rounds}

-- a refusal ends the walk: what was completed before it is handed back
unfoldable pub sweep_refused : Sweep → Refusal → Sweep
sweep_refused s r =
    record {
      edges = s.edges;
      travelled = s.travelled;
      collapses = s.collapses;
      divides = s.divides;
      joins = s.joins;
      ended =
          false;
      refusal = r;
    }

-- the front has come to the distance: `Finished`
unfoldable pub sweep_ended : Sweep → List Edge → Sweep
sweep_ended s f =
    record {
      edges = f;
      travelled = s.travelled;
      collapses = s.collapses;
      divides = s.divides;
      joins = s.joins;
      ended = true;
      refusal = Granted;
    }

-- ---- `Event::Collapse`

unfoldable pub swept_collapse : Float → Sweep → Float → Front → Sweep
swept_collapse d s t f =
    cond f.stalled (sweep_refused s (Splits d))
    (record {
      edges = f.edges;
      travelled = t;
      collapses = s.collapses + 1;
      divides = s.divides;
      joins = s.joins;
      ended = false;
      refusal = Granted;
    })

-- ---- `Event::Split`: the start vertex of the edge at v runs into the edge at e

unfoldable pub swept_divide : Sweep → Float → List Edge → Sweep
swept_divide s t f =
    record {
      edges = f;
      travelled = t;
      collapses = s.collapses;
      divides = s.divides + 1;
      joins = s.joins;
      ended = false;
      refusal =
          Granted;
    }

unfoldable pub swept_join : Sweep → Float → List Edge → Sweep
swept_join s t f =
    record {
      edges = f;
      travelled = t;
      collapses = s.collapses;
      divides = s.divides;
      joins = s.joins + 1;
      ended = false;
      refusal =
          Granted;
    }

unfoldable pub swept_split : Sweep → Float → Bool → List Edge → Sweep
swept_split s t one_ring f = cond one_ring (swept_divide s t f) (swept_join s t f)

-- a full front of 128 slots cannot split: 15 with 129 needed
unfoldable pub split_into : Sweep → List Edge → ℕ → ℕ → PlanarPoint → Float → Bool → ℕ → Sweep
split_into s f v e p t one_ring copy =
    cond (ltb copy 128)
    (swept_split s t one_ring (split_linked f v e copy (edge f v).previous (edge f e) p t))
    (sweep_refused s (Slots 129))

-- whether it divides or joins is known before a slot is asked for
unfoldable pub split_of : Sweep → List Edge → ℕ → ℕ → PlanarPoint → Float → Bool → Sweep
split_of s f v e p t one_ring = split_into s f v e p t one_ring (free f)

unfoldable pub split_at : Float → Sweep → List Edge → ℕ → ℕ → Float → Option Moving → Sweep
split_at d s f v e t None = sweep_refused s (Splits d)
split_at d s f v e t (Some m) = split_of s f v e m.at t (one_ring f v e)

unfoldable pub split : Float → Sweep → List Edge → ℕ → ℕ → Float → Sweep
split d s f v e t = split_at d s f v e t (vertex f v t)

-- ---- one stage of the loop

-- an event that falls on the distance, or beyond it, ends the walk before it
unfoldable pub sweep_event : Float → Sweep → List Edge → Event → Sweep
sweep_event d s f Stalled = sweep_refused s (Splits d)
sweep_event d s f Never = sweep_ended s f
sweep_event d s f (Collapse k step) =
    cond (le d (add s.travelled step)) (sweep_ended s f)
    (swept_collapse d s (add s.travelled step) (collapse f k (add s.travelled step)))
sweep_event d s f (Split v e step) =
    cond (le d (add s.travelled step)) (sweep_ended s f) (split d s f v e (add s.travelled step))

unfoldable pub sweep_tidied : Float → Sweep → Front → Sweep
sweep_tidied d s f = cond f.stalled (sweep_refused s (Splits d)) (sweep_event d s f.edges (next_event f.edges s.travelled))

unfoldable pub sweep_step : Float → ℕ → Sweep → Sweep
sweep_step d k s = cond (granted s.refusal && not s.ended) (sweep_tidied d s (tidy s.edges s.travelled)) s

-- ---- the loop: 387 stages, three times 128 and three

-- before the first stage; a shape that was refused while loading makes none
unfoldable pub sweep_from : Loaded → Sweep
sweep_from l =
    record { edges = l.edges; travelled = zero_float; collapses = 0; divides = 0; joins = 0; ended = false; refusal = l.refusal }

-- `NotConverged`: 387 events, and what remained of the distance
unfoldable pub finished : Float → Sweep → Sweep
finished d s = cond (granted s.refusal && not s.ended) (sweep_refused s (Unfinished 387 (Number.sub d s.travelled))) s

-- `offset_rings`, from the loaded rings on
unfoldable pub offset_rings : Float → Loaded → Sweep
offset_rings d l = finished d (rounds (sweep_step d) 387 (sweep_from l))

-- opens every definition above, for a proof that computes with all of them
unfoldable pub open_sweeps : Unit {0}
unfolding sweep_refused sweep_ended swept_collapse swept_divide swept_join swept_split split_into split_of split_at split sweep_event
    sweep_tidied sweep_step sweep_from finished offset_rings
open_sweeps = tt
