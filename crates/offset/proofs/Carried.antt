-- A sweep that is refused by 18 carries 387, and a sweep of a front whose loading is refused stays as it was loaded. Assumes nothing.
use Prim.Native.Nat.{ℕ}
use mathlib.Core.Path.{◌≡◌, refl, ap, ◌∙◌}
use mathlib.Core.Bool.{false, not, ◌&&◌}
use mathlib.Core.List.{List, [], ◌∷◌}
use native.Mathlib.Omega.{arith}
use lib.Dec.{ltb}
use lib.Ieee.{Float, le}
use Rattle.error.specs.declared.Refusal.{Refusal}
use Rattle.error.specs.declared.Refusal.TheVariants.{Splits, Slots}
use Rattle.front.specs.declared.Edge.{Edge}
use Rattle.front.specs.declared.Event.{Event}
use Rattle.front.specs.declared.Event.TheVariants.{Stalled, Never, Collapse, Split}
use Rattle.front.specs.declared.Front.{Front}
use Rattle.front.specs.declared.Loaded.{Loaded}
use Rattle.front.specs.declared.Sweep.{Sweep}
use Rattle.front.specs.declared.Moving.{Moving}
use Rattle.std.specs.Prelude.{Option, None, Some}
use Rattle.math.specs.Number.{add}
use Rattle.error.specs.Refusals.{number, values, granted}
use Rattle.base.specs.Loop.{rounds}
use Rattle.base.proofs.Laws.{rounds_keep, still}
use Rattle.base.proofs.Choices.{both}
use Rattle.front.specs.Edges.{vertex, collapse}
use Rattle.front.specs.Tidying.{tidy}
use Rattle.front.specs.NextEvent.{next_event}
use Rattle.front.specs.Splitting.{free, one_ring}
use Rattle.front.specs.Sweeps.{sweep_refused, sweep_ended, swept_collapse, swept_divide, swept_join, swept_split, split_into, split_of, split_at, split, sweep_event, sweep_tidied, sweep_step, sweep_from, finished, offset_rings}
use Rattle.offset.proofs.Other.{Other, granted_other, splits_other}

pub record Carried (u : Refusal) : Type 0 where
  pub carried : number u ≡ 18 → (values u).wholes ≡ 387 ∷ []

record OtherSweep (s : Sweep) : Type 0 where
  other : Other s.refusal

module _ (d : Float) (s : Sweep) where
  refused_other : (r : Refusal) → Other r → OtherSweep (sweep_refused s r)
  unfolding sweep_refused
  refused_other r h = record { other = h }

  split_other : (f : List Edge) (at by : ℕ) (t : Float) (v : Option Moving) → OtherSweep (split_at d s f at by t v)
  unfolding split_at split_of split_into swept_split swept_divide swept_join number values
  split_other f at by t None = refused_other (Splits d) (splits_other d)
  split_other f at by t (Some m) =
      both OtherSweep (ltb (free f) 128) (both OtherSweep (one_ring f at by) (record { other = granted_other }) (record { other = granted_other }))
      (refused_other (Slots 129) (record { no = λ q. omega arith }))

  event_other : (f : List Edge) (e : Event) → OtherSweep (sweep_event d s f e)
  unfolding sweep_event sweep_ended swept_collapse split
  event_other f Stalled = refused_other (Splits d) (splits_other d)
  event_other f Never = record { other = granted_other }
  event_other f (Collapse k step) =
      let t : Float = add s.travelled step in
      both OtherSweep (le d t) (record { other = granted_other })
      (both OtherSweep (collapse f k t).stalled (refused_other (Splits d) (splits_other d)) (record { other = granted_other }))
  event_other f (Split at by step) =
      let t : Float = add s.travelled step in
      both OtherSweep (le d t) (record { other = granted_other }) (split_other f at by t (vertex f at t))

  step_other : (k : ℕ) → OtherSweep s → OtherSweep (sweep_step d k s)
  unfolding sweep_step sweep_tidied
  step_other k h =
      let f : Front = tidy s.edges s.travelled in
      both OtherSweep (granted s.refusal && not s.ended)
      (both OtherSweep f.stalled (refused_other (Splits d) (splits_other d)) (event_other f.edges (next_event f.edges s.travelled))) h

record CarriedSweep (s : Sweep) : Type 0 where
  carries : Carried s.refusal

pub other_carried : (u : Refusal) → Other u → Carried u
other_carried u h = record { carried = λ q. absurd (h.no q) }

finished_carried : (d : Float) (s : Sweep) → OtherSweep s → CarriedSweep (finished d s)
unfolding finished sweep_refused values
finished_carried d s h =
    both CarriedSweep (granted s.refusal && not s.ended) (record { carries = record { carried = λ q. refl } }) (record { carries = other_carried s.refusal h.other })

pub sweep_carried : (d : Float) (l : Loaded) → Other l.refusal → Carried (offset_rings d l).refusal
unfolding offset_rings sweep_from
sweep_carried d l h =
    (finished_carried d (rounds (sweep_step d) 387 (sweep_from l))
    (rounds_keep (sweep_step d) (λ k s. OtherSweep s) (sweep_from l) (record { other = h }) (λ k s z. step_other d s k z) 387)).carries

-- ---- a front that was not loaded does not move

module _ (d : Float) (l : Loaded) (h : granted l.refusal ≡ false) where
  unloaded_stays : (k : ℕ) → sweep_step d k (sweep_from l) ≡ sweep_from l
  unfolding sweep_step sweep_from
  unloaded_stays k = rw h refl

  unloaded_ends : finished d (sweep_from l) ≡ sweep_from l
  unfolding finished sweep_from
  unloaded_ends = rw h refl

  pub sweep_unloaded : offset_rings d l ≡ sweep_from l
  unfolding offset_rings
  sweep_unloaded = ap (finished d) (still (sweep_step d) (sweep_from l) unloaded_stays 387) ∙ unloaded_ends
