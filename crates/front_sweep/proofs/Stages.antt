-- A stage of the sweep, by its plan; and what a split adds to a sweep, by what it makes of one that has counted nothing. Assumes nothing.
use Prim.Native.Nat.{ℕ, ◌+◌, ◌≤◌}
use mathlib.Core.Bool.{Bool, true, false, cond}
use mathlib.Core.List.{List}
use mathlib.Core.Path.{◌≡◌, refl}
use native.Mathlib.Omega.{arith}
use native.Mathlib.Nat.{add-zero}
use lib.Dec.{ltb}
use lib.Ieee.{Float, le}
use Rattle.math.specs.Number.{add}
use Rattle.error.specs.declared.Refusal.{Refusal}
use Rattle.error.specs.declared.Refusal.TheVariants.{Granted, Slots, Splits}
use Rattle.error.specs.Refusals.{granted, number, values}
use Rattle.front.specs.declared.Edge.{Edge}
use Rattle.front.specs.declared.Event.{Event}
use Rattle.front.specs.declared.Event.TheVariants.{Stalled, Never, Collapse, Split}
use Rattle.front.specs.declared.Front.{Front}
use Rattle.front.specs.declared.Sweep.{Sweep}
use Rattle.front.specs.declared.Moving.{Moving}
use Rattle.std.specs.Prelude.{Option, None, Some}
use Rattle.front.specs.Edges.{vertex, collapse}
use Rattle.front.specs.NextEvent.{next_event}
use Rattle.front.specs.Splitting.{free, one_ring}
use Rattle.front.specs.Sweeps.{sweep_refused, sweep_ended, swept_collapse, swept_divide, swept_join, swept_split, split_into, split_of, split_at, split, sweep_event, sweep_tidied}
use Rattle.front_split.specs.Begun.{begun}
use Rattle.front_sweep.specs.declared.Plan.{Plan}
use Rattle.front_sweep.specs.declared.Plan.TheVariants.{Refuse, End, TakeCollapse, TakeSplit}
use Rattle.front_sweep.specs.Planning.{plan_of}

-- ---- the plan of a tidied front, done

unfoldable pub done : Float → Sweep → List Edge → Plan → Sweep
done d s f Refuse = sweep_refused s (Splits d)
done d s f End = sweep_ended s f
done d s f (TakeCollapse k t) = swept_collapse d s t (collapse f k t)
done d s f (TakeSplit v e t) = split d s f v e t

module _ (d : Float) (s : Sweep) where
  event_is : (f : List Edge) (e : Event) → sweep_event d s f e ≡ done d s f (plan_of d s.travelled e)
  unfolding sweep_event plan_of done
  event_is f Stalled = refl
  event_is f Never = refl
  event_is f (Collapse k step) = go (le d t)
    where
      t : Float
      t = add s.travelled step

      go : (b : Bool) → cond b (sweep_ended s f) (swept_collapse d s t (collapse f k t)) ≡ done d s f (cond b End (TakeCollapse k t))
      go true = refl
      go false = refl
  event_is f (Split v e step) = go (le d t)
    where
      t : Float
      t = add s.travelled step

      go : (b : Bool) → cond b (sweep_ended s f) (split d s f v e t) ≡ done d s f (cond b End (TakeSplit v e t))
      go true = refl
      go false = refl

  pub tidied_is :
      (f : Front) → sweep_tidied d s f ≡ done d s f.edges (cond f.stalled Refuse (plan_of d s.travelled (next_event f.edges s.travelled)))
  unfolding sweep_tidied done
  tidied_is f = go f.stalled
    where
      e : Event
      e = next_event f.edges s.travelled

      go : (b : Bool) → cond b (sweep_refused s (Splits d)) (sweep_event d s f.edges e) ≡ done d s f.edges (cond b Refuse (plan_of d s.travelled e))
      go true = refl
      go false = event_is f.edges e

-- ---- a split

-- a refused split changes nothing, any other adds its counts
abbrev pub parted : Sweep → Sweep → Sweep
parted s r =
    cond (granted r.refusal)
    (record {
      edges = r.edges;
      travelled = r.travelled;
      collapses = s.collapses;
      divides = s.divides + r.divides;
      joins = s.joins + r.joins;
      ended = false;
      refusal = Granted;
    })
    (sweep_refused s r.refusal)

-- w is made of s, and r of the sweep that has counted nothing
pub record Parted (s w r : Sweep) : Type 0 where
  pub same : w ≡ parted s r
  pub divides : r.divides ≤ 1
  pub joins : r.joins ≤ 1

module _ (d : Float) (s : Sweep) (f : List Edge) where
  abbrev z : Sweep
  z = begun f s.travelled

  refuses : (x : Refusal) → granted x ≡ false → Parted s (sweep_refused s x) (sweep_refused z x)
  unfolding sweep_refused begun
  refuses x h = record { same = rw h refl; divides = omega arith; joins = omega arith }

  either : (b : Bool) (w w' r r' : Sweep) → Parted s w r → Parted s w' r' → Parted s (cond b w w') (cond b r r')
  either true w w' r r' g h = g
  either false w w' r r' g h = h

  counts : (t : Float) (b : Bool) (g : List Edge) → Parted s (swept_split s t b g) (swept_split z t b g)
  unfolding swept_split swept_divide swept_join sweep_refused begun granted number values
  counts t b g =
      either b _ _ _ _ (record { same = rw add-zero refl; divides = omega arith; joins = omega arith })
      (record { same = rw add-zero refl; divides = omega arith; joins = omega arith })

  splits_at : (v e : ℕ) (t : Float) (x : Option Moving) → Parted s (split_at d s f v e t x) (split_at d z f v e t x)
  unfolding split_at split_of split_into granted number values
  splits_at v e t None = refuses (Splits d) refl
  splits_at v e t (Some m) = either (ltb (free f) 128) _ _ _ _ (counts t (one_ring f v e) _) (refuses (Slots 129) refl)

  pub splits : (v e : ℕ) (t : Float) → Parted s (split d s f v e t) (split d (begun f s.travelled) f v e t)
  unfolding split
  splits v e t = splits_at v e t (vertex f v t)
