-- What a step of the sweep does with the front, by what tidying finds and by the plan; and a sweep whose front nobody reads where it is
-- refused. Assumes nothing.
use Rattle.std.specs.Prelude.{ℕ, true, false, cond, Float}
use Rattle.error.specs.declared.Refusal.{Refusal}
use Rattle.error.specs.Refusals.{granted}
use Rattle.front.specs.declared.Sweep.{Sweep}
use Rattle.front.specs.declared.Tidy.{Tidy}
use Rattle.front.specs.declared.Tidy.TheVariants.{Settled, SmallRing, Straight, Spike, Empty}
use Rattle.front.specs.Loading.{no_front}
use Rattle.front_sweep.specs.declared.Plan.{Plan}
use Rattle.front_sweep.specs.declared.Plan.TheVariants.{Refuse, End, TakeCollapse, TakeSplit}
use Rattle.front_sweep.specs.declared.Act.{Act}
use Rattle.front_sweep.specs.declared.Act.TheVariants.{Stop, Finish, Shrink, Cut, DropRing, DropSpike}

-- a collapse by an event is the edge's own
unfoldable pub act_by : Plan → Act
act_by Refuse = Stop
act_by End = Finish
act_by (TakeCollapse slot t) = Shrink slot t true false
act_by (TakeSplit v w t) = Cut v w t

-- a straight vertex is the end of its edge, and the next edge goes
unfoldable pub act_of : Float → Tidy → Plan → Act
act_of t Settled p = act_by p
act_of t (SmallRing slot) p = DropRing slot
act_of t (Straight slot) p = Shrink slot t false true
act_of t (Spike slot) p = DropSpike slot
act_of t (Empty slot) p = Shrink slot t false false

-- a refused sweep, with what it has completed and no front
unfoldable pub refused : Float → ℕ → ℕ → ℕ → Refusal → Sweep
refused t c v j r =
    record { edges = no_front; travelled = t; collapses = c; divides = v; joins = j; ended = false; refusal = r }

-- a sweep whose front goes where it is refused: `refused` of what it has completed
unfoldable pub cleared : Sweep → Sweep
cleared s =
    cond (granted s.refusal) s
    (record {
      edges = no_front;
      travelled = s.travelled;
      collapses = s.collapses;
      divides = s.divides;
      joins = s.joins;
      ended = s.ended;
      refusal = s.refusal;
    })

-- opens every definition above, for a proof that computes with all of them
unfoldable pub open_acts : Unit {0}
unfolding act_by act_of refused cleared
open_acts = tt
