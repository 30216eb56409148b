-- What a stage of the sweep does, by the event that it finds. Assumes nothing.
use Rattle.std.specs.Prelude.{cond, Float}
use Rattle.std.specs.Float.Ieee.{le}
use Rattle.math.specs.Number.{add}
use Rattle.front.specs.declared.Event.{Event}
use Rattle.front.specs.declared.Event.TheVariants.{Stalled, Never, Collapse, Split}
use Rattle.front_sweep.specs.declared.Plan.{Plan}
use Rattle.front_sweep.specs.declared.Plan.TheVariants.{Refuse, End, TakeCollapse, TakeSplit}

-- an event that falls on the distance, or beyond it, ends the walk before it
unfoldable pub plan_of : Float → Float → Event → Plan
plan_of d travelled Stalled = Refuse
plan_of d travelled Never = End
plan_of d travelled (Collapse k step) = cond (le d (add travelled step)) End (TakeCollapse k (add travelled step))
plan_of d travelled (Split v e step) = cond (le d (add travelled step)) End (TakeSplit v e (add travelled step))
