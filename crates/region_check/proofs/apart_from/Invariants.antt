-- `region_check::apart_from` meets its contract. Assumes nothing.
use Prim.Native.Nat.{◌+◌, ◌-◌}
use mathlib.Core.Path.{◌≡◌}
use Rattle.error.specs.declared.Refusal.TheVariants.{Granted}
use Rattle.base.specs.Loop.{rounds}
use Rattle.region_check.specs.Apart
use Rattle.region_check.proofs.apart_from.Given as goal

abbrev pub invariant-loop-j : goal.invariant-loop-j
invariant-loop-j l = rounds (Apart.after_step l.hs l.cs l.i) (l.j - (l.i + 1)) Granted ≡ Granted
