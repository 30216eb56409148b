-- `ring_contain::place_of` meets its contract. Assumes nothing.
use mathlib.Core.Path.{◌≡◌}
use Rattle.base.specs.Loop.{rounds}
use Rattle.ring_contain.specs.Contains
use Rattle.ring.proofs.Starts.{start}
use Rattle.ring_contain.proofs.Skipped.{odd}
use Rattle.plane.specs.declared.Containment.TheVariants.{Outside}
use Rattle.ring_contain.proofs.place_of.Given as goal

abbrev pub invariant-loop-k : goal.invariant-loop-k
invariant-loop-k l = (l.a ≡ start l.ps l.n l.k) × (odd l.inside ≡ rounds (Contains.contains_step l.ps l.n (record { east = l.east; north = l.north })) l.k Outside)
