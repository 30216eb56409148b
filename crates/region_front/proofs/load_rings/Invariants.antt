-- `region_front::load_rings` meets its contract. Assumes nothing.
use mathlib.Core.Bool.{false}
use mathlib.Core.Path.{◌≡◌}
use Rattle.base.specs.Loop.{rounds}
use Rattle.front.specs.Loading.{load_ring, loaded_nothing}
use Rattle.region_front.specs.Rings.{load_next_step}
use Rattle.region_front.proofs.load_rings.Given as goal

abbrev pub invariant-loop-k : goal.invariant-loop-k
invariant-loop-k l = l.s ≡ rounds (load_next_step l.hs l.cs l.origin l.d) l.k (load_ring l.ps l.n false l.origin l.d loaded_nothing)
