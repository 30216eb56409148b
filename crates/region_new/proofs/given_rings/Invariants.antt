-- `region_new::given_rings` meets its contract. Assumes nothing.
use mathlib.Core.Path.{◌≡◌}
use Rattle.region_new.proofs.GivenRings.{region_at, giving}
use Rattle.region_new.proofs.given_rings.Given as goal

abbrev pub invariant-loop-k : goal.invariant-loop-k
invariant-loop-k l = giving l.outer l.hs l.cs l.k ≡ region_at l.outer l.points l.counts l.k
