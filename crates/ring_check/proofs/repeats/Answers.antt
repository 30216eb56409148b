-- `ring_check::repeats` meets its contract. Assumes nothing.
use borrow.Author.Rules.{rules}
use mathlib.Core.Path.{refl}
use Rattle.plane.specs.Plane
use Rattle.ring_check.specs.Checks
use Rattle.ring_check.proofs.Exits.{any_told}
use Rattle.ring_check.proofs.repeats.Goals as goal

pub returns : goal.returns
unfolding Checks.repeats Checks.repeat_step
returns c = any_told _ _ _ _ Plane.same (λ k s. refl) (λ a b t h. search rules) _ c.any_edge.ensures
