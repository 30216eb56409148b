-- `ring_check::hairline` meets its contract. Assumes nothing.
use borrow.Author.Rules.{rules}
use mathlib.Core.Path.{refl}
use lib.Ieee.{lt}
use Rattle.plane.specs.Plane
use Rattle.plane.specs.Points
use Rattle.ring_check.specs.Checks
use Rattle.ring_check.proofs.Exits.{any_told}
use Rattle.ring_check.proofs.hairline.Goals as goal

pub returns : goal.returns
unfolding Checks.hairline Checks.hairline_step Checks.short_edge
returns c = any_told _ _ _ _ (λ a b. lt (Points.length_of (Plane.sub b a)) Checks.hairline_length) (λ k s. refl) (λ a b t h. search rules) _ c.any_edge.ensures
