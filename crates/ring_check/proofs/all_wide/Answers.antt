-- `ring_check::all_wide` meets its contract. Assumes nothing.
use borrow.Author.Rules.{rules}
use mathlib.Core.Path.{refl}
use Rattle.ring_check.specs.Walks
use Rattle.ring_check.proofs.Exits.{all_told}
use Rattle.ring_check.proofs.all_wide.Goals as goal

pub returns : goal.returns
unfolding Walks.all_wide Walks.wide_step
returns c = all_told _ _ _ _ Walks.wide (λ k s. refl) (λ a b t h. search rules) _ c.any_edge.ensures
