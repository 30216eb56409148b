-- `region_given::proper_holes` meets its contract. Assumes nothing.
use borrow.Author.Rules.{rules}
use borrow.Author.Tests.{tests}
use mathlib.Core.Path.{refl}
use Rattle.offset.proofs.Chains.{all_told}
use Rattle.region_given.specs.Given
use Rattle.region_given.proofs.proper_holes.Goals as goal

pub returns : goal.returns
unfolding Given.proper_holes Given.proper_hole_step
returns c =
    let a = c.args in
    all_told _ (Given.proper_hole a.hs.now a.cs.now) (λ k s. refl) a.h _ _ _ c.all.ensures.ran (λ x b q k. search (rules, tests))
