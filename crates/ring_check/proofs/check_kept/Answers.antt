-- `ring_check::check_kept` meets its contract. Assumes nothing.
use borrow.Author.Tests.{lt-ltb, le-ltb}
use mathlib.Core.Path.{ap, ◌∙◌}
use Rattle.base.proofs.Choices.{yes, no}
use Rattle.ring_check.specs.Checks
use Rattle.ring_check.proofs.check_kept.Goals as goal

pub returns-then-n-lt3 : goal.returns-then-n-lt3
unfolding Checks.check_kept
returns-then-n-lt3 c = yes _ _ _ _ c.refused.ensures (lt-ltb _ _ c.if-n-lt3.true)

pub returns-else-n-lt3 : goal.returns-else-n-lt3
unfolding Checks.check_kept
returns-else-n-lt3 c =
    let check-range-gives = c.check_range.ensures in
    let no1 = c.if-n-lt3.false in
    no _ _ _ _ (c.check_in_range.ensures ∙ ap (Checks.check_in_range _ _ _ _) check-range-gives) (le-ltb _ _ no1)
