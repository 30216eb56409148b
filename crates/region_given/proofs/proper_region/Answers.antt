-- `region_given::proper_region` meets its contract. Assumes nothing.
use mathlib.Core.Bool.{true≢false}
use borrow.Author.Tests.{lt-leb}
use mathlib.Core.Path.{sym, ◌∙◌}
use Rattle.region_given.proofs.Parts.{many_holes, outer_fails, by_holes}
use Rattle.region_given.proofs.proper_region.Goals as goal
use Rattle.region_given.proofs.proper_region.Goals.{then-h-le8, else-h-le8}

pub returns-then-proper : goal.returns-then-proper
returns-then-proper c =
    elim c.if-h-le8.branch [
      | then-h-le8 w ↦ by_holes _ _ _ _ _ _ _ w.proper.ensures w.value-is _ w.if-h-le8.true c.if-proper.true c.proper_holes.ensures
      | else-h-le8 w ↦ absurd (true≢false (sym c.if-proper.true ∙ w.value-is ∙ lt-leb _ _ w.if-h-le8.false))
    ]

pub returns-else-proper : goal.returns-else-proper
returns-else-proper c =
    elim c.if-h-le8.branch [
      | then-h-le8 w ↦ outer_fails _ _ _ _ _ _ _ w.proper.ensures w.value-is c.if-proper.false
      | else-h-le8 w ↦ many_holes _ _ _ _ _ _ (w.value-is ∙ lt-leb _ _ w.if-h-le8.false) w.if-h-le8.false
    ]
