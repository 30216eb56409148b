-- `front_tidy::tidy_between` meets its contract. Assumes nothing.
use Rattle.front_tidy.specs.Findings
use mathlib.Core.Path.{refl, sym, ◌∙◌}
use Rattle.front_tidy.proofs.tidy_between.Goals as goal

pub returns-then-short : goal.returns-then-short
unfolding Findings.tidy_between
returns-then-short c = rw (sym c.short.ensures ∙ c.if-short.true) refl

pub returns-else-short : goal.returns-else-short
unfolding Findings.tidy_between
returns-else-short c =
    let short-gives = c.short.ensures in
    let no1 = c.if-short.false in
    rw (sym short-gives ∙ no1) c.corner_between.ensures
