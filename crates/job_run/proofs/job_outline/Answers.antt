-- `job_run::job_outline` meets its contract. Assumes nothing.
use mathlib.Core.Path.{sym, ap, ◌∙◌}
use Rattle.base.proofs.Choices.{yes, no}
use Rattle.job.specs.Jobs
use Rattle.job_run.proofs.job_outline.Goals as goal

pub returns-then-granted : goal.returns-then-granted
unfolding Jobs.job_outline
returns-then-granted c =
    let offset-gives = c.offset.ensures in
    let granted-gives = c.granted.ensures in
    let yes1 = c.if-granted.true in
    yes _ _ _ _ (c.as_region.ensures ∙ ap Jobs.as_region offset-gives) (sym granted-gives ∙ yes1)

pub returns-else-granted : goal.returns-else-granted
unfolding Jobs.job_outline
returns-else-granted c =
    let granted-gives = c.granted.ensures in
    let no1 = c.if-granted.false in
    no _ _ _ _ c.refused.ensures (sym granted-gives ∙ no1)
