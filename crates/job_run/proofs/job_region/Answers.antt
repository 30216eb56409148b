-- `job_run::job_region` meets its contract. Assumes nothing.
use mathlib.Core.Path.{sym, ◌∙◌}
use Rattle.base.proofs.Choices.{yes, no}
use Rattle.job.specs.Jobs
use Rattle.job_run.proofs.job_region.Goals as goal

pub returns-then-granted : goal.returns-then-granted
unfolding Jobs.job_region
returns-then-granted c =
    let granted-gives = c.granted.ensures in
    let yes1 = c.if-granted.true in
    yes _ _ _ _ c.inset.ensures.is (sym granted-gives ∙ yes1)

pub returns-else-granted : goal.returns-else-granted
unfolding Jobs.job_region
returns-else-granted c =
    let granted-gives = c.granted.ensures in
    let no1 = c.if-granted.false in
    no _ _ _ _ c.refused.ensures (sym granted-gives ∙ no1)
