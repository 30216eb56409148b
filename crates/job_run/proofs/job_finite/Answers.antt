-- `job_run::job_finite` meets its contract. Assumes nothing.
use Rattle.job_run.proofs.Rings.{finite_yes, finite_no}
use Rattle.job_run.proofs.job_finite.Goals as goal

pub returns-then-granted : goal.returns-then-granted
returns-then-granted c =
    let yes1 = c.if-granted.true in
    let granted-gives = c.granted.ensures in
    finite_yes _ _ _ _ _ _ _ yes1 granted-gives c.job_fitting.ensures

pub returns-else-granted : goal.returns-else-granted
returns-else-granted c =
    let no1 = c.if-granted.false in
    let granted-gives = c.granted.ensures in
    finite_no _ _ _ _ _ _ _ no1 granted-gives c.refused.ensures
