-- `job_run::job` meets its contract. Assumes nothing.
use Rattle.job_run.proofs.Rings.{job_yes, job_odd, job_no}
use Rattle.job_run.proofs.job.Goals as goal

pub returns-then-outward-lengths : goal.returns-then-outward-lengths
returns-then-outward-lengths c = job_no _ _ _ _ c.if-outward-lengths.true _ c.refused.ensures

pub returns-then-ps-ne0 : goal.returns-then-ps-ne0
returns-then-ps-ne0 c = job_odd _ _ _ _ c.if-outward-lengths.false c.if-ps-ne0.true _ c.refused-then-ps-ne0.ensures

pub returns : goal.returns
returns c = job_yes _ _ _ _ c.if-outward-lengths.false c.if-ps-ne0.false _ c.check_finite.ensures _ c.job_finite.ensures
