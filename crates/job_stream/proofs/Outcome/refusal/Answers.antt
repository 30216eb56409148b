-- `job_stream::Outcome::refusal` meets its contract. Assumes nothing.
use mathlib.Core.Path.{ap, sym}
use Rattle.job_stream.specs.Feeding.{outcome_refusal}
use Rattle.job_stream.proofs.Outcome.refusal.Goals as goal

pub returns-in-Whole : goal.returns-in-Whole
unfolding outcome_refusal
returns-in-Whole c = ap outcome_refusal (sym c.in-Whole.is)

pub returns-in-Full : goal.returns-in-Full
unfolding outcome_refusal
returns-in-Full c = ap outcome_refusal (sym c.in-Full.is)

pub returns-in-Unheld : goal.returns-in-Unheld
unfolding outcome_refusal
returns-in-Unheld c = ap outcome_refusal (sym c.in-Unheld.is)

pub returns-in-Miscounted : goal.returns-in-Miscounted
unfolding outcome_refusal
returns-in-Miscounted c = ap outcome_refusal (sym c.in-Miscounted.is)
