-- `front_tidy::settled` meets its contract. Assumes nothing.
use mathlib.Core.Path.{refl, sym}
use Rattle.front_tidy.specs.Findings
use Rattle.front_tidy.proofs.Found.{not_settled}
use Rattle.front_tidy.proofs.settled.Goals as goal

pub returns-in-Settled : goal.returns-in-Settled
unfolding Findings.settled
returns-in-Settled c = rw c.in-Settled.is refl

pub returns-in_default : goal.returns-in_default
returns-in_default c = sym (not_settled _ c.in_default.not-Settled)
