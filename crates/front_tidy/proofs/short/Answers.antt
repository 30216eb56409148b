-- `front_tidy::short` meets its contract. Assumes nothing.
use Rattle.front_tidy.specs.Findings
use mathlib.Core.Path.{refl}
use Rattle.front_tidy.proofs.short.Goals as goal

pub returns : goal.returns
unfolding Findings.short
returns c = refl
