-- `format_job::refused` meets its contract. Assumes nothing.
use mathlib.Core.Path.{refl}
use Rattle.format_job.specs.Reads.{unparsed}
use Rattle.format_job.proofs.refused.Goals as goal

pub returns : goal.returns
unfolding unparsed
returns c = refl
