-- `ring_check::check_by` meets its contract. Assumes nothing.
use mathlib.Core.Path.{ap, ◌∙◌}
use Rattle.ring_check.specs.Checks
use Rattle.ring_check.proofs.check_by.Goals as goal

pub returns : goal.returns
unfolding Checks.check_by
returns c = c.check_kept.ensures ∙ ap (Checks.check_kept _ _ _ _) c.kept.ensures
