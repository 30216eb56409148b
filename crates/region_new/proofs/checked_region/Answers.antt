-- `region_new::checked_region` meets its contract. Assumes nothing.
use mathlib.Core.Path.{ap, ◌∙◌}
use Rattle.region.specs.Checks
use Rattle.region_new.proofs.Checked.{whole}
use Rattle.region_new.proofs.checked_region.Goals as goal

pub returns : goal.returns
returns c = c.region_if.ensures ∙ ap (Checks.region_if _) (c.check_region-s.ensures ∙ ap Checks.check_region (whole _))
