-- `front_tidy::meeting_or` meets its contract. Assumes nothing.
use mathlib.Core.Path.{◌∙◌}
use Rattle.front_tidy.proofs.Dropped.{meets}
use Rattle.front_tidy.proofs.meeting_or.Goals as goal

pub returns : goal.returns
returns c = c.unwrap_or.ensures ∙ meets _ _ _ _ c.midpoint.ensures
