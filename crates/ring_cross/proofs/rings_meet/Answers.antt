-- `ring_cross::rings_meet` meets its contract: there is a pair exactly where rings meet. Assumes nothing.
use mathlib.Core.Path.{ap, ◌∙◌}
use Rattle.std.specs.Option.{is_some}
use Rattle.ring_cross.proofs.PairLaws.{met_as_before}
use Rattle.ring_cross.proofs.rings_meet.Goals as goal

pub returns : goal.returns
returns c = c.is_some.ensures ∙ ap is_some c.ring_pair.ensures ∙ met_as_before _ _ _ _
