-- `outline_lent::ask_write` meets its contract. Assumes nothing.
use mathlib.Core.Path.{ap, ◌∙◌}
use Rattle.outline.specs.Outlines.{ask_ring}
use Rattle.outline_lent.proofs.Asked.{too_many}
use Rattle.outline_lent.proofs.ask_write.Goals as goal

pub returns-then-n-le128 : goal.returns-then-n-le128
returns-then-n-le128 c = c.ask_ring.ensures ∙ ap (ask_ring _ _) c.choose-fits.ensures

pub returns-else-n-le128 : goal.returns-else-n-le128
returns-else-n-le128 c = too_many _ _ _ c.if-n-le128.false
