-- `ring_check::short` meets its contract. Assumes nothing.
use mathlib.Core.Path.{sym, ap, ◌∙◌}
use mathlib.Core.Bool.{not}
use Rattle.ring_check.proofs.Widths.{wide_long}
use Rattle.ring_check.proofs.short.Goals as goal

pub returns-else-not-wide : goal.returns-else-not-wide
returns-else-not-wide c = ap not c.if-not-wide.false ∙ sym (wide_long _ _ (sym c.wide.ensures ∙ c.if-not-wide.false))
