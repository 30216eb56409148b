-- `outline_sizes::ask_both` meets its contract. Assumes nothing.
use mathlib.Core.Path.{ap, ◌∙◌}
use Rattle.outline.specs.Outlines.{ask_ring}
use Rattle.outline_sizes.proofs.ask_both.Goals as goal

pub returns : goal.returns
returns c = c.ask_ring-2.ensures ∙ ap (ask_ring _ _) c.ask_ring.ensures
