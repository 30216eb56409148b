-- `ring_check::edge_refusal` meets its contract. Assumes nothing.
use mathlib.Core.Path.{sym, ◌∙◌}
use mathlib.Core.Bool.{true, false}
use Rattle.ring_check.proofs.Widths.{wide_granted, refused_seven, asked_at_door, granted_within}
use Rattle.ring_check.proofs.edge_refusal.Goals as goal
use Rattle.ring_check.proofs.edge_refusal.Goals.{else-door-via-then-door+else-hairline, else-door-via-else-door}

pub returns-then-all_wide : goal.returns-then-all_wide
returns-then-all_wide c = wide_granted _ _ (sym c.all_wide.ensures ∙ c.if-all_wide.true) _ _

pub returns-then-repeats : goal.returns-then-repeats
returns-then-repeats c = refused_seven _ _ _ _ _ c.repeats.ensures c.if-repeats.true

pub returns-then-hairline : goal.returns-then-hairline
returns-then-hairline c = asked_at_door _ _ _ _ _ c.repeats.ensures true c.if-repeats.false c.if-door.true (sym c.hairline.ensures ∙ c.if-hairline.true)

pub returns : goal.returns
returns c = elim c.else-door.branch [
  | else-door-via-then-door+else-hairline w ↦
      asked_at_door _ _ _ _ _ c.repeats.ensures false c.if-repeats.false w.if-door.true (sym w.hairline.ensures ∙ w.if-hairline.false)
  | else-door-via-else-door w ↦ granted_within _ _ _ _ _ c.repeats.ensures c.if-repeats.false w.if-door.false
]
