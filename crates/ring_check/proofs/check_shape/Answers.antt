-- `ring_check::check_shape` meets its contract. Assumes nothing.
use mathlib.Core.Path.{sym, ap, ◌∙◌}
use Rattle.ring_check.specs.Checks
use Rattle.ring_check.proofs.Widths.{shape_yes, shape_no}
use Rattle.ring_check.proofs.check_shape.Goals as goal

pub returns-then-granted : goal.returns-then-granted
returns-then-granted c =
    let signed-area-gives = c.signed_area.ensures in
    let granted-gives = c.granted.ensures in
    let edges-give = c.edge_refusal-r.ensures in
    shape_yes _ _ _ _ _ _ edges-give (sym granted-gives ∙ c.if-granted.true) (c.check_area.ensures ∙ ap (Checks.check_area _ _ _) signed-area-gives)

pub returns-else-granted : goal.returns-else-granted
returns-else-granted c =
    let granted-gives = c.granted.ensures in
    let edges-give = c.edge_refusal-r.ensures in
    shape_no _ _ _ _ _ _ edges-give (sym granted-gives ∙ c.if-granted.false) c.refused.ensures
