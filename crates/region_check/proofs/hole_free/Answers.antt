-- `region_check::hole_free` meets its contract. Assumes nothing.
use mathlib.Core.Bool.{not}
use mathlib.Core.Path.{ap, sym, ◌∙◌}
use Rattle.offset_clear.proofs.FirstShort.{and_right, and_wrong}
use Rattle.region.specs.Checks
use Rattle.region_check.proofs.hole_free.Goals as goal

pub returns-then-all_inside : goal.returns-then-all_inside
unfolding Checks.hole_free
returns-then-all_inside c = and_right _ _ _ (sym c.all_inside.ensures ∙ c.if-all_inside.true) (ap not c.rings_meet.ensures)

pub returns-else-all_inside : goal.returns-else-all_inside
unfolding Checks.hole_free
returns-else-all_inside c = c.if-all_inside.false ∙ and_wrong _ _ (sym c.all_inside.ensures ∙ c.if-all_inside.false)
