-- `offset_clear::right_side` meets its contract. Assumes nothing.
use mathlib.Core.Path.{◌∙◌, sym, ap}
use Rattle.offset.specs.Clear
use Rattle.offset_clear.proofs.FirstShort.{side_inside, side_on, side_outside}
use Rattle.offset_clear.proofs.right_side.Goals as goal

pub returns-in-Inside : goal.returns-in-Inside
returns-in-Inside c = side_inside _ ∙ sym (ap (Clear.right_side _) c.in-Inside.is)

pub returns-in-OnBoundary : goal.returns-in-OnBoundary
returns-in-OnBoundary c = side_on _ ∙ sym (ap (Clear.right_side _) c.in-OnBoundary.is)

pub returns-in-Outside : goal.returns-in-Outside
returns-in-Outside c = side_outside _ ∙ sym (ap (Clear.right_side _) c.in-Outside.is)
