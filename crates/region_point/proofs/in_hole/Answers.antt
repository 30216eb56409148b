-- `region_point::in_hole` meets its contract. Assumes nothing.
use mathlib.Core.Path.{sym, ap}
use Rattle.region.specs.Regions
use Rattle.region_point.proofs.in_hole.Goals as goal

pub returns-in-Inside : goal.returns-in-Inside
unfolding Regions.in_hole
returns-in-Inside c = sym (ap Regions.in_hole c.in-Inside.is)

pub returns-in-OnBoundary : goal.returns-in-OnBoundary
unfolding Regions.in_hole
returns-in-OnBoundary c = sym (ap Regions.in_hole c.in-OnBoundary.is)

pub returns-in-Outside : goal.returns-in-Outside
unfolding Regions.in_hole
returns-in-Outside c = sym (ap Regions.in_hole c.in-Outside.is)
