-- `region_new::without_holes` meets its contract. Assumes nothing.
use mathlib.Core.Path.{refl, sym, ◌∙◌}
use Rattle.base.proofs.Choices.{yes, no}
use Rattle.region.specs.Regions
use Rattle.region.specs.Checks
use Rattle.region.proofs.Loaded.{region_again}
use Rattle.region_new.proofs.Checked.{proper_as}
use Rattle.region_new.proofs.without_holes.Goals as goal

pub returns-then-proper : goal.returns-then-proper
unfolding Checks.without_holes Regions.with_outer Regions.no_region
returns-then-proper c =
    let is = yes _ _ _ _ refl (sym c.proper.ensures ∙ c.if-proper.true) in
    record {
      is = is;
      again = proper_as _ _ is (region_again.alone _);
    }

pub returns-else-proper : goal.returns-else-proper
unfolding Checks.without_holes
returns-else-proper c =
    let proper-gives = c.proper.ensures in
    let no1 = c.if-proper.false in
    let is = no _ _ _ _ c.region_refused.ensures (sym proper-gives ∙ no1) in
    record {
      is = is;
      again = proper_as _ _ is (region_again.alone _);
    }
