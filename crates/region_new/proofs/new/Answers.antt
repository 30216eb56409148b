-- `region_new::new` meets its contract. Assumes nothing.
use borrow.Author.Tests.{eq-eqb, ne_eqb}
use mathlib.Core.Path.{ap, ◌∙◌}
use Rattle.base.proofs.Choices.{yes, no}
use Rattle.region.specs.Checks
use Rattle.region.proofs.Loaded.{region_again}
use Rattle.region_new.proofs.Checked.{proper_as}
use Rattle.region_new.proofs.new.Goals as goal

pub returns-then-ps-eq0 : goal.returns-then-ps-eq0
unfolding Checks.region
returns-then-ps-eq0 c =
    let check-finite-gives = c.check_finite.ensures in
    let yes1 = c.if-ps-eq0.true in
    let args = c.args in
    let is = yes _ _ _ _ (c.region_finite.ensures ∙ ap (Checks.region_finite _ _) check-finite-gives) (eq-eqb _ _ yes1) in
    record {
      is = is;
      again = proper_as _ _ is (region_again.loaded args.lengths.now args.ps.now);
    }

pub returns-else-ps-eq0 : goal.returns-else-ps-eq0
unfolding Checks.region
returns-else-ps-eq0 c =
    let no1 = c.if-ps-eq0.false in
    let args = c.args in
    let is = no _ _ _ _ c.region_refused.ensures (ne_eqb _ _ no1) in
    record {
      is = is;
      again = proper_as _ _ is (region_again.loaded args.lengths.now args.ps.now);
    }
