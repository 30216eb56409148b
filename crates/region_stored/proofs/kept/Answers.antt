-- `region_stored::kept` meets its contract. Assumes nothing.
use mathlib.Core.Path.{sym, ◌∙◌}
use Rattle.region_stored.proofs.Again.{kept_yes, kept_no}
use Rattle.region_stored.proofs.kept.Goals as goal

pub proper_holes-requires : goal.proper_holes-requires
proper_holes-requires c = sym c.lengths_fit.ensures ∙ c.if-lengths_fit.true

pub returns-then-lengths_fit : goal.returns-then-lengths_fit
returns-then-lengths_fit c =
    let fit = c.lengths_fit.ensures in
    let yes1 = c.if-lengths_fit.true in
    let n = c.count_at-n.ensures in
    kept_yes _ _ (sym fit ∙ yes1) _ n _ _ c.proper.ensures c.proper_holes.ensures

pub returns-else-lengths_fit : goal.returns-else-lengths_fit
returns-else-lengths_fit c = kept_no _ _ (sym c.lengths_fit.ensures ∙ c.if-lengths_fit.false)
