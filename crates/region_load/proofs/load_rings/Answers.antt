-- `region_load::load_rings` meets its contract. Assumes nothing.
use mathlib.Core.Path.{sym, ◌∙◌}
use Rattle.base.proofs.Choices.{yes, no}
use Rattle.region_load.specs.Loads
use Rattle.region_load.proofs.load_rings.Goals as goal

pub load_fitting-requires : goal.load_fitting-requires
load_fitting-requires c = sym c.lengths_fit.ensures ∙ c.if-lengths_fit.true

pub returns-then-lengths_fit : goal.returns-then-lengths_fit
unfolding Loads.load_fitting
returns-then-lengths_fit c =
    let lengths-fit-gives = c.lengths_fit.ensures in
    let yes1 = c.if-lengths_fit.true in
    yes _ _ _ _ c.load_fitting.ensures (sym lengths-fit-gives ∙ yes1)

pub returns-else-lengths_fit : goal.returns-else-lengths_fit
unfolding Loads.load_fitting
returns-else-lengths_fit c =
    let lengths-fit-gives = c.lengths_fit.ensures in
    let no1 = c.if-lengths_fit.false in
    no _ _ _ _ c.no_load.ensures (sym lengths-fit-gives ∙ no1)
