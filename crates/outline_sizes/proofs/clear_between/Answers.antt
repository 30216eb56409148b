-- `outline_sizes::clear_between` meets its contract. Assumes nothing.
use mathlib.Core.Path.{refl, sym, ap, ◌∙◌}
use Rattle.base.proofs.Choices.{yes, no}
use Rattle.math.specs.Number.{distance}
use Rattle.outline_ask.specs.Queries
use Rattle.outline_sizes.proofs.clear_between.Goals as goal

pub returns-then-rings_meet : goal.returns-then-rings_meet
unfolding Queries.clear_between
returns-then-rings_meet c = yes _ _ _ _ refl (sym c.rings_meet.ensures ∙ c.if-rings_meet.true)

pub returns : goal.returns
unfolding Queries.clear_between
returns c =
    let rings-meet-gives = c.rings_meet.ensures in
    let no1 = c.if-rings_meet.false in
    no _ _ _ _ (c.distance.ensures ∙ ap distance c.least_between.ensures) (sym rings-meet-gives ∙ no1)
