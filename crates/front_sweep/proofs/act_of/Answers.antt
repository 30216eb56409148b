-- `front_sweep::act_of` meets its contract. Assumes nothing.
use mathlib.Core.Path.{refl, ◌∙◌}
use Rattle.front_sweep.specs.Acts.{act_of}
use Rattle.front_sweep.proofs.act_of.Goals as goal

pub returns-in-Settled : goal.returns-in-Settled
unfolding act_of
returns-in-Settled c =
    let plan-of-gives = c.plan_of.ensures in
    let arm = c.in-Settled.is in
    c.act_by.ensures ∙ rw (plan-of-gives, arm) refl

pub returns-in-SmallRing : goal.returns-in-SmallRing
unfolding act_of
returns-in-SmallRing c = rw c.in-SmallRing.is refl

pub returns-in-Straight : goal.returns-in-Straight
unfolding act_of
returns-in-Straight c = rw c.in-Straight.is refl

pub returns-in-Spike : goal.returns-in-Spike
unfolding act_of
returns-in-Spike c = rw c.in-Spike.is refl

pub returns-in-Empty : goal.returns-in-Empty
unfolding act_of
returns-in-Empty c = rw c.in-Empty.is refl
