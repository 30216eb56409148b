-- `front_sweep::plan_of` meets its contract. Assumes nothing.
use mathlib.Core.Path.{refl, ◌∙◌}
use Rattle.front_sweep.specs.Planning.{plan_of}
use Rattle.front_sweep.proofs.plan_of.Goals as goal

pub returns-in-Stalled : goal.returns-in-Stalled
unfolding plan_of
returns-in-Stalled c = rw c.in-Stalled.is refl

pub returns-in-Never : goal.returns-in-Never
unfolding plan_of
returns-in-Never c = rw c.in-Never.is refl

pub returns-in-Collapse : goal.returns-in-Collapse
unfolding plan_of
returns-in-Collapse c =
    c.in_time.ensures ∙ rw c.in-Collapse.is refl

pub returns-in-Split : goal.returns-in-Split
unfolding plan_of
returns-in-Split c =
    c.in_time-in-Split.ensures ∙ rw c.in-Split.is refl
