-- `front_sweep::act_by` meets its contract. Assumes nothing.
use mathlib.Core.Path.{refl}
use Rattle.front_sweep.specs.Acts.{act_by}
use Rattle.front_sweep.proofs.act_by.Goals as goal

pub returns-in-Refuse : goal.returns-in-Refuse
unfolding act_by
returns-in-Refuse c = rw c.in-Refuse.is refl

pub returns-in-End : goal.returns-in-End
unfolding act_by
returns-in-End c = rw c.in-End.is refl

pub returns-in-TakeCollapse : goal.returns-in-TakeCollapse
unfolding act_by
returns-in-TakeCollapse c = rw c.in-TakeCollapse.is refl

pub returns-in-TakeSplit : goal.returns-in-TakeSplit
unfolding act_by
returns-in-TakeSplit c = rw c.in-TakeSplit.is refl
