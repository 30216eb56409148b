-- `front_sweep::in_time` meets its contract. Assumes nothing.

use Rattle.front_sweep.proofs.in_time.Goals as goal

pub returns-then-d-t : goal.returns-then-d-t
returns-then-d-t c = simp c.if-d-t.true

pub returns-else-d-t : goal.returns-else-d-t
returns-else-d-t c = simp c.if-d-t.false
