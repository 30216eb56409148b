-- `front_split::free` meets its contract. Assumes nothing.
use native.Mathlib.Omega.{arith}
use mathlib.Core.Path.{sym}
use Rattle.base.proofs.Laws.{no_round}
use Rattle.front_split.proofs.FreeSlots.{free_goes, free_found, free_all}
use Rattle.front_split.proofs.free.Goals as goal

pub loop-k-init : goal.loop-k-init
loop-k-init c = no_round _ _

pub returns-then-not-edges-k : goal.returns-then-not-edges-k
returns-then-not-edges-k c = sym (free_found _ _ c.loop-k-test.true c.loop-k.invariant c.if-not-edges-k.true)

pub loop-k-preserved : goal.loop-k-preserved
loop-k-preserved c = free_goes _ _ c.loop-k-test.true c.loop-k.invariant c.if-not-edges-k.false

pub returns : goal.returns
returns c = free_all _ _ c.loop-k.invariant (omega arith)
