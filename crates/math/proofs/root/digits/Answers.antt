-- `math::root::digits` meets its contract: the root digit by digit. The invariant is `Walk`. Assumes nothing.
use native.Mathlib.Omega.{arith}
use Rattle.math.proofs.RootDigit.{walk_start, walk_zero, walk_one}
use Rattle.math.proofs.root.digits.Goals as goal

pub loop-left-init : goal.loop-left-init
loop-left-init c = walk_start _ _ _ _ c.requires.root_bound c.requires.rest_bound c.requires.pairs_bound c.requires.word_bound

pub loop-left-preserved-then-step-next : goal.loop-left-preserved-then-step-next
loop-left-preserved-then-step-next c = walk_one _ _ _ _ _ _ _ (omega arith) c.loop-left.invariant c.if-step-next.true

pub loop-left-preserved : goal.loop-left-preserved
loop-left-preserved c = walk_zero _ _ _ _ _ _ _ (omega arith) c.loop-left.invariant c.if-step-next.false
