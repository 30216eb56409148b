-- `math::root::digits` meets its contract: the root digit by digit. The invariant is `Walk`. Assumes nothing.
use Rattle.math.proofs.RootDigit.{Walk}
use Rattle.math.proofs.root.digits.Given as goal

abbrev pub invariant-loop-left : goal.invariant-loop-left
invariant-loop-left l = Walk l.word l.pairs l.initial.root l.initial.rest l.root l.rest l.left
