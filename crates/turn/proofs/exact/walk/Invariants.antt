-- `turn::exact::walk` meets its contract. Assumes nothing.
use mathlib.Core.Bool.{true, false}
use Rattle.turn.specs.Digits.{side_digit}
use Rattle.turn.proofs.Walking.{Walk}
use Rattle.turn.proofs.exact.walk.Given as goal

abbrev pub invariant-loop-k : goal.invariant-loop-k
invariant-loop-k l = Walk (side_digit false l.s) (side_digit true l.s) l.from l.k l.left l.right
