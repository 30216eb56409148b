-- `math::root::fourth` meets its contract: a fourth, rounded. Assumes nothing.
use native.Mathlib.Omega.{arith}
use Rattle.math.proofs.Rounding.{one_at_most, fourth_of}
use Rattle.math.proofs.root.fourth.Goals as goal

pub overflow_add-result : goal.overflow_add-result
overflow_add-result c = omega (arith, one_at_most c.args.root c.args.rest c.choose.result c.choose.ensures)

pub returns : goal.returns
returns c = fourth_of c.args.root c.args.rest c.choose.result c.choose.ensures
