-- `math::root::square` meets its contract: a square in two parts. Assumes nothing.
use native.Mathlib.Omega.{arith}
use Rattle.math.proofs.Squares as by
use Rattle.math.proofs.root.square.Goals as goal

pub overflow_mul-cross : goal.overflow_mul-cross
overflow_mul-cross c = let h = by.halves c.args.m c.requires in omega arith

pub overflow_mul-cross-2 : goal.overflow_mul-cross-2
overflow_mul-cross-2 c = let h = by.halves c.args.m c.requires in omega arith

pub overflow_mul-lo : goal.overflow_mul-lo
overflow_mul-lo c = let h = by.halves c.args.m c.requires in omega arith

pub overflow_add-lo : goal.overflow_add-lo
overflow_add-lo c = let h = by.halves c.args.m c.requires in omega arith

pub overflow_mul-hi : goal.overflow_mul-hi
overflow_mul-hi c = let h = by.halves c.args.m c.requires in omega arith

pub overflow_add-hi : goal.overflow_add-hi
overflow_add-hi c = let h = by.halves c.args.m c.requires in omega arith

pub overflow_add-hi-2 : goal.overflow_add-hi-2
overflow_add-hi-2 c = let h = by.halves c.args.m c.requires in omega arith

pub returns : goal.returns
returns c = by.joined (by.halves c.args.m c.requires)
