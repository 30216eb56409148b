-- `math::root::shrink` meets its contract: a number in two parts divided by a power of two. Assumes nothing.
use Prim.Native.Nat.{◌%◌}
use Rattle.math.proofs.Shift.{unit_pos, fits_high, fits_part, cut}
use Rattle.math.proofs.root.shrink.Goals as goal

pub nonzero_div-hi : goal.nonzero_div-hi
nonzero_div-hi c =
    unit_pos (c.args.n % 64) c.power-unit.ensures

pub nonzero_rem-lo : goal.nonzero_rem-lo
nonzero_rem-lo c =
    unit_pos (c.args.n % 64) c.power-unit.ensures

pub overflow_mul-lo : goal.overflow_mul-lo
overflow_mul-lo c =
    fits_high c.args.w.hi c.args.w.lo c.args.n _ _ c.power-unit.ensures c.power-over.ensures c.requires.n_bound c.requires.lo_bound

pub nonzero_div-lo : goal.nonzero_div-lo
nonzero_div-lo c =
    unit_pos (c.args.n % 64) c.power-unit.ensures

pub overflow_add-lo : goal.overflow_add-lo
overflow_add-lo c =
    fits_part c.args.w.hi c.args.w.lo c.args.n _ _ c.power-unit.ensures c.power-over.ensures c.requires.n_bound c.requires.lo_bound

pub nonzero_rem-result : goal.nonzero_rem-result
nonzero_rem-result c =
    unit_pos (c.args.n % 64) c.power-unit.ensures

pub returns : goal.returns
returns c =
    cut c.args.w.hi c.args.w.lo c.args.n _ _ c.power-unit.ensures c.power-over.ensures c.requires.n_bound c.requires.lo_bound
