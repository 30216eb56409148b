-- `math::root::twice_root` meets its contract: twice the root of the sum of the two squares. Assumes nothing.
use native.Mathlib.Omega.{arith}
use Prim.Native.Nat.{◌<◌, ◌^◌}
use Rattle.math.proofs.Sums as by
use Rattle.math.proofs.root.twice_root.Goals as goal
use Rattle.math.proofs.root.twice_root.Goals.{After-shrink-b, Start}

module _ (c : After-shrink-b) where
  abbrev at : Start
  at = c.before.before.before

  small : (c.square-a.result.hi < 2 ^ 54) × (c.square-a.result.lo < 2 ^ 54) × (c.shrink-b.result.hi < 2 ^ 54) × (c.shrink-b.result.lo < 2 ^ 54)
  small = (
    by.hi_lt c.args.m c.requires.m_bound c.square-a.ensures,
    c.square-a.ensures.lo_lt,
    by.cut_lt (by.hi_lt c.args.n c.requires.n_bound c.square.ensures) c.square.ensures.lo_lt c.shrink-b.ensures,
    c.shrink-b.ensures.lo_lt,
  )

pub shrink-b-requires : goal.shrink-b-requires
shrink-b-requires c =
    let args = c.args in
    let square2-gives = c.square.ensures in
    record {
      n_bound = omega arith;
      hi_bound = by.hi_lt args.n c.requires.n_bound square2-gives;
      lo_bound = square2-gives.lo_lt;
    }

pub overflow_add-hi : goal.overflow_add-hi
overflow_add-hi c =
    let past-here = c.before.before.before.before in
    omega (arith, small past-here)

pub overflow_add-hi-2 : goal.overflow_add-hi-2
overflow_add-hi-2 c =
    let past-here = c.before.before.before.before in
    omega (arith, small past-here)

pub root_of-r-requires : goal.root_of-r-requires
root_of-r-requires c =
    let past-here = c.before.before.before.before in
    record {
      hi_bound = omega (arith, small past-here);
      lo_bound = omega (arith, small past-here);
    }

pub overflow_add-result : goal.overflow_add-result
overflow_add-result c =
    let past-here = c.before.before.before.before.before.before.before in
    let root-of-gives = c.root_of-r.ensures in
    let shrink-gives = c.shrink-b.ensures in
    let s = small past-here in
    let r = by.root_fits root-of-gives (omega arith) in
    let t = c.root_of-r.ensures.under in
    let l = by.lost_small c.args.d c.requires.d_bound shrink-gives in
    omega arith

pub returns : goal.returns
returns c =
    let root-of-gives = c.root_of-r.ensures in
    by.twice c.args.m c.args.n c.args.d
    c.square-a.ensures c.square.ensures c.shrink-b.ensures root-of-gives
