-- `math::root::root_of` meets its contract: the root of a number in two parts. Assumes nothing.
use native.Mathlib.Omega.{arith}
use Rattle.math.proofs.Roots.{root_lt, root_ge}
use Rattle.math.proofs.root.root_of.Goals as goal

pub refine-requires : goal.refine-requires
refine-requires c =
    let h = c.half_root-half.ensures in
    let lo = root_ge 67108864 h (omega arith) in
    let hi = root_lt 268435456 h (omega arith) in
    omega arith

pub digits-requires : goal.digits-requires
digits-requires c =
    let h = c.half_root-half.ensures in
    let hi = root_lt 268435456 h (omega arith) in
    record {
      root_bound = omega arith;
      rest_bound = omega arith;
      pairs_bound = omega arith;
      word_bound = omega arith;
    }
