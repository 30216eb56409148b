-- `math::root::half_root` meets its contract: a guess that passes the two tests is the root. Assumes nothing.
use Prim.Native.Nat.{◌*◌, ◌≤◌, ◌^◌}
use native.Mathlib.Nat.{mul-le-mul, le_of_lt}
use native.Mathlib.Omega.{arith}
use Rattle.math.proofs.root.half_root.Goals as goal

pub overflow_mul-square : goal.overflow_mul-square
overflow_mul-square c =
    let h : c.guess-root.result * c.guess-root.result ≤ 2 ^ 28 * 2 ^ 28 = mul-le-mul (le_of_lt c.guess-root.ensures) (le_of_lt c.guess-root.ensures) in
    omega arith
