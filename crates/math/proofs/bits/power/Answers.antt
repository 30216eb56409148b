-- `math::bits::power` meets its contract: a shift of one is a power of two. Assumes nothing.
use native.Mathlib.Omega.{arith}
use mathlib.Core.Path.{ap, ◌∙◌}
use Prim.Native.Nat.{ℕ, ◌^◌, ◌%◌}
use native.Mathlib.Nat.{one-mul, mod-lt, mod-eq_of_lt}
use lib.Pow.{pow-lt}
use Rattle.math.proofs.bits.power.Goals as goal

pub returns : goal.returns
returns c =
    let n = c.args.n in
    ap (λ (x : ℕ). x % 2 ^ 64) (one-mul (2 ^ (n % 64))) ∙ mod-eq_of_lt (pow-lt (mod-lt n (omega arith)))
