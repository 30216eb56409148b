-- `math::abs` meets its contract. Assumes nothing.
use lib.Ieee.{binary64, fits, of_bits}
use lib.Dec.{T}
use Prim.Native.Nat.{ℕ, ◌*◌, ◌^◌, ◌≤◌}
use mathlib.Core.Path.{sym, ap, subst, ◌∙◌}
use Rattle.math.proofs.Absolute.{abs_nan, abs_bits}
use Rattle.math.proofs.Values.{no_nan, same_no_nan, differs_nan, magnitude_le}
use Rattle.math.proofs.abs.Goals as goal
use Rattle.math.proofs.abs.Goals.{Start}

held : (c : Start) → T (fits binary64 c.args.x)
held c = subst T (sym c.well_formed.0.1) tt

pub returns-then-x : goal.returns-then-x
returns-then-x c = abs_nan _ (differs_nan c.args.x c.if-x.true)

pub magnitude-requires : goal.magnitude-requires
magnitude-requires c = same_no_nan c.args.x c.if-x.false

pub float_from_bits-result : goal.float_from_bits-result
float_from_bits-result c =
    let args = c.args in
    let past-here = c.before.before in
    let no1 = c.if-x.false in
    no_nan _ (subst (λ (n : ℕ). n ≤ 2047 * 2 ^ 52) (sym c.magnitude.ensures) (magnitude_le args.x (held past-here) (same_no_nan args.x no1)))

pub returns : goal.returns
returns c =
    let args = c.args in
    let past-here = c.before.before in
    let no1 = c.if-x.false in
    ap (of_bits binary64) c.magnitude.ensures ∙ abs_bits args.x (held past-here) (same_no_nan args.x no1)
