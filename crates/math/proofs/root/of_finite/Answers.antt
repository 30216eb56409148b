-- `math::root::of_finite` meets its contract: the root of two finite magnitudes. Assumes nothing.
use Prim.Native.Nat.{◌*◌, ◌-◌, ◌<◌}
use native.Mathlib.Omega.{arith}
use Rattle.math.proofs.Gap.{root_small, root_large, far, near}
use Rattle.math.proofs.root.of_finite.Goals as goal

pub returns-then-d-gt27 : goal.returns-then-d-gt27
returns-then-d-gt27 c =
    let args = c.args in
    (omega arith, far args.a args.b c.requires.a_bound (omega arith))

pub rounded-requires : goal.rounded-requires
rounded-requires c =
    let exponent-result = c.exponent-x.result in
    let exponent2-result = c.exponent.result in
    let m = c.significand.result in
    let n = c.significand-2.result in
    let d = exponent-result - exponent2-result in
    let w = c.twice_root-r.ensures in
    record {
      x_bound = omega arith;
      root_bound = root_small m n (2 * d) _ _ (omega arith) (omega arith) w;
      bound = λ (p : 0 < exponent-result). root_large m n (2 * d) _ _ (omega arith) w;
    }

pub returns : goal.returns
returns c =
    let args = c.args in
    let significand-result = c.significand.result in
    let significand2-result = c.significand-2.result in
    let exponent-result = c.exponent-x.result in
    let exponent2-result = c.exponent.result in
    let significand-gives = c.significand.ensures in
    let significand2-gives = c.significand-2.ensures in
    let exponent-gives = c.exponent-x.ensures in
    let exponent2-gives = c.exponent.ensures in
    let twice-root-gives = c.twice_root-r.ensures in (
      c.rounded.ensures.0,
      c.rounded.ensures.1 _
          (near args.a args.b significand-result significand2-result exponent-result exponent2-result _ _
          significand-gives
          significand2-gives
          exponent-gives
          exponent2-gives
          (omega arith)
          twice-root-gives),
    )
