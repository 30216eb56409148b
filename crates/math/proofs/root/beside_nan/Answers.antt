-- `math::root::beside_nan` meets its contract: what stands beside a NaN decides. Assumes nothing.
use mathlib.Core.Path.{sym, subst, ◌∙◌}
use lib.Dec.{T}
use lib.Ieee.{binary64, fits}
use native.Mathlib.Omega.{arith}
use Rattle.math.proofs.Values.{no_nan, ofBits_inf, same_no_nan, differs_nan, hypot_nan_inf, hypot_nan_fin, hypot_nan_nan, zero_by_zero}
use Rattle.math.proofs.root.beside_nan.Goals as goal
use Rattle.math.proofs.root.beside_nan.Goals.{Start}

held : (c : Start) → T (fits binary64 c.args.y)
held c = subst T (sym c.well_formed.0.1) tt

pub returns-then-y : goal.returns-then-y
returns-then-y c =
    let args = c.args in
    hypot_nan_nan args.y (differs_nan args.y c.if-y.true)

pub magnitude-requires : goal.magnitude-requires
magnitude-requires c = same_no_nan c.args.y c.if-y.false

pub float_from_bits-result : goal.float_from_bits-result
float_from_bits-result c = no_nan _ (omega arith)

pub returns-then-magnitude-eq-INFINITE : goal.returns-then-magnitude-eq-INFINITE
returns-then-magnitude-eq-INFINITE c =
    let args = c.args in
    let past-here = c.before.before.before in
    let no1 = c.if-y.false in
    let magnitude-gives = c.magnitude.ensures in
    ofBits_inf ∙ hypot_nan_inf args.y (held past-here) (same_no_nan args.y no1) (sym magnitude-gives ∙ c.if-magnitude-eq-INFINITE.true)

pub returns : goal.returns
returns c =
    let args = c.args in
    let no1 = c.if-y.false in
    let magnitude-gives = c.magnitude.ensures in
    zero_by_zero ∙ hypot_nan_fin args.y (same_no_nan args.y no1) (λ h. c.if-magnitude-eq-INFINITE.false (magnitude-gives ∙ h))
