-- `math::root::of_magnitudes` meets its contract: an infinity, or the root of two finite magnitudes. Assumes nothing.
use native.Mathlib.Omega.{arith}
use Rattle.math.proofs.Values.{no_nan, ofBits_inf}
use Rattle.math.proofs.root.of_magnitudes.Goals as goal

pub float_from_bits-result : goal.float_from_bits-result
float_from_bits-result c = no_nan _ (omega arith)

pub returns-then-a-eq-INFINITE : goal.returns-then-a-eq-INFINITE
returns-then-a-eq-INFINITE c = record { infinite = λ _. ofBits_inf; finite = λ h. absurd (omega arith) }

pub float_from_bits-result-2 : goal.float_from_bits-result-2
float_from_bits-result-2 c = no_nan _ c.of_finite.ensures.0

pub returns : goal.returns
returns c = record { infinite = λ e. absurd (c.if-a-eq-INFINITE.false e); finite = λ _. c.of_finite.ensures.1 }
