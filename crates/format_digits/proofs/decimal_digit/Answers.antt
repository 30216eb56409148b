-- `format_digits::decimal_digit` meets its contract. Assumes nothing.
use mathlib.Core.Path.{refl}
use Rattle.format.specs.Numerals.{decimal_digit}
use Rattle.format_digits.proofs.decimal_digit.Goals as goal

pub returns : goal.returns
unfolding decimal_digit
returns c = refl
