-- `format_numerals::is_decimal` meets its contract. Assumes nothing.
use mathlib.Core.Path.{refl}
use Rattle.format.specs.Numerals.{is_decimal}
use Rattle.format_numerals.proofs.is_decimal.Goals as goal

pub returns : goal.returns
unfolding is_decimal
returns c = refl
