-- `format_numerals::is_hex` meets its contract. Assumes nothing.
use mathlib.Core.Path.{refl}
use Rattle.format.specs.Numerals.{is_hex, is_decimal}
use Rattle.format_numerals.proofs.is_hex.Goals as goal

pub returns : goal.returns
unfolding is_hex is_decimal
returns c = refl
