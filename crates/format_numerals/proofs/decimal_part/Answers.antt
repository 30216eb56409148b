-- `format_numerals::decimal_part` meets its contract. Assumes nothing.
use mathlib.Core.Path.{refl}
use Rattle.format_numerals.specs.Readings.{decimal_part}
use Rattle.format_numerals.proofs.decimal_part.Goals as goal

pub returns : goal.returns
unfolding decimal_part
returns c = refl
