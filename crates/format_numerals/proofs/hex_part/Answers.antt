-- `format_numerals::hex_part` meets its contract. Assumes nothing.
use mathlib.Core.Path.{refl}
use Rattle.format_numerals.specs.Readings.{hex_part}
use Rattle.format_numerals.proofs.hex_part.Goals as goal

pub returns : goal.returns
unfolding hex_part
returns c = refl
