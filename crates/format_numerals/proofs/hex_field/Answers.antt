-- `format_numerals::hex_field` meets its contract. Assumes nothing.
use Rattle.format_numerals.proofs.Fields.{bits_read, float_broken, float_width}
use Rattle.format_numerals.proofs.hex_field.Goals as goal

pub returns-then-field-ne16 : goal.returns-then-field-ne16
returns-then-field-ne16 c = float_width _ c.if-field-ne16.true

pub returns-in_err-bits : goal.returns-in_err-bits
returns-in_err-bits c = rw c.from_residual.ensures (float_broken _ c.if-field-ne16.false c.in_err-bits.ensures)

pub returns : goal.returns
returns c = bits_read _ _ c.if-field-ne16.false c.in_ok-bits.ensures
