-- `format_numerals::float_field` meets its contract. Assumes nothing.
use Rattle.format_numerals.proofs.Fields.{float_read}
use Rattle.format_numerals.proofs.float_field.Goals as goal

pub returns-in_err-bits : goal.returns-in_err-bits
returns-in_err-bits c = rw c.from_residual.ensures c.in_err-bits.ensures

pub returns : goal.returns
returns c = float_read _ _ _ c.in_ok-bits.ensures c.float_of.ensures
