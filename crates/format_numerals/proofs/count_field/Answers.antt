-- `format_numerals::count_field` meets its contract. Assumes nothing.
use Rattle.format_numerals.proofs.Fields.{count_none, count_long, count_led, count_read}
use Rattle.format_numerals.proofs.count_field.Goals as goal

pub returns-then-n-eq0 : goal.returns-then-n-eq0
returns-then-n-eq0 c = count_none _ c.if-n-eq0.true

pub returns-then-n-gt3 : goal.returns-then-n-gt3
returns-then-n-gt3 c = count_long _ c.if-n-gt3.true

pub returns-then-n-field : goal.returns-then-n-field
returns-then-n-field c = count_led _ c.if-n-eq0.false c.if-n-gt3.false c.if-n-field.true

pub returns : goal.returns
returns c = count_read _ _ c.if-n-eq0.false c.if-n-gt3.false c.if-n-field.false c.decimal_run.ensures
