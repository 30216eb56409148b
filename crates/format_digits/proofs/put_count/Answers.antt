-- `format_digits::put_count` meets its contract. Assumes nothing.
use Rattle.format_digits.proofs.Puts.{stored_as}
use Rattle.format_digits.proofs.Printed.{one_digit, two_digits, three_digits}
use Rattle.format_digits.proofs.put_count.Goals as goal

pub returns-then-n-lt10 : goal.returns-then-n-lt10
returns-then-n-lt10 c =
    let put-bytes-gives = c.put_bytes.ensures in
    let yes1 = c.if-n-lt10.true in
    let decimal-digit-gives = c.decimal_digit-last.ensures in
    stored_as _ _ _ _ _ put-bytes-gives (one_digit _ _ yes1 decimal-digit-gives)

pub returns-then-n-lt100 : goal.returns-then-n-lt100
returns-then-n-lt100 c =
    let put-bytes2-gives = c.put_bytes-then-n-lt100.ensures in
    let no1 = c.if-n-lt10.false in
    let yes2 = c.if-n-lt100.true in
    let decimal-digit-gives = c.decimal_digit-last.ensures in
    let decimal-digit2-gives = c.decimal_digit-middle.ensures in
    stored_as _ _ _ _ _ put-bytes2-gives (two_digits _ _ _ no1 yes2 decimal-digit-gives decimal-digit2-gives)

pub returns-else-n-lt100 : goal.returns-else-n-lt100
returns-else-n-lt100 c =
    let put-bytes3-gives = c.put_bytes-else-n-lt100.ensures in
    let no1 = c.if-n-lt10.false in
    let no2 = c.if-n-lt100.false in
    let decimal-digit-gives = c.decimal_digit-last.ensures in
    let decimal-digit2-gives = c.decimal_digit-middle.ensures in
    let decimal-digit3-gives = c.decimal_digit.ensures in
    stored_as _ _ _ _ _ put-bytes3-gives (three_digits _ _ _ _ no1 no2 decimal-digit-gives decimal-digit2-gives decimal-digit3-gives)
