-- `format_digits::count_size` meets its contract. Assumes nothing.
use Rattle.format_digits.proofs.Printed.{one_size, two_size, three_size}
use Rattle.format_digits.proofs.count_size.Goals as goal

pub returns-then-n-lt10 : goal.returns-then-n-lt10
returns-then-n-lt10 c = one_size _ c.if-n-lt10.true

pub returns-then-n-lt100 : goal.returns-then-n-lt100
returns-then-n-lt100 c = two_size _ c.if-n-lt10.false c.if-n-lt100.true

pub returns-else-n-lt100 : goal.returns-else-n-lt100
returns-else-n-lt100 c = three_size _ c.if-n-lt10.false c.if-n-lt100.false
