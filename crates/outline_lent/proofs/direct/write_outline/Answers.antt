-- `outline_lent::direct::write_outline` meets its contract. Assumes nothing.
use mathlib.Core.Path.{sym, ◌∙◌}
use Rattle.outline_lent.proofs.Unstored.{count_fits, told_yes, told_short, told_no}
use borrow.Author.Rules.{rules}
use Rattle.outline_lent.proofs.direct.write_outline.Goals as goal

pub overflow_mul-result : goal.overflow_mul-result
overflow_mul-result c =
    let check-numbers-gives = c.check_numbers-c.ensures in
    let granted-gives = c.granted.ensures in
    let yes1 = c.if-granted.true in
    search (rules, count_fits _ _ check-numbers-gives (sym granted-gives ∙ yes1))

pub returns-then-n-out : goal.returns-then-n-out
returns-then-n-out c =
    let check-numbers-gives = c.check_numbers-c.ensures in
    let granted-gives = c.granted.ensures in
    let yes1 = c.if-granted.true in
    let yes2 = c.if-n-out.true in
    let write-stored-gives = c.write_stored.ensures in
    let both =
    told_yes _ _ check-numbers-gives _ _ (sym granted-gives ∙ yes1) yes2 write-stored-gives in
    record { answered = both.0; written = both.1 }

pub returns-else-n-out : goal.returns-else-n-out
returns-else-n-out c =
    let check-numbers-gives = c.check_numbers-c.ensures in
    let granted-gives = c.granted.ensures in
    let yes1 = c.if-granted.true in
    let both =
    told_short _ _ check-numbers-gives _ (sym granted-gives ∙ yes1) c.if-n-out.false in
    record { answered = both.0; written = both.1 }

pub returns-else-granted : goal.returns-else-granted
returns-else-granted c =
    let check-numbers-gives = c.check_numbers-c.ensures in
    let granted-gives = c.granted.ensures in
    let both =
    told_no _ _ check-numbers-gives _ (sym granted-gives ∙ c.if-granted.false) in
    record { answered = both.0; written = both.1 }
