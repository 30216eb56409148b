-- `outline_lent::write_outline` meets its contract. Assumes nothing.
use Prim.Native.Nat.{◌≤◌}
use mathlib.Core.Path.{sym, ◌∙◌}
use Rattle.outline_lent.proofs.Asked.{answered, written_yes, written_no, not_more}
use borrow.Author.Rules.{rules}
use Rattle.outline_lent.proofs.write_outline.Goals as goal

pub overflow_mul-n : goal.overflow_mul-n
overflow_mul-n c =
    let args = c.args in
    let ask-write-gives = c.ask_write-r.ensures in
    let granted-gives = c.granted.ensures in
    let l : args.n ≤ 128 = not_more _ _ _ _ ask-write-gives (sym granted-gives ∙ c.if-granted.true) in search rules

pub returns-then-granted : goal.returns-then-granted
returns-then-granted c =
    let ask-write-gives = c.ask_write-r.ensures in
    let granted-gives = c.granted.ensures in
    let yes1 = c.if-granted.true in
    let write-numbers-gives = c.write_numbers.ensures in
    record {
      answered = answered _ _ _ _ ask-write-gives;
      written = written_yes _ _ _ _ ask-write-gives _ (sym granted-gives ∙ yes1) write-numbers-gives;
    }

pub returns-else-granted : goal.returns-else-granted
returns-else-granted c =
    let ask-write-gives = c.ask_write-r.ensures in
    let granted-gives = c.granted.ensures in
    record {
      answered = answered _ _ _ _ ask-write-gives;
      written = written_no _ _ _ _ ask-write-gives (sym granted-gives ∙ c.if-granted.false);
    }
