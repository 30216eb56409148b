-- `job_lines::bytes_needed` meets its contract. Assumes nothing.
use borrow.Author.Rules.{rules}
use Rattle.job_lines.proofs.Puts.{both_fits, both_told}
use Rattle.job_lines.proofs.bytes_needed.Goals as goal

pub overflow_add-result : goal.overflow_add-result
overflow_add-result c =
    let args = c.args in
    let new-gives = c.from.ensures in
    let pre = c.requires in
    let m = both_fits args.a _ new-gives pre in
    search rules

pub overflow_add-result-2 : goal.overflow_add-result-2
overflow_add-result-2 c =
    let args = c.args in
    let new-gives = c.from.ensures in
    let pre = c.requires in
    let m = both_fits args.a _ new-gives pre in
    search rules

pub returns : goal.returns
returns c =
    let args = c.args in
    let new-gives = c.from.ensures in
    both_told args.a _ new-gives
