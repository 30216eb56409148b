-- `job_answer::put_head` meets its contract. Assumes nothing.
use borrow.Author.Rules.{rules}
use mathlib.Core.Path.{refl}
use Rattle.job_answer.proofs.Parts.{size_more}
use Rattle.job_answer.proofs.Whole.{head_stored}
use Rattle.job_answer.proofs.put_head.Goals as goal

pub overflow_add-second : goal.overflow_add-second
overflow_add-second c = let m = size_more _ _ c.count_size-second.ensures in search rules

pub overflow_add-second-2 : goal.overflow_add-second-2
overflow_add-second-2 c =
    let count-size-gives = c.count_size-second.ensures in
    let m = size_more _ _ count-size-gives in let n = size_more _ _ c.count_size.ensures in search rules

pub put_counts-requires-clause-at_bound : goal.put_counts-requires-clause-at_bound
put_counts-requires-clause-at_bound c =
    let m = size_more _ _ c.count_size-second.ensures in let n = size_more _ _ c.count_size.ensures in search rules

pub returns : goal.returns
returns c =
    let count-size-gives = c.count_size-second.ensures in
    let count-size2-gives = c.count_size.ensures in
    let put-bytes-gives = c.put_bytes.ensures in
    let put-count-gives = c.put_count.ensures in
    let put-count2-gives = c.put_count-2.ensures in
    let put-counts-gives = c.put_counts.ensures in
    head_stored _ _ _ _ _ _ count-size-gives count-size2-gives refl _ _ _ _ _ put-bytes-gives put-count-gives put-count2-gives put-counts-gives
