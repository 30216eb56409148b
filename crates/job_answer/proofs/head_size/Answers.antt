-- `job_answer::head_size` meets its contract. Assumes nothing.
use borrow.Author.Rules.{rules}
use Rattle.job_answer.proofs.Parts.{size_more}
use Rattle.job_answer.proofs.Whole.{head_length}
use Rattle.job_answer.proofs.head_size.Goals as goal

pub overflow_add-result : goal.overflow_add-result
overflow_add-result c = let m = size_more _ _ c.count_size.ensures in search rules

pub overflow_add-result-2 : goal.overflow_add-result-2
overflow_add-result-2 c = let m = size_more _ _ c.count_size.ensures in let n = size_more _ _ c.count_size-2.ensures in search rules

pub overflow_add-result-3 : goal.overflow_add-result-3
overflow_add-result-3 c =
    let count-size-gives = c.count_size.ensures in
    let count-size2-gives = c.count_size-2.ensures in
    let m = size_more _ _ count-size-gives in let n = size_more _ _ count-size2-gives in search rules

pub returns : goal.returns
returns c =
    let count-size-gives = c.count_size.ensures in
    let count-size2-gives = c.count_size-2.ensures in
    let m = size_more _ _ count-size-gives in
    let n = size_more _ _ count-size2-gives in record {
      size = head_length _ _ _ _ _ _ count-size-gives count-size2-gives c.counts_size.ensures.size;
      most = search rules;
    }
