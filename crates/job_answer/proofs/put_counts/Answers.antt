-- `job_answer::put_counts` meets its contract. Assumes nothing.
use borrow.Author.Rules.{rules}
use Rattle.job_answer.proofs.Parts.{size_more, here_start, here_next, counts_start, put_counts_next}
use Rattle.job_answer.proofs.put_counts.Goals as goal

pub loop-k-init : goal.loop-k-init
loop-k-init c = (search rules, here_start _ _, counts_start _ _ _)

pub overflow_add-here : goal.overflow_add-here
overflow_add-here c = let m = size_more _ _ c.count_size-here.ensures in search rules

pub loop-k-preserved : goal.loop-k-preserved
loop-k-preserved c =
    let count-size-gives = c.count_size-here.ensures in
    let inv = c.loop-k.invariant in
    let count-at-gives = c.count_at-c.ensures in
    let put-count-gives = c.put_count.ensures in
    let m = size_more _ _ count-size-gives in (
      search rules,
      here_next _ _ _ _ _ _ inv.1 count-at-gives count-size-gives,
      put_counts_next _ _ _ _ _ _ _ _
          inv.2 inv.1 count-at-gives put-count-gives,
    )
