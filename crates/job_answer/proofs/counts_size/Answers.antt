-- `job_answer::counts_size` meets its contract. Assumes nothing.
use borrow.Author.Rules.{rules}
use mathlib.Core.Path.{sym, ap}
use lib.ListN.{length}
use Rattle.job_answer.proofs.Parts.{no_counts, size_most, size_next}
use Rattle.job_answer.proofs.counts_size.Goals as goal

pub loop-k-init : goal.loop-k-init
loop-k-init c = (search rules, ap length (sym (no_counts _)))

pub overflow_add-size : goal.overflow_add-size
overflow_add-size c =
    let inv = c.loop-k.invariant in
    let m = size_most _ _ _ _ inv.0 c.count_size-size.ensures in search rules

pub loop-k-preserved : goal.loop-k-preserved
loop-k-preserved c =
    let inv = c.loop-k.invariant in
    let count-size-gives = c.count_size-size.ensures in
    let count-at-gives = c.count_at.ensures in
    (size_most _ _ _ _ inv.0 count-size-gives, size_next _ _ _ _ _ count-at-gives count-size-gives inv.1)
