-- `job_answer::no_line` meets its contract. Assumes nothing.
use borrow.Author.Rules.{rules}
use Rattle.job_answer.proofs.Parts.{size_more}
use Rattle.job_answer.proofs.Whole.{answered_yes, answered_no, written_yes, written_no, no_length, no_stored}
use Rattle.job_answer.proofs.no_line.Goals as goal

pub overflow_add-needed : goal.overflow_add-needed
overflow_add-needed c = let m = size_more _ _ c.count_size-needed.ensures in search rules

pub returns-then-out-needed : goal.returns-then-out-needed
returns-then-out-needed c =
    let count-size-gives = c.count_size-needed.ensures in
    let yes1 = c.if-out-needed.true in
    record {
      answered = answered_no _ _ _ (no_length _ _ count-size-gives) yes1;
      written = written_no _ _ _ (no_length _ _ count-size-gives) yes1;
    }

pub returns : goal.returns
returns c =
    let count-size-gives = c.count_size-needed.ensures in
    let no1 = c.if-out-needed.false in
    let put-bytes-gives = c.put_bytes.ensures in
    let put-count-gives = c.put_count.ensures in record {
      answered = answered_yes _ _ _ (no_length _ _ count-size-gives) no1;
      written = written_yes _ _ _ (no_length _ _ count-size-gives) no1 _
          (no_stored _ _ _ _ put-bytes-gives put-count-gives);
    }
