-- `job_lines::put_next` meets its contract. Assumes nothing.
use Rattle.job_lines.proofs.BlockByLines.{direct_told, direct_written, held_told, held_written}
use Rattle.job_lines.proofs.LineAnswered.{counts_part}
use Rattle.job_lines.proofs.put_next.Goals as goal

pub returns-then-next : goal.returns-then-next
returns-then-next c =
    let args = c.args in
    let yes1 = c.if-next.true in
    record {
      told = direct_told _ _ args.next _ _ _ _ yes1 c.put_answer.ensures.told;
      written = direct_written _ _ args.next _ _ _ _ yes1 c.put_answer.ensures.written;
    }

pub slice_bounds-put_answer-end-2 : goal.slice_bounds-put_answer-end-2
slice_bounds-put_answer-end-2 c =
    counts_part _ _ c.requires.count_in_bounds

pub returns : goal.returns
returns c =
    let args = c.args in
    let no1 = c.if-next.false in
    record {
      told = held_told _ _ args.next _ _ _ _ no1 c.put_answer-2.ensures.told;
      written = held_written _ _ args.next _ _ _ _ no1 c.put_answer-2.ensures.written;
    }
