-- `job_lines::put_answer` meets its contract. Assumes nothing.
use borrow.Author.Rules.{rules}
use Rattle.job_lines.proofs.Puts.{needed_in, end_in, yes_size, yes_told, yes_written, no_told, no_written, end_told, end_written}
use Rattle.job_lines.proofs.put_answer.Goals as goal

pub overflow_add-end : goal.overflow_add-end
overflow_add-end c =
    let a = c.args in
    let h = c.if-used-size.true in
    let g = c.granted.ensures in
    let t = c.if-granted.true in
    let m = end_in a.line.now a.out.now a.used h _ c.answer_with-a.ensures.answered _ g t in
    search rules

pub bounds-out-end : goal.bounds-out-end
bounds-out-end c =
    let a = c.args in
    let h = c.if-used-size.true in
    let g = c.granted.ensures in
    let t = c.if-granted.true in
    yes_size a.line.now a.out.now a.used h _ c.answer_with-a.ensures.answered _ g t _ c.answer_with-a.ensures.written

pub overflow_add-result : goal.overflow_add-result
overflow_add-result c =
    let a = c.args in
    let h = c.if-used-size.true in
    let g = c.granted.ensures in
    let t = c.if-granted.true in
    let m = end_in a.line.now a.out.now a.used h _ c.answer_with-a.ensures.answered _ g t in
    search rules

pub overflow_add-result-then-granted : goal.overflow_add-result-then-granted
overflow_add-result-then-granted c =
    let a = c.args in
    let h = c.if-used-size.true in
    let g = c.granted.ensures in
    let t = c.if-granted.true in
    let m = end_in a.line.now a.out.now a.used h _ c.answer_with-a.ensures.answered _ g t in
    search rules

pub returns-then-granted : goal.returns-then-granted
returns-then-granted c =
    let a = c.args in
    let h = c.if-used-size.true in
    let g = c.granted.ensures in
    let t = c.if-granted.true in
    record {
      told = yes_told a.line.now a.out.now a.used h _ c.answer_with-a.ensures.answered _ g t;
      written = yes_written a.line.now a.out.now a.used h _ c.answer_with-a.ensures.answered _ g t _ c.answer_with-a.ensures.written;
    }

pub bytes_needed-requires : goal.bytes_needed-requires
bytes_needed-requires c =
    let a = c.args in
    needed_in a.line.now _ _ c.answer_with-a.ensures.answered

pub returns-then-used-size : goal.returns-then-used-size
returns-then-used-size c =
    let a = c.args in
    let h = c.if-used-size.true in
    let g = c.granted.ensures in
    let t = c.if-granted.false in
    record {
      told = no_told a.line.now a.out.now a.used h _ c.answer_with-a.ensures.answered _ g t _ c.bytes_needed.ensures;
      written = no_written a.line.now a.out.now a.used h _ c.answer_with-a.ensures.answered _ g t _ c.answer_with-a.ensures.written;
    }

pub bytes_needed-requires-2 : goal.bytes_needed-requires-2
bytes_needed-requires-2 c =
    let a = c.args in
    needed_in a.line.now _ _ c.answer_with-b.ensures.answered

pub returns : goal.returns
returns c =
    let a = c.args in
    let h = c.if-used-size.false in
    record {
      told = end_told a.line.now a.out.now a.used h _ _ c.answer_with-b.ensures.answered _ c.bytes_needed-2.ensures;
      written = end_written a.line.now a.out.now a.used h _ c.answer_with-b.ensures.written;
    }
