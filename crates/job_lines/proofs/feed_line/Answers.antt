-- `job_lines::feed_line` meets its contract. Assumes nothing.
use borrow.Author.Rules.{rules}
use native.Mathlib.Nat.{le_of_lt}
use Rattle.job_lines.proofs.BlockByLines.{stop_after, stop_in, count_most, yes_step, yes_held, yes_out, no_step, no_held, no_out, cut_step, cut_held, cut_out}
use Rattle.job_lines.proofs.feed_line.Goals as goal

pub put_next-p-requires : goal.put_next-p-requires
put_next-p-requires c =
    let args = c.args in
    let yes1 = c.if-next.true in
    let m = count_most args.block.now args.at args.held.now args.count args.out.now args.used _ c.next_line-next.ensures.found
    c.requires.count_bound in
    let n = stop_in args.block.now args.at args.held.now args.count args.out.now args.used _ c.next_line-next.ensures.found yes1 in record {
      in_bounds = search rules;
      in_bounds_2 = search rules;
      at_le_stop = stop_after args.block.now args.at args.held.now args.count args.out.now args.used _
          c.next_line-next.ensures.found;
      stop_in_bounds = le_of_lt n;
      count_in_bounds = search rules;
    }

pub overflow_add-result : goal.overflow_add-result
overflow_add-result c =
    let args = c.args in
    let yes1 = c.if-next.true in
    let m = stop_in args.block.now args.at args.held.now args.count args.out.now args.used _ c.next_line-next.ensures.found yes1 in search rules

pub returns-then-p : goal.returns-then-p
returns-then-p c =
    let args = c.args in
    let yes1 = c.if-next.true in
    let yes2 = c.if-p.true in record {
      told = yes_step args.block.now args.at args.held.now args.count args.out.now args.used _ c.next_line-next.ensures.found yes1 _
          c.next_line-next.ensures.held _ c.put_next-p.ensures.told yes2;
      held = yes_held args.block.now args.at args.held.now args.count
          args.out.now args.used _ c.next_line-next.ensures.found yes1 _ c.next_line-next.ensures.held _ c.put_next-p.ensures.told yes2;
      written = yes_out args.block.now
          args.at args.held.now args.count args.out.now args.used _ c.next_line-next.ensures.found yes1 _ c.next_line-next.ensures.held _
          c.put_next-p.ensures.told yes2 _ c.put_next-p.ensures.written;
    }

pub returns-then-next : goal.returns-then-next
returns-then-next c =
    let args = c.args in
    let yes1 = c.if-next.true in
    let no2 = c.if-p.false in record {
      told = no_step args.block.now args.at args.held.now args.count args.out.now args.used _ c.next_line-next.ensures.found yes1 _
          c.next_line-next.ensures.held _ c.put_next-p.ensures.told no2 _ c.choose.ensures;
      held = no_held args.block.now args.at args.held.now
          args.count args.out.now args.used _ c.next_line-next.ensures.found yes1 _ c.next_line-next.ensures.held _ c.put_next-p.ensures.told no2;
      written = no_out
          args.block.now args.at args.held.now args.count args.out.now args.used _ c.next_line-next.ensures.found yes1 _
          c.next_line-next.ensures.held _ c.put_next-p.ensures.told no2 _ c.put_next-p.ensures.written;
    }

pub returns : goal.returns
returns c =
    let args = c.args in
    let no1 = c.if-next.false in record {
      told = cut_step args.block.now args.at args.held.now args.count args.out.now args.used _ c.next_line-next.ensures.found no1;
      held = cut_held args.block.now args.at args.held.now args.count args.out.now args.used _ c.next_line-next.ensures.found no1 _
          c.next_line-next.ensures.held;
      written = cut_out args.block.now args.at args.held.now args.count args.out.now args.used _
          c.next_line-next.ensures.found no1;
    }
