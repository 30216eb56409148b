-- `job_lines::feed` meets its contract. Assumes nothing.
use Rattle.job_stream.specs.declared.Outcome.TheVariants.{Unheld, Miscounted}
use Rattle.job_lines.proofs.BlockByLines.{short_held, short_ends, much_held, much_ends, stuck_told, stuck_held, stuck_out, fed_told, fed_held, fed_out}
use Rattle.job_lines.proofs.feed.Goals as goal

pub returns-then-held-lt16385 : goal.returns-then-held-lt16385
returns-then-held-lt16385 c =
    let a = c.args in
    let n = short_held a.block.now a.held.now a.count a.out.now c.if-held-lt16385.true in
    let e = short_ends a.block.now a.held.now a.count a.out.now c.if-held-lt16385.true in record {
      told = stuck_told a.block.now a.held.now a.count a.out.now n Unheld e;
      held = stuck_held a.block.now a.held.now a.count a.out.now n Unheld e;
      written = stuck_out a.block.now a.held.now a.count a.out.now n Unheld e;
    }

pub returns-then-count-gt16385 : goal.returns-then-count-gt16385
returns-then-count-gt16385 c =
    let no1 = c.if-held-lt16385.false in
    let yes2 = c.if-count-gt16385.true in
    let a = c.args in
    let n = much_held a.block.now a.held.now a.count a.out.now no1 yes2 in
    let e = much_ends a.block.now a.held.now a.count a.out.now no1 yes2 in record {
      told = stuck_told a.block.now a.held.now a.count a.out.now n Miscounted e;
      held = stuck_held a.block.now a.held.now a.count a.out.now n Miscounted e;
      written = stuck_out a.block.now a.held.now a.count a.out.now n Miscounted e;
    }

pub returns : goal.returns
returns c =
    let a = c.args in
    let h = c.if-held-lt16385.false in
    let m = c.if-count-gt16385.false in
    record {
      told = fed_told a.block.now a.held.now a.count a.out.now h m _ _ c.feed_lines-t.ensures.told c.how_ended.ensures;
      held = fed_held a.block.now a.held.now a.count a.out.now h m _ c.feed_lines-t.ensures.held;
      written = fed_out a.block.now a.held.now a.count a.out.now h m _ c.feed_lines-t.ensures.written;
    }
