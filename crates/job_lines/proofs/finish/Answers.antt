-- `job_lines::finish` meets its contract. Assumes nothing.
use mathlib.Core.List.{[]}
use native.Mathlib.Nat.{le_trans}
use Rattle.job_stream.specs.declared.Outcome.TheVariants.{Unheld, Miscounted}
use Rattle.job_lines.proofs.BlockByLines.{short_held, short_ends, much_held, much_ends, unheld_told, unheld_written, none_told, none_written, last_told, last_written}
use Rattle.job_lines.proofs.LineAnswered.{counts_part}
use Rattle.job_lines.proofs.finish.Goals as goal

pub returns-then-held-lt16385 : goal.returns-then-held-lt16385
returns-then-held-lt16385 c =
    let a = c.args in
    let n = short_held [] a.held.now a.count a.out.now c.if-held-lt16385.true in
    let e = short_ends [] a.held.now a.count a.out.now c.if-held-lt16385.true in
    record {
      told = unheld_told [] a.held.now a.count a.out.now n Unheld e;
      written = unheld_written [] a.held.now a.count a.out.now n Unheld e;
    }

pub returns-then-count-gt16385 : goal.returns-then-count-gt16385
returns-then-count-gt16385 c =
    let no1 = c.if-held-lt16385.false in
    let yes2 = c.if-count-gt16385.true in
    let a = c.args in
    let n = much_held [] a.held.now a.count a.out.now no1 yes2 in
    let e = much_ends [] a.held.now a.count a.out.now no1 yes2 in
    record {
      told = unheld_told [] a.held.now a.count a.out.now n Miscounted e;
      written = unheld_written [] a.held.now a.count a.out.now n Miscounted e;
    }

pub returns-then-count-eq0 : goal.returns-then-count-eq0
returns-then-count-eq0 c =
    let no1 = c.if-held-lt16385.false in
    let no2 = c.if-count-gt16385.false in
    let yes3 = c.if-count-eq0.true in
    let a = c.args in record {
      told = none_told [] a.held.now a.count a.out.now no1 no2 yes3;
      written = none_written [] a.held.now a.count a.out.now no1 no2 yes3;
    }

pub slice_bounds-put_answer-end : goal.slice_bounds-put_answer-end
slice_bounds-put_answer-end c =
    let no2 = c.if-count-gt16385.false in
    let no1 = c.if-held-lt16385.false in
    counts_part _ _ (le_trans no2 no1)

pub returns : goal.returns
returns c =
    let a = c.args in
    let h = c.if-held-lt16385.false in
    let m = c.if-count-gt16385.false in
    let z = c.if-count-eq0.false in
    record {
      told = last_told [] a.held.now a.count a.out.now h m z _ _ c.put_answer-p.ensures.told c.how_ended.ensures;
      written = last_written [] a.held.now a.count a.out.now h m z _ c.put_answer-p.ensures.written;
    }
