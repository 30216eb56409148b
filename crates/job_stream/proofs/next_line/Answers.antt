-- `job_stream::next_line` meets its contract. Assumes nothing.
use borrow.Author.Rules.{rules}
use Rattle.job_stream.proofs.Parts.{stop_from, from_in, direct_next, direct_kept, held_next, held_kept, cut_next, cut_kept}
use Rattle.job_stream.proofs.next_line.Goals as goal

pub returns-then-count-eq0 : goal.returns-then-count-eq0
returns-then-count-eq0 c =
    let args = c.args in
    let line-end-gives = c.line_end-stop.ensures in
    let yes1 = c.if-stop-block.true in
    let yes2 = c.if-count-eq0.true in
    record {
      found = direct_next args.block.now _ _ line-end-gives _ yes1 yes2;
      held = direct_kept args.block.now _ _ line-end-gives _ _ yes1 yes2;
    }

pub slice_bounds-hold-count : goal.slice_bounds-hold-count
slice_bounds-hold-count c =
    let args = c.args in
    let line-end-gives = c.line_end-stop.ensures in
    stop_from args.block.now _ _ line-end-gives

pub slice_bounds-hold-start : goal.slice_bounds-hold-start
slice_bounds-hold-start c =
    let args = c.args in
    let line-end-gives = c.line_end-stop.ensures in
    let m = stop_from args.block.now _ _ line-end-gives in search rules

pub returns-then-stop-block : goal.returns-then-stop-block
returns-then-stop-block c =
    let args = c.args in
    let line-end-gives = c.line_end-stop.ensures in
    let yes1 = c.if-stop-block.true in
    let no2 = c.if-count-eq0.false in
    record {
      found = held_next args.block.now _ _ line-end-gives _ _ yes1 no2 c.hold-whole.ensures.counted;
      held = held_kept args.block.now _ _ line-end-gives _ _ _ yes1 no2 c.hold-whole.ensures.held;
    }

pub slice_bounds-hold-count-2 : goal.slice_bounds-hold-count-2
slice_bounds-hold-count-2 c =
    let args = c.args in
    let line-end-gives = c.line_end-stop.ensures in
    from_in args.block.now _ _ line-end-gives _ c.min-from.ensures

pub slice_bounds-hold-start-2 : goal.slice_bounds-hold-start-2
slice_bounds-hold-start-2 c =
    let args = c.args in
    let line-end-gives = c.line_end-stop.ensures in
    let m = from_in args.block.now _ _ line-end-gives _ c.min-from.ensures in search rules

pub returns : goal.returns
returns c =
    let args = c.args in
    let line-end-gives = c.line_end-stop.ensures in
    let min-gives = c.min-from.ensures in
    let no1 = c.if-stop-block.false in
    record {
      found = cut_next args.block.now _ _ line-end-gives _ min-gives _ _ no1 c.hold-begun.ensures.counted;
      held = cut_kept args.block.now _ _ line-end-gives _
          min-gives _ _ _ no1 c.hold-begun.ensures.held;
    }
