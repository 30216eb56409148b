-- `job_stream::hold` meets its contract. Assumes nothing.
use borrow.Author.Rules.{rules}
use Rattle.job_stream.proofs.Parts.{in_part, counts_part, in_room, counted, holds}
use Rattle.job_stream.proofs.hold.Goals as goal

pub slice_bounds-put_bytes-end : goal.slice_bounds-put_bytes-end
slice_bounds-put_bytes-end c =
    let args = c.args in
    let less-gives = c.less.ensures in
    let min-gives = c.min-n.ensures in
    let m = in_part args.part.now _ _ _ less-gives min-gives in let q = counts_part args.part.now _ _ _ less-gives min-gives in search rules

pub overflow_add-result : goal.overflow_add-result
overflow_add-result c =
    let args = c.args in
    let less-gives = c.less.ensures in
    let min-gives = c.min-n.ensures in
    let m = in_room args.part.now _ _ _ less-gives min-gives in search rules

pub returns : goal.returns
returns c =
    let args = c.args in
    let less-gives = c.less.ensures in
    let min-gives = c.min-n.ensures in
    let put-bytes-gives = c.put_bytes.ensures in
    record {
      counted = counted args.part.now _ _ _ less-gives min-gives;
      held = holds args.part.now _ _ _ less-gives min-gives _ _ put-bytes-gives;
    }
