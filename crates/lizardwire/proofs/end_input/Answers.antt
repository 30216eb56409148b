-- `lizardwire::end_input` is safe. Assumes nothing.
use Rattle.job_lines.proofs.LineAnswered.{counts_part}
use Rattle.lizardwire.proofs.ProgramRounds.{last_writes}
use Rattle.lizardwire.proofs.end_input.Goals as goal

pub slice_bounds-write_all-end : goal.slice_bounds-write_all-end
slice_bounds-write_all-end g c =
    let a = c.args in
    let m = last_writes a.held.now a.count a.out.now _ c.finish-last.ensures.told _ c.finish-last.ensures.written in
    m

pub slice_bounds-write_all-end-2 : goal.slice_bounds-write_all-end-2
slice_bounds-write_all-end-2 g c =
    let a = c.args in
    let m = last_writes a.held.now a.count a.out.now _ c.finish-last.ensures.told _ c.finish-last.ensures.written in
    counts_part _ _ m
