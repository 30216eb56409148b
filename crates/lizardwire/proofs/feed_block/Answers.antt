-- `lizardwire::feed_block` meets its contract, and ends: each round takes a byte at least. Assumes nothing.
use Prim.Native.Nat.{◌≤◌}
use native.Mathlib.Omega.{arith}
use lib.ListN.{length}
use Rattle.job_lines.proofs.LineAnswered.{counts_part}
use Rattle.lizardwire.proofs.ProgramRounds.{line_starts, round_writes, round_most, round_in, round_line, round_goes, less_left, block_ends}
use borrow.Author.Rules.{rules}
use Rattle.lizardwire.proofs.feed_block.Goals as goal

pub loop-at-init : goal.loop-at-init
loop-at-init g c =
    let a = c.args in
    (search rules, c.requires.count_bound, line_starts a.block.now a.held.now a.count)

pub slice_bounds-write_all-end : goal.slice_bounds-write_all-end
slice_bounds-write_all-end g c =
    let a = c.args in
    let l = c.loop-at in
    let i = l.invariant in
    let n = c.next_round-t.ensures in
    let r : 16385 ≤ length l.held = omega arith in
    round_writes a.block.now a.held.now a.count l.at l.held l.have l.out i.0 i.1 r _ _ _ n.told n.held n.written

pub slice_bounds-write_all-end-in-loop-at : goal.slice_bounds-write_all-end-in-loop-at
slice_bounds-write_all-end-in-loop-at g c =
    let a = c.args in
    let l = c.loop-at in
    let i = l.invariant in
    let n = c.next_round-t.ensures in
    let r : 16385 ≤ length l.held = omega arith in
    counts_part _ _ (round_writes a.block.now a.held.now a.count l.at l.held l.have l.out i.0 i.1 r _ _ _ n.told n.held n.written)

pub loop-at-smaller : goal.loop-at-smaller
loop-at-smaller g c =
    let a = c.args in
    let l = c.loop-at in
    let i = l.invariant in
    let n = c.next_round-t.ensures in
    let r : 16385 ≤ length l.held = omega arith in
    let o : 16385 ≤ length l.out = omega arith in
    let b = c.loop-at-test.true in
    less_left l.at _ (length a.block.now) (round_goes a.block.now a.held.now a.count l.at l.held l.have l.out i.0 i.1 r _ _ _ n.told n.held n.written o b) b

pub loop-at-preserved : goal.loop-at-preserved
loop-at-preserved g c =
    let a = c.args in
    let l = c.loop-at in
    let i = l.invariant in
    let n = c.next_round-t.ensures in
    let r : 16385 ≤ length l.held = omega arith in (
      round_in a.block.now a.held.now a.count l.at l.held l.have l.out i.0 i.1 r _ _ _ n.told n.held n.written,
      round_most a.block.now a.held.now a.count l.at l.held l.have l.out i.0 i.1 r _ _ _ n.told n.held n.written,
      round_line a.block.now a.held.now a.count l.at l.held l.have l.out i.0 i.1 r _ _ _ n.told n.held n.written i.2,
    )

pub returns : goal.returns
returns g c =
    let a = c.args in
    let l = c.loop-at in
    let i = l.invariant in
    record { taken = block_ends a.block.now a.held.now a.count l.at l.held l.have i.0 c.loop-at-test.false i.1 i.2 }
