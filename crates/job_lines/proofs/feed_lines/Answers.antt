-- `job_lines::feed_lines` meets its contract. Assumes nothing.
use Prim.Native.Nat.{ℕ, ◌+◌, ◌≤◌, ◌<◌}
use native.Mathlib.Omega.{arith}
use lib.ListN.{length}
use Rattle.job_lines.proofs.BlockByLines.{starts, at_in, have_most, goes_on, end_told, end_held, end_out, stop_told, stop_held, stop_out}
use Rattle.job_lines.proofs.feed_lines.Goals as goal

pub loop-init : goal.loop-init
loop-init c = starts _ _ _ _

pub feed_line-s-requires-clause-count_bound : goal.feed_line-s-requires-clause-count_bound
feed_line-s-requires-clause-count_bound c =
    let a = c.args in
    have_most a.block.now a.held.now _ a.out.now _ _ _ _ _ _ c.loop.invariant c.requires.count_bound c.requires.in_bounds_3

pub feed_line-s-requires-clause-at_in_bounds : goal.feed_line-s-requires-clause-at_in_bounds
feed_line-s-requires-clause-at_in_bounds c =
    let a = c.args in
    at_in a.block.now a.held.now _ a.out.now _ _ _ _ _ _ c.loop.invariant c.requires.count_bound c.requires.in_bounds_3

pub loop-preserved : goal.loop-preserved
loop-preserved c =
    let a = c.args in
    let s = c.feed_line-s.ensures in
    goes_on a.block.now a.held.now _ a.out.now _ _ _ _ _ _ c.loop.invariant _ _ _ s.told s.held s.written c.if-not-s.false

pub returns-then-not-s : goal.returns-then-not-s
returns-then-not-s c =
    let a = c.args in
    let l = c.loop in
    let s = c.feed_line-s.ensures in
    let m = c.if-not-s.true in
    let b = c.loop-test.true in record {
      told = stop_told a.block.now a.held.now a.count a.out.now l.counter l.at l.held l.have l.out l.used l.invariant _ _ _ s.told s.held s.written m b;
      held = stop_held a.block.now a.held.now a.count a.out.now l.counter l.at l.held l.have l.out l.used l.invariant _ _ _ s.told s.held s.written m b;
      written = stop_out a.block.now a.held.now a.count a.out.now l.counter l.at l.held l.have l.out l.used l.invariant _ _ _ s.told s.held s.written m b;
    }

pub returns-else-not-s : goal.returns-else-not-s
returns-else-not-s c =
    let a = c.args in
    let k : ℕ = c.loop.counter + 1 in
    let s = c.feed_line-s.ensures in
    let r = c.feed_line-s.result in
    let n = c.feed_line-s.new in
    let e = goes_on a.block.now a.held.now _ a.out.now _ _ _ _ _ _ c.loop.invariant _ _ _ s.told s.held s.written c.if-not-s.false in
    let most : k ≤ length a.block.now + 1 = omega arith in
    let last : length a.block.now < k = omega arith in record {
      told = end_told a.block.now a.held.now a.count a.out.now k r.at n.held r.count n.out r.used e most last;
      held = end_held a.block.now a.held.now a.count a.out.now k r.at n.held r.count n.out r.used e most last;
      written = end_out a.block.now a.held.now a.count a.out.now k r.at n.held r.count n.out r.used e most last;
    }
