-- `region_lent::vertices` meets its contract. Assumes nothing.
use Prim.Native.Nat.{◌+◌, ◌-◌, ◌≤◌}
use mathlib.Core.Path.{sym}
use Rattle.base.proofs.Laws.{no_round, ends}
use Rattle.region_lent.specs.Rings.{before_of}
use Rattle.region_lent.proofs.RingsWritten.{before_on, sum_bound}
use borrow.Author.Rules.{rules}
use Rattle.region_lent.proofs.vertices.Goals as goal

pub loop-k-init : goal.loop-k-init
unfolding before_of
loop-k-init c = sym (no_round _ _)

pub overflow_add-s : goal.overflow_add-s
overflow_add-s c =
    let loop-s = c.loop-k.s in
    let pre = c.requires in
    let going = c.loop-k-test.true in
    let inv = c.loop-k.invariant in
    let l : loop-s + c.ring_count-s.result ≤ 1280 = sum_bound _ _ _ pre _ _ _ going inv c.ring_count-s.ensures in search rules

pub loop-k-preserved : goal.loop-k-preserved
loop-k-preserved c =
    let inv = c.loop-k.invariant in
    before_on _ _ _ _ c.ring_count-s.ensures _ inv

pub returns : goal.returns
unfolding before_of
returns c = ends _ _ _ _ _ c.loop-k.auto.k-end c.loop-k-test.false c.loop-k.invariant
