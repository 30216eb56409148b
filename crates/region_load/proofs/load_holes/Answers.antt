-- `region_load::load_holes` meets its contract. Assumes nothing.
use borrow.Author.Rules.{rules}
use Prim.Native.Nat.{◌*◌}
use native.Mathlib.Omega.{arith}
use mathlib.Core.Path.{sym, ◌∙◌}
use borrow.Author.Tests.{not-true, not-false}
use Rattle.region.proofs.LengthsFit.{some_ring}
use Rattle.base.proofs.Lists.{part_from}
use Rattle.region_load.proofs.Sums.{one_ring, next_ring, there, next_there}
use Rattle.region_load.proofs.Rings.{none_loaded, ring_loaded, ring_refused, all_loaded}
use Rattle.region_load.proofs.load_holes.Goals as goal

pub loop-k-init : goal.loop-k-init
loop-k-init c =
    let first = c.count_at-start.ensures ∙ sym (one_ring _) in
    let fit = c.requires in
    (first, there _ _ fit 1 _ (some_ring _ _ fit) first, none_loaded _ _ _ _ c.count_at-start.ensures)

pub returns-then-not-granted : goal.returns-then-not-granted
returns-then-not-granted c =
    let refused = sym c.granted.ensures ∙ not-true _ c.if-not-granted.true-raw in
    c.loaded.ensures ∙
    ring_refused _ _ _ _ _ _ _ c.loop-k.invariant.2 _ c.count_at-n.ensures _
    (part_from c.args.ps.now (2 * c.loop-k.start)) _ c.check_door-c.ensures _
    c.no_outline-none.ensures (omega (arith, c.less-last.ensures, c.loop-k-test.true)) refused

pub overflow_add-start : goal.overflow_add-start
overflow_add-start c =
    let more = next_there _ _ c.requires _ _ _ (omega (arith, c.less-last.ensures, c.loop-k-test.true)) c.loop-k.invariant.0 c.count_at-n.ensures in
    search (rules, more)

pub loop-k-preserved : goal.loop-k-preserved
loop-k-preserved c =
    let inv = c.loop-k.invariant in
    let n = c.count_at-n.ensures in
    let more = next_there _ _ c.requires _ _ _ (omega (arith, c.less-last.ensures, c.loop-k-test.true)) inv.0 n in
    let put = c.put_hole.ensures in (
      next_ring _ _ _ _ inv.0 n,
      more,
      ring_loaded _ _ _ _ _ _ _ inv.2 _ n _ (part_from c.args.ps.now (2 * c.loop-k.start)) _ c.check_door-c.ensures _ _
          (sym c.granted.ensures ∙ not-false _ c.if-not-granted.false-raw) put.numbers put.vertices,
    )

pub returns : goal.returns
returns c =
    c.loaded-2.ensures ∙
    all_loaded _ _ _ _ _ _ _ c.loop-k.invariant.2 _ c.less-last.ensures c.loop-k.auto.k-end c.loop-k-test.false
