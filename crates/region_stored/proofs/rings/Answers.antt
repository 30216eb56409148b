-- `region_stored::rings` meets its contract. Assumes nothing.
use borrow.Author.Rules.{rules}
use Prim.Native.Nat.{◌*◌}
use native.Mathlib.Omega.{arith}
use mathlib.Core.Path.{sym, ◌∙◌}
use Rattle.region.proofs.LengthsFit.{some_ring}
use Rattle.base.proofs.Lists.{part_from}
use Rattle.region_load.proofs.Sums.{one_ring, next_ring, there, next_there}
use Rattle.region_stored.proofs.Walks.{none_kept, hole_kept, all_kept}
use Rattle.region_stored.proofs.rings.Goals as goal

pub loop-k-init : goal.loop-k-init
loop-k-init c =
    let first = c.count_at-start.ensures ∙ sym (one_ring _) in
    (first, there _ _ c.requires 1 _ (some_ring _ _ c.requires) first, none_kept _ _ _ _ c.count_at-start.ensures c.stored_outline-outer.ensures)

pub overflow_add-start : goal.overflow_add-start
overflow_add-start c =
    let more = next_there _ _ c.requires _ _ _ (omega (arith, c.less-last.ensures, c.loop-k-test.true)) c.loop-k.invariant.0 c.count_at-n.ensures in
    search (rules, more)

pub loop-k-preserved : goal.loop-k-preserved
loop-k-preserved c =
    let inv = c.loop-k.invariant in
    let n = c.count_at-n.ensures in
    let put = c.put_hole.ensures in (
      next_ring _ _ _ _ inv.0 n,
      next_there _ _ c.requires _ _ _ (omega (arith, c.less-last.ensures, c.loop-k-test.true)) inv.0 n,
      hole_kept _ _ _ _ _ inv.0 n _ (part_from c.args.ps.now (2 * c.loop-k.start)) _ _ _ inv.2 _ _ put.numbers put.vertices,
    )

pub returns : goal.returns
returns c = all_kept _ _ _ _ _ _ c.loop-k.invariant.2 _ c.less-last.ensures c.loop-k.auto.k-end c.loop-k-test.false
