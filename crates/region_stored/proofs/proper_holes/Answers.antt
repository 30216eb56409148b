-- `region_stored::proper_holes` meets its contract. Assumes nothing.
use borrow.Author.Rules.{rules}
use Prim.Native.Nat.{◌*◌}
use native.Mathlib.Omega.{arith}
use mathlib.Core.Path.{sym, ◌∙◌}
use Rattle.region.proofs.LengthsFit.{some_ring}
use Rattle.base.proofs.Laws.{no_round}
use Rattle.base.proofs.Lists.{part_from}
use Rattle.region_load.proofs.Sums.{one_ring, next_ring, there, next_there}
use Rattle.region_stored.proofs.Walks.{hole_passes, hole_fails, holes_pass}
use Rattle.region_stored.proofs.proper_holes.Goals as goal

pub loop-k-init : goal.loop-k-init
loop-k-init c =
    let first = c.count_at-start.ensures ∙ sym (one_ring _) in
    (first, there _ _ c.requires 1 _ (some_ring _ _ c.requires) first, no_round _ _)

pub returns-then-not-proper : goal.returns-then-not-proper
returns-then-not-proper c =
    let inv = c.loop-k.invariant in
    hole_fails _ _ _ _ _ inv.0 c.count_at-n.ensures _ (part_from c.args.ps.now (2 * c.loop-k.start)) inv.2 _ c.proper.ensures
    (omega (arith, c.less-last.ensures, c.loop-k-test.true)) c.if-not-proper.true-raw

pub overflow_add-start : goal.overflow_add-start
overflow_add-start c =
    let more = next_there _ _ c.requires _ _ _ (omega (arith, c.less-last.ensures, c.loop-k-test.true)) c.loop-k.invariant.0 c.count_at-n.ensures in
    search (rules, more)

pub loop-k-preserved : goal.loop-k-preserved
loop-k-preserved c =
    let inv = c.loop-k.invariant in
    let n = c.count_at-n.ensures in (
      next_ring _ _ _ _ inv.0 n,
      next_there _ _ c.requires _ _ _ (omega (arith, c.less-last.ensures, c.loop-k-test.true)) inv.0 n,
      hole_passes _ _ _ _ _ inv.0 n _ (part_from c.args.ps.now (2 * c.loop-k.start)) inv.2 _ c.proper.ensures c.if-not-proper.false-raw,
    )

pub returns : goal.returns
returns c =
    let last = c.less-last.ensures in
    holes_pass _ _ _ (omega (arith, last, c.loop-k.auto.k-end)) (omega (arith, last, c.loop-k-test.false)) c.loop-k.invariant.2
