-- `region_lent::tell_region` meets its contract. Assumes nothing.
use Prim.Native.Nat.{◌≤◌}
use Rattle.region_lent.specs.Rings.{Few}
use Rattle.region_lent.proofs.RingsWritten.{few_by, told_by, told_yes, told_no}
use borrow.Author.Rules.{rules}
use Rattle.region_lent.proofs.tell_region.Goals as goal

pub returns-then-not-proper_region : goal.returns-then-not-proper_region
returns-then-not-proper_region c = told_no _ _ c.proper_region.ensures _ c.if-not-proper_region.true-raw c.no_rings.ensures

pub ring_counts-requires : goal.ring_counts-requires
ring_counts-requires c = (few_by _ _ _ _ _ _ c.proper_region.ensures c.if-not-proper_region.false-raw).holes

pub overflow_add-result : goal.overflow_add-result
overflow_add-result c =
    let args = c.args in
    let f : Few args.n args.cs.now args.h = few_by _ _ _ _ _ _ c.proper_region.ensures c.if-not-proper_region.false-raw in
    let l : args.h ≤ 8 = f.holes in
    search rules

pub returns : goal.returns
returns c = told_yes _ _ c.proper_region.ensures _ c.if-not-proper_region.false-raw (told_by _ _ _ _ _ _ c.ring_counts.ensures)
