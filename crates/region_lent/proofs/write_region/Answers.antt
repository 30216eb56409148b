-- `region_lent::write_region` meets its contract. Assumes nothing.
use Prim.Native.Nat.{◌≤◌}
use Rattle.region_lent.specs.Rings.{Few}
use Rattle.region_lent.proofs.RingsWritten.{few_by, all_bound, needed_by, told_by, improper, short, long}
use borrow.Author.Rules.{rules}
use Rattle.region_lent.proofs.write_region.Goals as goal

pub returns-then-not-proper_region : goal.returns-then-not-proper_region
returns-then-not-proper_region c =
    let proper-region-gives = c.proper_region.ensures in
    let yes1 = c.if-not-proper_region.true-raw in
    let both =
    improper _ _ _ _ proper-region-gives yes1 c.no_rings.ensures in
    record { answered = both.0; written = both.1.0; kept = both.1.1 }

pub vertices-needed-requires : goal.vertices-needed-requires
vertices-needed-requires c = few_by _ _ _ _ _ _ c.proper_region.ensures c.if-not-proper_region.false-raw

pub overflow_mul-needed : goal.overflow_mul-needed
overflow_mul-needed c =
    let proper-region-gives = c.proper_region.ensures in
    let no1 = c.if-not-proper_region.false-raw in
    let l : c.vertices-needed.result ≤ 1152 = all_bound _ _ _ (few_by _ _ _ _ _ _ proper-region-gives no1) _ c.vertices-needed.ensures in search rules

pub returns-then-out-needed : goal.returns-then-out-needed
returns-then-out-needed c =
    let proper-region-gives = c.proper_region.ensures in
    let no1 = c.if-not-proper_region.false-raw in
    let vertices-gives = c.vertices-needed.ensures in
    let yes2 = c.if-out-needed.true in
    let both =
    short _ _ _ proper-region-gives no1 _ (needed_by _ _ _ _ _ _ vertices-gives) _ yes2 c.no_rings-then-out-needed.ensures in
    record { answered = both.0; written = both.1.0; kept = both.1.1 }

pub write_rings-requires : goal.write_rings-requires
write_rings-requires c =
    let proper-region-gives = c.proper_region.ensures in
    let no1 = c.if-not-proper_region.false-raw in
    few_by _ _ _ _ _ _ proper-region-gives no1

pub overflow_add-result : goal.overflow_add-result
overflow_add-result c =
    let args = c.args in
    let proper-region-gives = c.proper_region.ensures in
    let no1 = c.if-not-proper_region.false-raw in
    let f : Few args.n args.cs.now args.h = few_by _ _ _ _ _ _ proper-region-gives no1 in let l : args.h ≤ 8 = f.holes in search rules

pub ring_counts-requires : goal.ring_counts-requires
ring_counts-requires c =
    let proper-region-gives = c.proper_region.ensures in
    let no1 = c.if-not-proper_region.false-raw in
    (few_by _ _ _ _ _ _ proper-region-gives no1).holes

pub returns : goal.returns
returns c =
    let proper-region-gives = c.proper_region.ensures in
    let no1 = c.if-not-proper_region.false-raw in
    let vertices-gives = c.vertices-needed.ensures in
    let no2 = c.if-out-needed.false in
    let write-rings-gives = c.write_rings.ensures in
    let both =
    long _ _ _ proper-region-gives no1 _ (needed_by _ _ _ _ _ _ vertices-gives) _ _ no2 (told_by _ _ _ _ _ _ c.ring_counts.ensures) write-rings-gives in
    record { answered = both.0; written = both.1.0; kept = both.1.1 }
