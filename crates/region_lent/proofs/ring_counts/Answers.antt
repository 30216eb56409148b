-- `region_lent::ring_counts` meets its contract. Assumes nothing.
use Prim.Native.Nat.{◌-◌}
use mathlib.Core.Path.{refl, sym}
use Rattle.base.proofs.Laws.{no_round, ends}
use Rattle.region_lent.specs.Rings.{counts_of}
use Rattle.region_lent.proofs.RingsWritten.{counts_on}
use borrow.Author.Rules.{rules}
use Rattle.region_lent.proofs.ring_counts.Goals as goal

pub loop-k-init : goal.loop-k-init
loop-k-init c = (refl, sym (no_round _ _))

pub loop-k-preserved : goal.loop-k-preserved
loop-k-preserved c =
    let inv = c.loop-k.invariant in
    (search rules, counts_on _ _ _ _ c.ring_count.ensures _ _ inv.1)

pub returns : goal.returns
unfolding counts_of
returns c = ends _ _ _ _ _ c.loop-k.auto.k-end c.loop-k-test.false c.loop-k.invariant.1
