-- `region_lent::write_rings` meets its contract. Assumes nothing.
use Prim.Native.Nat.{ℕ, ◌+◌, ◌-◌, ◌*◌, ◌≤◌}
use mathlib.Core.Path.{refl, sym, ap, ◌∙◌}
use Rattle.base.proofs.Laws.{no_round, ends}
use Rattle.region.specs.Queries.{write_rings}
use Rattle.region.specs.Regions.{region_of}
use Rattle.region_lent.specs.Rings.{before_of}
use Rattle.region_lent.proofs.RingsWritten.{count_bound, base_bound, rings_on, base_on, same_size}
use borrow.Author.Rules.{rules}
use Rattle.region_lent.proofs.write_rings.Goals as goal

pub loop-k-init : goal.loop-k-init
unfolding before_of
loop-k-init c = (ap (λ (x : ℕ). 2 * x) (sym (no_round _ 0)), refl, sym (no_round _ _))

pub overflow_mul-count : goal.overflow_mul-count
overflow_mul-count c =
    let pre = c.requires in
    let going = c.loop-k-test.true in
    let l : c.ring_count-count.result ≤ 128 = count_bound _ _ _ pre _ _ going c.ring_count-count.ensures in search rules

pub overflow_add-base : goal.overflow_add-base
overflow_add-base c =
    let loop-base = c.loop-k.base in
    let ring-count-result = c.ring_count-count.result in
    let pre = c.requires in
    let going = c.loop-k-test.true in
    let inv = c.loop-k.invariant in
    let ring-count-gives = c.ring_count-count.ensures in
    let l : loop-base + 2 * ring-count-result ≤ 2560 = base_bound _ _ _ pre _ _ _ going inv.0 ring-count-gives in search rules

pub loop-k-preserved : goal.loop-k-preserved
loop-k-preserved c =
    let inv = c.loop-k.invariant in
    let ring-count-gives = c.ring_count-count.ensures in
    let write-from-gives = c.write_from.ensures in
    let ring-points-gives = c.ring_points-ring.ensures in (
      base_on _ _ _ _ _ inv.0 ring-count-gives,
      same_size _ _ _ _ _ write-from-gives ∙ inv.1,
      rings_on _ _ _ _ _ _ _ _ _ _ _ _
          inv.0 ring-count-gives ring-points-gives inv.2 write-from-gives,
    )

pub returns : goal.returns
unfolding write_rings region_of
returns c = ends _ _ _ _ _ c.loop-k.auto.k-end c.loop-k-test.false c.loop-k.invariant.2
