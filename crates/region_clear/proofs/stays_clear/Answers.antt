-- `region_clear::stays_clear` meets its contract. Assumes nothing.
use borrow.Author.Rules.{rules}
use borrow.Author.Tests.{tests}
use mathlib.Core.Path.{refl}
use Rattle.offset.proofs.Chains.{all_told}
use Rattle.region.specs.Regions.{region_of}
use Rattle.region_clear.proofs.FirstNotClear.{hole_apart, rings_first_fail, rings_told}
use Rattle.region_clear.proofs.stays_clear.Goals as goal

pub returns-then-not-ring_apart : goal.returns-then-not-ring_apart
returns-then-not-ring_apart c = rings_first_fail _ _ _ _ _ _ _ _ c.ring_apart.ensures c.if-not-ring_apart.true-raw

pub returns : goal.returns
returns c =
    let a = c.args in
    rings_told _ _ _ _ _ _ _ _ c.ring_apart.ensures c.if-not-ring_apart.false-raw _
    (all_told _ (hole_apart a.least (region_of a.ps.now a.n a.hs.now a.cs.now a.h) a.gs.now a.ds.now) (λ k s. refl) a.g _ _ _ c.all.ensures.ran (λ x b q k. search (rules, tests)))
