-- `region_clear::ring_apart` meets its contract. Assumes nothing.
use borrow.Author.Rules.{rules}
use borrow.Author.Tests.{tests}
use mathlib.Core.Path.{refl}
use Rattle.offset.proofs.Chains.{all_told}
use Rattle.region_clear.proofs.FirstNotClear.{hole_clear, ring_first_fails, ring_told}
use Rattle.region_clear.proofs.ring_apart.Goals as goal

pub returns-then-not-ring_stays_clear : goal.returns-then-not-ring_stays_clear
returns-then-not-ring_stays_clear c = ring_first_fails _ _ _ _ _ _ _ _ _ c.ring_stays_clear.ensures c.if-not-ring_stays_clear.true-raw

pub returns : goal.returns
returns c =
    let a = c.args in
    ring_told _ _ _ _ _ _ _ _ _ c.ring_stays_clear.ensures c.if-not-ring_stays_clear.false-raw _
    (all_told _ (hole_clear a.least a.hs.now a.cs.now a.qs.now a.m) (λ k s. refl) a.h _ _ _ c.all.ensures.ran (λ x b q k. search (rules, tests)))
