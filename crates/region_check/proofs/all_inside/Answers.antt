-- `region_check::all_inside` meets its contract. Assumes nothing.
use borrow.Author.Rules.{rules}
use borrow.Author.Tests.{tests}
use Prim.Native.Nat.{ℕ}
use mathlib.Core.Bool.{false}
use mathlib.Core.Path.{refl}
use Rattle.ring.specs.Ring.{vertex_at}
use Rattle.ring_contain.specs.Contains.{ring_contains}
use Rattle.offset.specs.Clear.{right_side, every_step, every_vertex}
use Rattle.offset.proofs.Chains.{all_told}
use Rattle.region.specs.Checks
use Rattle.region_check.proofs.all_inside.Goals as goal

pub returns : goal.returns
unfolding every_vertex every_step Checks.inside_of right_side
returns c =
    let a = c.args in
    let test = λ (k : ℕ). right_side false (ring_contains a.ps.now a.n (vertex_at a.qs.now k)) in
    all_told _ test (λ k s. refl) a.m _ _ _ c.all.ensures.ran (λ x b q k. search (rules, tests))
