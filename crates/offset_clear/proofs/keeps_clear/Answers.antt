-- `offset_clear::keeps_clear` meets its contract. Assumes nothing.
use borrow.Author.Rules.{rules}
use borrow.Author.Tests.{tests}
use Prim.Native.Nat.{ℕ}
use mathlib.Core.Bool.{Bool, not}
use mathlib.Core.List.{List}
use mathlib.Core.Path.{refl, sym, ap, ◌∙◌}
use lib.Ieee.{Float}
use Rattle.ring.specs.Ring.{vertex_at}
use Rattle.offset.specs.Clear.{every_step, every_vertex}
use Rattle.offset.proofs.Chains.{all_told}
use Rattle.offset_clear.specs.Rings.{clear_by}
use Rattle.offset_clear.proofs.FirstShort.{and_right, and_wrong}
use Rattle.offset_clear.proofs.keeps_clear.Goals as goal

abbrev test : Bool → Bool → Float → List Float → ℕ → List Float → ℕ → Bool
test foot outward least ps n qs k = clear_by foot outward least ps n (vertex_at qs k)

pub returns-then-clear : goal.returns-then-clear
unfolding every_vertex every_step
returns-then-clear c =
    let a = c.args in
    let all = all_told _ (test a.foot a.outward a.least a.ps.now a.n a.qs.now) (λ k s. refl) a.m _ _ _ c.all-clear.ensures.ran (λ x b q k. search (rules, tests)) in
    and_right _ _ _ (sym all ∙ c.if-clear.true) (ap not c.rings_meet.ensures)

pub returns-else-clear : goal.returns-else-clear
unfolding every_vertex every_step
returns-else-clear c =
    let a = c.args in
    let all = all_told _ (test a.foot a.outward a.least a.ps.now a.n a.qs.now) (λ k s. refl) a.m _ _ _ c.all-clear.ensures.ran (λ x b q k. search (rules, tests)) in
    c.if-clear.false ∙ and_wrong _ _ (sym all ∙ c.if-clear.false)
