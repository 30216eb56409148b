-- `job_answer::vertices` meets its contract. Assumes nothing.
use borrow.Author.Rules.{rules}
use mathlib.Core.Path.{sym}
use Rattle.base.proofs.Laws.{no_round, goes_on, ends}
use Rattle.job_answer.specs.Writing.{hole_vertices}
use Rattle.job_answer.proofs.Parts.{hole_most, sum_next}
use Rattle.job_answer.proofs.vertices.Goals as goal

pub loop-k-init : goal.loop-k-init
loop-k-init c = (search rules, sym (no_round _ _))

pub overflow_add-sum : goal.overflow_add-sum
overflow_add-sum c =
    let going = c.loop-k-test.true in
    let m = hole_most _ _ _ _ c.requires.holes_value going c.count_at-sum.ensures in search rules

pub loop-k-preserved : goal.loop-k-preserved
loop-k-preserved c =
    let going = c.loop-k-test.true in
    let count-at-gives = c.count_at-sum.ensures in
    let inv = c.loop-k.invariant in
    let m = hole_most _ _ _ _ c.requires.holes_value going count-at-gives in (search rules, goes_on _ _ _ _ _ inv.1 (sum_next _ _ _ _ count-at-gives))

pub returns-clause-sum : goal.returns-clause-sum
unfolding hole_vertices
returns-clause-sum c = ends _ _ _ _ _ c.loop-k.auto.k-end c.loop-k-test.false c.loop-k.invariant.1
