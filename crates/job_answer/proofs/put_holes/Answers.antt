-- `job_answer::put_holes` meets its contract. Assumes nothing.
use borrow.Author.Rules.{rules}
use Rattle.base.proofs.Lists.{part_from}
use Rattle.job_answer.proofs.Parts.{hole_most, spot_start, spot_next, holes_start, put_holes_next}
use Rattle.job_answer.proofs.put_holes.Goals as goal

pub loop-k-init : goal.loop-k-init
loop-k-init c =
    (search rules, spot_start _ _ _, holes_start _ _ _ _)

pub overflow_mul-c : goal.overflow_mul-c
overflow_mul-c c =
    let inv = c.loop-k.invariant in
    let going = c.loop-k-test.true in
    let count-at-gives = c.count_at-c.ensures in
    let m = hole_most _ _ _ _ c.requires.holes_value going count-at-gives in search rules

pub put_floats-requires : goal.put_floats-requires
put_floats-requires c =
    let inv = c.loop-k.invariant in
    let going = c.loop-k-test.true in
    let count-at-gives = c.count_at-c.ensures in
    let m = hole_most _ _ _ _ c.requires.holes_value going count-at-gives in record {
      n_in_bounds = search rules;
      n_bound = search rules;
    }

pub overflow_mul-here : goal.overflow_mul-here
overflow_mul-here c =
    let inv = c.loop-k.invariant in
    let going = c.loop-k-test.true in
    let count-at-gives = c.count_at-c.ensures in
    let m = hole_most _ _ _ _ c.requires.holes_value going count-at-gives in search rules

pub overflow_add-here : goal.overflow_add-here
overflow_add-here c =
    let inv = c.loop-k.invariant in
    let going = c.loop-k-test.true in
    let count-at-gives = c.count_at-c.ensures in
    let m = hole_most _ _ _ _ c.requires.holes_value going count-at-gives in search rules

pub loop-k-preserved : goal.loop-k-preserved
loop-k-preserved c =
    let inv = c.loop-k.invariant in
    let going = c.loop-k-test.true in
    let count-at-gives = c.count_at-c.ensures in
    let put-floats-gives = c.put_floats.ensures in
    let args = c.args in
    let m = hole_most _ _ _ _ c.requires.holes_value going count-at-gives in (
      search rules,
      spot_next _ _ c.requires.points_len _ _ _ _ _ c.requires.holes_bound going m count-at-gives inv.1,
      put_holes_next _ _ _ _ _ _
          _ _ _ _ inv.2 inv.1 count-at-gives put-floats-gives (part_from args.points.now _),
    )
