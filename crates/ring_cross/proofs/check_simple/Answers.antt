-- `ring_cross::check_simple` meets its contract. Assumes nothing.
use native.Mathlib.Omega.{arith}
use mathlib.Core.Path.{refl, sym, ◌∙◌}
use Rattle.base.proofs.Laws.{no_round}
use Rattle.segment.proofs.Apart.{over_own}
use Rattle.ring_cross.proofs.Pairs.{read_at, row_begins, row_goes_on, row_closes, row_ends, row_none, none_found, found_next, found_far, found_last}
use Rattle.ring_cross.proofs.check_simple.Goals as goal
use Rattle.ring_cross.proofs.check_simple.Goals.{then-not-passed_over+else-segments_meet, else-not-passed_over}
use Rattle.ring_cross.proofs.check_simple.Goals.{else-i-eq0-via-then-i-eq0+then-row-gt1+else-folds_back-2, else-i-eq0-via-then-i-eq0+else-row-gt1, else-i-eq0-via-else-i-eq0}

pub pairs-init : goal.pairs-init
pairs-init c = (refl, no_round _ _)

pub loop-k-init : goal.loop-k-init
loop-k-init c =
    let a2 = read_at _ _ _ c.stored_at-a2.ensures c.following.ensures in
    let b1 = read_at _ _ _ c.stored_at-b1.ensures c.following-in-pairs.ensures in
    (c.pairs.invariant.0, row_begins _ _ _ _ _ _ _ _ _ (omega arith) c.folds_back.ensures c.if-folds_back.false c.stored_at-a1.ensures a2 c.choose-stop.ensures b1)

-- an edge that is passed over does not meet
pub loop-k-preserved : goal.loop-k-preserved
loop-k-preserved c =
    let own = c.low-l.ensures in
    let b2 = read_at _ _ _ c.stored_at-b2.ensures c.following-in-loop-k.ensures in
    let on = row_goes_on _ _ _ _ _ _ _ _ _ c.loop-k.invariant.1 _ _ c.loop-k-test.true b2 refl in (
      c.loop-k.invariant.0,
      elim c.if-not-passed_over.branch [
        | then-not-passed_over+else-segments_meet w ↦ on (sym w.segments_meet.ensures ∙ w.if-segments_meet.false)
        | else-not-passed_over w ↦
            on (over_own _ _ _ _ _ c.passed_over.ensures.passed_over w.if-not-passed_over.false _ _ own.double_point own.double_point_2 own.value c.high-h.ensures)
      ],
    )

pub pairs-preserved : goal.pairs-preserved
pairs-preserved c =
    let ends = row_ends _ _ _ _ _ _ _ _ _ c.loop-k.invariant.1 c.loop-k-test.false in (
      c.loop-k.invariant.0,
      row_none _ _ _ _ c.pairs.invariant.1 (elim c.else-i-eq0.branch [
        | else-i-eq0-via-then-i-eq0+then-row-gt1+else-folds_back-2 w ↦
            row_closes _ _ _ _ _ _ _ _ _ c.loop-k.invariant.1 _ c.loop-k-test.false w.if-i-eq0.true w.if-row-gt1.true c.loop-k.auto.k-end
            w.folds_back-then-row-gt1.ensures w.if-folds_back-2.false
        | else-i-eq0-via-then-i-eq0+else-row-gt1 w ↦ ends (λ z l. omega arith)
        | else-i-eq0-via-else-i-eq0 w ↦ ends (λ z l. omega arith)
      ]),
    )

pub returns-after-pairs : goal.returns-after-pairs
returns-after-pairs c = c.pairs.invariant.0 ∙ none_found _ _ _ _ (omega arith) (omega arith) c.pairs.invariant.1

pub returns-then-folds_back : goal.returns-then-folds_back
returns-then-folds_back c =
    let a2 = read_at _ _ _ c.stored_at-a2.ensures c.following.ensures in
    let b1 = read_at _ _ _ c.stored_at-b1.ensures c.following-in-pairs.ensures in
    found_next _ _ _ _ _ _ _ _ c.pairs.invariant.1 (omega arith) c.stored_at-a1.ensures a2 b1 c.folds_back.ensures c.if-folds_back.true

pub returns-then-segments_meet : goal.returns-then-segments_meet
returns-then-segments_meet c =
    let b2 = read_at _ _ _ c.stored_at-b2.ensures c.following-in-loop-k.ensures in
    found_far _ _ _ _ _ _ _ _ _ c.loop-k.invariant.1 c.pairs.invariant.1 (omega arith) _ _ c.loop-k-test.true b2 c.segments_meet.ensures c.if-segments_meet.true

pub returns-then-folds_back-2 : goal.returns-then-folds_back-2
returns-then-folds_back-2 c =
    found_last _ _ _ _ _ _ _ _ _ c.loop-k.invariant.1 c.pairs.invariant.1 (omega arith) _ c.loop-k-test.false c.if-i-eq0.true c.if-row-gt1.true c.loop-k.auto.k-end
    c.folds_back-then-row-gt1.ensures c.if-folds_back-2.true
