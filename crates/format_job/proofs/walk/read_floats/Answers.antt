-- `format_job::walk::read_floats` meets its contract. Assumes nothing.
use mathlib.Core.Path.{refl}
use native.Mathlib.Numerals.{add-one-le}
use Rattle.format_numerals.specs.Readings.{no_float}
use Rattle.format_fields.proofs.Laws.{further_read}
use Rattle.format_job.proofs.Takes.{begins, took, behind, falls, some_left, all_walked, not_all}
use borrow.Author.Rules.{rules}
use Rattle.format_job.proofs.walk.read_floats.Goals as goal

pub loop-at-init : goal.loop-at-init
loop-at-init c = (search rules, search rules, begins _ _ _ _ _ _ refl)

pub loop-at-smaller : goal.loop-at-smaller
loop-at-smaller c = falls _ _ _ c.loop-at-test.true (further_read _ _ _ _ _ no_float c.in_ok-x.ensures)

pub loop-at-preserved : goal.loop-at-preserved
loop-at-preserved c =
    let inv = c.loop-at.invariant in (
      add-one-le (some_left _ _ _ _ inv.2.1 c.loop-at-test.true),
      behind _ _ _ inv.1 (further_read _ _ _ _ _ no_float c.in_ok-x.ensures),
      took _ _ _ _ _ _ _ _ _ _ no_float c.in_ok-x.ensures c.put.ensures inv.2,
    )

pub returns-in_err-x : goal.returns-in_err-x
returns-in_err-x c = rw c.from_residual.ensures (not_all _ _ _ _ _ _ _ _ c.loop-at-test.true c.in_err-x.ensures c.loop-at.invariant.2)

pub returns : goal.returns
returns c = all_walked _ _ _ _ _ _ _ _ c.loop-at.invariant.0 c.loop-at-test.false c.loop-at.invariant.2
