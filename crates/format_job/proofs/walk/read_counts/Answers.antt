-- `format_job::walk::read_counts` meets its contract. Assumes nothing.
use mathlib.Core.Path.{refl}
use Rattle.format_numerals.specs.Readings.{no_count}
use Rattle.format_job.proofs.Takes.{begins, took, walked, not_walked}
use Rattle.format_job.proofs.walk.read_counts.Goals as goal

pub loop-k-init : goal.loop-k-init
loop-k-init c = begins _ _ _ _ _ _ refl

pub loop-k-preserved : goal.loop-k-preserved
loop-k-preserved c =
    took _ _ _ _ _ _ _ _ _ _ no_count c.in_ok-x.ensures c.put.ensures c.loop-k.invariant

pub returns-in_err-x : goal.returns-in_err-x
returns-in_err-x c = rw c.from_residual.ensures (not_walked _ _ _ _ _ _ _ _ _ c.loop-k-test.true c.in_err-x.ensures c.loop-k.invariant)

pub returns : goal.returns
returns c = walked _ _ _ _ _ _ _ _ _ c.loop-k.auto.k-end c.loop-k-test.false c.loop-k.invariant
