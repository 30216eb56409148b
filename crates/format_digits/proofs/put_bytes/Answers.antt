-- `format_digits::put_bytes` meets its contract. Assumes nothing.
use native.Mathlib.Omega.{arith}
use mathlib.Core.Path.{sym}
use Rattle.format_digits.proofs.Puts.{put_none, one_stored, all_stored}
use Rattle.format_digits.proofs.put_bytes.Goals as goal

pub loop-k-init : goal.loop-k-init
loop-k-init c = sym (put_none _ _)

pub loop-k-preserved : goal.loop-k-preserved
loop-k-preserved c =
    one_stored _ _ _ _ _ _ _ c.loop-k-test.true (omega arith) c.loop-k.invariant

pub returns : goal.returns
returns c = all_stored _ _ _ _ _ _ _ c.less.ensures c.min-n.ensures c.loop-k.auto.k-end c.loop-k-test.false c.loop-k.invariant
