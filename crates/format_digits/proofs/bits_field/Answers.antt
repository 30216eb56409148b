-- `format_digits::bits_field` meets its contract. Assumes nothing.
use mathlib.Core.Path.{refl}
use Rattle.base.specs.Loop.{rounds}
use Rattle.format_digits.specs.Stores.{put}
use Rattle.format_digits.proofs.Printed.{digit_stored, sixteen}
use Rattle.format_digits.proofs.bits_field.Goals as goal

pub loop-k-init : goal.loop-k-init
unfolding put rounds
loop-k-init c = refl

pub loop-k-preserved : goal.loop-k-preserved
loop-k-preserved c = digit_stored _ _ _ _ c.loop-k-test.true c.hex_digit.ensures c.loop-k.invariant

pub returns : goal.returns
returns c = sixteen _ _ _ c.loop-k.auto.k-end c.loop-k-test.false c.loop-k.invariant
