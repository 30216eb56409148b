-- `ring_check::kept` meets its contract. Assumes nothing.
use mathlib.Core.Path.{refl}
use Rattle.ring_check.specs.Checks
use Rattle.ring_check.proofs.kept.Goals as goal

pub returns : goal.returns
unfolding Checks.kept
returns c =
    let same_gives = c.same-closes.ensures in
    let first_gives = c.vertex_at-2.ensures in
    let last-gives = c.vertex_at.ensures in
    let less-gives = c.less-last.ensures in
    rw (c.choose.ensures, same_gives, first_gives, last-gives, less-gives) refl
