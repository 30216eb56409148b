-- `front_edges::kill` meets its contract. Assumes nothing.
use mathlib.Core.Path.{refl, sym}
use native.Mathlib.Omega.{arith}
use borrow.Author.Tests.{lt-ltb}
use lib.Seq.{set_out}
use Rattle.front.specs.Edges.{edge, on_line_of, dead, kill}
use Rattle.front_edges.proofs.kill.Goals as goal

pub returns-then-k-lt128 : goal.returns-then-k-lt128
unfolding edge on_line_of dead kill
returns-then-k-lt128 c = rw (lt-ltb _ _ c.if-k-lt128.true) refl

pub returns-else-k-lt128 : goal.returns-else-k-lt128
unfolding kill
returns-else-k-lt128 c = sym (set_out _ _ _ (omega arith))
