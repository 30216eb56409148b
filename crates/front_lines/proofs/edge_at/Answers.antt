-- `front_lines::edge_at` meets its contract. Assumes nothing.
use mathlib.Core.Path.{refl}
use borrow.Author.Tests.{lt-ltb, le-ltb}
use Rattle.front.specs.Edges.{edge}
use Rattle.front_lines.proofs.edge_at.Goals as goal

pub returns-then-k-lt128 : goal.returns-then-k-lt128
unfolding edge
returns-then-k-lt128 c = rw (lt-ltb _ _ c.if-k-lt128.true) refl

pub returns-else-k-lt128 : goal.returns-else-k-lt128
unfolding edge
returns-else-k-lt128 c = rw (le-ltb _ _ c.if-k-lt128.false) refl
