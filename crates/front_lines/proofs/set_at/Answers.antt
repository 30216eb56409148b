-- `front_lines::set_at` meets its contract. Assumes nothing.
use mathlib.Core.Path.{sym}
use native.Mathlib.Omega.{arith}
use lib.Seq.{set_out}
use Rattle.front_lines.proofs.set_at.Goals as goal

pub returns-else-k : goal.returns-else-k
returns-else-k g c = sym (set_out _ _ _ (omega arith))
