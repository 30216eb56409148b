-- `front_lines::velocity` meets its contract. Assumes nothing.
use Rattle.front.specs.Lines
use Rattle.front_lines.proofs.Ends.{unless}
use Rattle.front_lines.proofs.velocity.Goals as goal

pub returns : goal.returns
unfolding Lines.velocity Lines.velocity_by
returns c = cc (unless _ _)
