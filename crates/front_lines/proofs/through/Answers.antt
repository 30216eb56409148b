-- `front_lines::through` meets its contract. Assumes nothing.
use Rattle.front.specs.Lines
use Rattle.front_lines.proofs.Ends.{unless}
use Rattle.front_lines.proofs.through.Goals as goal

pub returns : goal.returns
unfolding Lines.through Lines.line_of Lines.line_by
returns c = cc (unless _ _)
