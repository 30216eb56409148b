-- `front_lines::line_along` meets its contract. Assumes nothing.
use Rattle.front.specs.Lines
use Rattle.front_lines.proofs.line_along.Goals as goal

pub returns : goal.returns
unfolding Lines.line_along
returns c = cc
