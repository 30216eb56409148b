-- `front_lines::meeting` meets its contract. Assumes nothing.
use Rattle.front.specs.Lines
use Rattle.front_lines.proofs.Ends.{unless}
use Rattle.front_lines.proofs.meeting.Goals as goal

pub returns : goal.returns
unfolding Lines.meeting Lines.meeting_by
returns c = cc (unless _ _)
