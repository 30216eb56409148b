-- `ring_check::beyond` meets its contract. Assumes nothing.
use Rattle.ring_check.proofs.Exits.{beyond_is}
use Rattle.ring_check.proofs.beyond.Goals as goal

pub returns : goal.returns
returns c = beyond_is _
