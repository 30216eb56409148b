-- `offset_clear::stays_clear` meets its contract. Assumes nothing.
use Rattle.offset.specs.Offsets.{clear_of, keeps_clear}
use Rattle.offset_clear.specs.Rings.{away, clear_by}
use Rattle.offset_clear.proofs.stays_clear.Goals as goal

pub returns : goal.returns
unfolding keeps_clear clear_of clear_by away
returns c = c.keeps_clear.ensures
