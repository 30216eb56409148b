-- `outline::entry::proper` meets its contract. Assumes nothing.
use lib.Dec.{leb}
use Rattle.outline.proofs.Tests.{never}
use borrow.Author.Tests.{le-leb, lt-leb}
use Rattle.outline.specs.Outlines
use Rattle.outline.proofs.entry.proper.Goals as goal

pub returns-then-n-room : goal.returns-then-n-room
unfolding Outlines.proper
returns-then-n-room c = simp (c.in_range.ensures, le-leb _ _ c.if-n-room.true)

pub returns-else-n-room : goal.returns-else-n-room
unfolding Outlines.proper
returns-else-n-room c =
    let args = c.args in
    never (leb 3 args.n) (leb args.n args.room) (Outlines.in_range args.ps.now args.n) (lt-leb _ _ c.if-n-room.false)
