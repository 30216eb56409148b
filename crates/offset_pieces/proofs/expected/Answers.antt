-- `offset_pieces::expected` meets its contract. Assumes nothing.
use mathlib.Core.Path.{refl}
use Rattle.base.proofs.Choices.{yes, no}
use Rattle.offset.specs.Offsets
use Rattle.offset_pieces.proofs.expected.Goals as goal

pub returns-then-outward : goal.returns-then-outward
unfolding Offsets.expected
returns-then-outward c = yes _ _ _ _ refl c.if-outward.true

pub returns-else-outward : goal.returns-else-outward
unfolding Offsets.expected
returns-else-outward c = no _ _ _ _ refl c.if-outward.false
