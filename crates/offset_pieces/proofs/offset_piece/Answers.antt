-- `offset_pieces::offset_piece` meets its contract. Assumes nothing.
use mathlib.Core.Path.{refl, ap, ◌∙◌}
use Rattle.base.proofs.Choices.{yes, no}
use Rattle.offset_pieces.specs.Numbers.{checked_piece, ring_piece}
use Rattle.offset_pieces.proofs.offset_piece.Goals as goal

pub returns-then-lost : goal.returns-then-lost
unfolding ring_piece
returns-then-lost c = yes _ _ _ _ refl c.if-lost.true

pub returns-else-lost : goal.returns-else-lost
unfolding ring_piece
returns-else-lost c =
    let check-ring-gives = c.check_ring.ensures in
    let no1 = c.if-lost.false in
    no _ _ _ _ (c.checked_piece.ensures ∙ ap (checked_piece _ _ _ _) check-ring-gives) no1
