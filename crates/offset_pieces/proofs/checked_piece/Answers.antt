-- `offset_pieces::checked_piece` meets its contract. Assumes nothing.
use Rattle.offset_pieces.proofs.Comes.{piece_whole, piece_shrunk, piece_failed}
use Rattle.offset_pieces.proofs.checked_piece.Goals as goal

pub returns-then-granted : goal.returns-then-granted
returns-then-granted c =
    let args = c.args in
    let granted-gives = c.granted.ensures in
    piece_whole _ _ _ _ args.c _ granted-gives c.if-granted.true

pub returns-then-vanished : goal.returns-then-vanished
returns-then-vanished c =
    let args = c.args in
    let granted-gives = c.granted.ensures in
    let no1 = c.if-granted.false in
    let vanished-gives = c.vanished.ensures in
    piece_shrunk _ _ _ _ args.c _ granted-gives no1 _ vanished-gives c.if-vanished.true

pub returns-else-vanished : goal.returns-else-vanished
returns-else-vanished c =
    let args = c.args in
    let granted-gives = c.granted.ensures in
    let no1 = c.if-granted.false in
    let vanished-gives = c.vanished.ensures in
    let no2 = c.if-vanished.false in
    piece_failed _ _ _ _ args.c _ granted-gives no1 _ vanished-gives _ no2 c.offset_failure.ensures
