-- `format_fields::number_at` meets its contract. Assumes nothing.
use Rattle.format_fields.proofs.Laws.{inside, unread, no_number, read}
use borrow.Author.Rules.{rules}
use Rattle.format_fields.proofs.number_at.Goals as goal

pub returns-then-line-at : goal.returns-then-line-at
returns-then-line-at g c = unread g.T.Number.formed _ _ c.if-line-at.true g.met.T.Number.empty

pub slice_bounds-read-count : goal.slice_bounds-read-count
slice_bounds-read-count g c = (inside _ _ _ c.if-line-at.false c.field_end-end.ensures).0

pub slice_bounds-read-start : goal.slice_bounds-read-start
slice_bounds-read-start g c = let (l, h) = inside _ _ _ c.if-line-at.false c.field_end-end.ensures in search rules

pub slice_bounds-read-end : goal.slice_bounds-read-end
slice_bounds-read-end g c = let (l, h) = inside _ _ _ c.if-line-at.false c.field_end-end.ensures in search rules

pub returns-in_err-value : goal.returns-in_err-value
returns-in_err-value g c =
    rw c.from_residual.ensures (no_number g.T.Number.formed _ _ _ c.if-line-at.false c.field_end-end.ensures c.in_err-value.ensures)

pub returns : goal.returns
returns g c = read g.T.Number.formed g.T.Number.value_of _ _ _ _ c.if-line-at.false c.field_end-end.ensures c.in_ok-value.ensures
