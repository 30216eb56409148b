-- `format_fields::side_of` meets its contract. Assumes nothing.
use Prim.Native.Nat.{zero-le}
use mathlib.Core.Path.{sym}
use lib.Seq.{length-take-le}
use Rattle.format_fields.proofs.Laws.{inside, one_more, side_read, no_side}
use Rattle.format_fields.proofs.side_of.Goals as goal

pub slice_bounds-field-end : goal.slice_bounds-field-end
slice_bounds-field-end c = sym (length-take-le _ _ (inside _ 0 _ zero-le c.field_end-end.ensures).1)

pub overflow_add-result : goal.overflow_add-result
overflow_add-result c =
    let field-end-gives = c.field_end-end.ensures in
    let good = c.well_formed in
    record { fits = one_more _ _ (inside _ 0 _ zero-le field-end-gives).1 good.0.1 }

pub returns-then-outward-eq : goal.returns-then-outward-eq
returns-then-outward-eq c =
    side_read _ _ _ _ _ _ c.field_end-end.ensures c.as_slice-2.ensures c.eq.ensures c.as_slice.ensures c.eq-outward.ensures c.if-outward-eq.true

pub returns : goal.returns
returns c =
    no_side _ _ _ _ _ _ c.field_end-end.ensures c.as_slice-2.ensures c.eq.ensures c.as_slice.ensures c.eq-outward.ensures c.if-outward-eq.false
