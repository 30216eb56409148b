-- `offset_clear::falls_short` meets its contract. Assumes nothing.
use mathlib.Core.Path.{refl, sym, subst}
use lib.Dec.{T}
use Rattle.offset_clear.proofs.FirstShort.{far_edge, edge_by_root}
use Rattle.offset_clear.proofs.falls_short.Goals as goal

pub returns-then-clearly : goal.returns-then-clearly
returns-then-clearly c =
    let good = c.well_formed in
    let closest-on-segment-gives = c.closest_on_segment.ensures in
    let sub-gives = c.sub-v.ensures in
    let dot-gives = c.dot.ensures in
    let clearly-gives = c.clearly.ensures in
    far_edge _ _ _ _ _ _ _ _ _ (subst T (sym good.1.1.1.0.1) tt) closest-on-segment-gives sub-gives dot-gives refl clearly-gives c.if-clearly.true

pub returns : goal.returns
returns c =
    let closest-on-segment-gives = c.closest_on_segment.ensures in
    let sub-gives = c.sub-v.ensures in
    edge_by_root _ _ _ _ _ _ _ closest-on-segment-gives sub-gives c.length_of.ensures
