-- `ring_gap::lesser_gap` meets its contract. Assumes nothing.
use mathlib.Core.Path.{sym, subst}
use lib.Dec.{T}
use Rattle.ring_gap.proofs.Walks.{not_nearer, compared}
use Rattle.ring_gap.proofs.lesser_gap.Goals as goal

-- the least gap so far is a parameter, so it is a double
pub returns-then-clearly : goal.returns-then-clearly
returns-then-clearly c =
    let clearly-gives = c.clearly.ensures in
    let dot-gives = c.dot.ensures in
    let sub-gives = c.sub-offset.ensures in
    let foot-gives = c.closest_on_segment.ensures in
    let good = c.well_formed in
    not_nearer _ _ _ _ _ _ foot-gives sub-gives _ _ (subst T (sym good.1.1.1.0.1) tt) dot-gives clearly-gives c.if-clearly.true

pub returns : goal.returns
returns c =
    let length-gives = c.length_of-gap.ensures in
    let sub-gives = c.sub-offset.ensures in
    let foot-gives = c.closest_on_segment.ensures in
    compared _ _ _ _ _ _ foot-gives sub-gives _ _ length-gives c.choose.ensures
