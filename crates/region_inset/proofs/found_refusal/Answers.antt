-- `region_inset::found_refusal` meets its contract. Assumes nothing.
use mathlib.Core.Path.{sym, ◌∙◌}
use borrow.Author.Tests.{not-true, not-false}
use Rattle.region_inset.proofs.PiecesFound.{pieces_refused, none_found, not_checked, checked}
use Rattle.region_inset.proofs.found_refusal.Goals as goal

pub returns-then-not-granted : goal.returns-then-not-granted
returns-then-not-granted c = pieces_refused _ _ _ _ _ _ (sym c.granted.ensures ∙ c.if-not-granted.true)

pub returns-then-not-found : goal.returns-then-not-found
returns-then-not-found c =
    let granted-gives = c.granted.ensures in
    let no1 = c.if-not-granted.false-raw in
    none_found _ _ _ _ _ _ (sym granted-gives ∙ not-false _ no1) c.if-not-found.true

pub returns-then-not-granted-2 : goal.returns-then-not-granted-2
returns-then-not-granted-2 c =
    let granted-gives = c.granted.ensures in
    let no1 = c.if-not-granted.false-raw in
    let no2 = c.if-not-found.false-raw in
    let check-region-gives = c.check_region-checked.ensures in
    let granted2-gives = c.granted-2.ensures in
    let yes3 = c.if-not-granted-2.true-raw in
    not_checked _ _ _ _ _ _ (sym granted-gives ∙ not-false _ no1) (not-false _ no2) _ check-region-gives (sym granted2-gives ∙ not-true _ yes3) _
    c.region_failure.ensures

pub returns : goal.returns
returns c =
    let granted-gives = c.granted.ensures in
    let no1 = c.if-not-granted.false-raw in
    let no2 = c.if-not-found.false-raw in
    let check-region-gives = c.check_region-checked.ensures in
    let granted2-gives = c.granted-2.ensures in
    let no3 = c.if-not-granted-2.false-raw in
    let stays-clear-gives = c.stays_clear-clear.ensures in
    checked _ _ _ _ _ _ (sym granted-gives ∙ not-false _ no1) (not-false _ no2) _ check-region-gives (sym granted2-gives ∙ not-false _ no3) _ _
    stays-clear-gives c.choose.ensures
