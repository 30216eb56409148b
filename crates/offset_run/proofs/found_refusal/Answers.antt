-- `offset_run::found_refusal` meets its contract. Assumes nothing.
use mathlib.Core.Path.{sym, ◌∙◌}
use borrow.Author.Tests.{not-false}
use Rattle.offset_run.specs.Found.{outline_of}
use Rattle.offset_run.proofs.Found.{pieces_refused, none_found, one_found}
use Rattle.offset_run.proofs.found_refusal.Goals as goal

pub returns-then-not-granted : goal.returns-then-not-granted
returns-then-not-granted c = pieces_refused _ _ _ _ _ _ _ (sym c.granted.ensures ∙ c.if-not-granted.true)

pub returns-then-not-found : goal.returns-then-not-found
returns-then-not-found c =
    let granted-gives = c.granted.ensures in
    let no1 = c.if-not-granted.false-raw in
    none_found _ _ _ _ _ _ _ (sym granted-gives ∙ not-false _ no1) c.if-not-found.true

pub returns : goal.returns
unfolding outline_of
returns c =
    let granted-gives = c.granted.ensures in
    let no1 = c.if-not-granted.false-raw in
    let no2 = c.if-not-found.false-raw in
    let stays-clear-gives = c.stays_clear-clear.ensures in
    one_found _ _ _ _ _ _ _ (sym granted-gives ∙ not-false _ no1) (not-false _ no2) _ _ stays-clear-gives c.choose.ensures
