-- `front_tidy::find_tidy` meets its contract. Assumes nothing.
use native.Mathlib.Omega.{arith}
use mathlib.Core.Path.{sym, ◌∙◌}
use Rattle.base.proofs.Laws.{no_round}
use Rattle.front.proofs.EdgeLaws.{edge_in}
use Rattle.front_tidy.proofs.Found.{find_dead, find_on, find_ends, find_none}
use Rattle.front_tidy.proofs.find_tidy.Goals as goal
use Rattle.front_tidy.proofs.find_tidy.Goals.{then-e+else-not-settled, else-e}

pub loop-slot-init : goal.loop-slot-init
loop-slot-init c = no_round _ _

pub returns-then-not-settled : goal.returns-then-not-settled
returns-then-not-settled c =
    find_ends _ _ _ _ c.loop-slot.invariant (sym (edge_in _ _ c.loop-slot-test.true)) _ _ _ _ c.if-e.true c.edge_at-before.ensures c.edge_at-after.ensures
    c.edge_at-beside.ensures c.tidy_between-found.ensures c.loop-slot-test.true (sym c.settled.ensures ∙ c.if-not-settled.true)

pub loop-slot-preserved : goal.loop-slot-preserved
loop-slot-preserved c = elim c.if-e.branch [
  | then-e+else-not-settled w ↦
      find_on _ _ _ _ c.loop-slot.invariant (sym (edge_in _ _ c.loop-slot-test.true)) _ _ _ _ w.if-e.true w.edge_at-before.ensures w.edge_at-after.ensures
      w.edge_at-beside.ensures w.tidy_between-found.ensures (sym w.settled.ensures ∙ w.if-not-settled.false)
  | else-e w ↦ find_dead _ _ _ _ c.loop-slot.invariant (sym (edge_in _ _ c.loop-slot-test.true)) w.if-e.false
]

pub returns : goal.returns
returns c = find_none _ _ _ (omega arith) c.loop-slot.invariant
