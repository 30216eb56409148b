-- `front_events::next_event` meets its contract. Assumes nothing.
use mathlib.Core.Path.{sym, ◌∙◌}
use borrow.Author.Rules.{rules}
use Rattle.front.proofs.EdgeLaws.{edge_in}
use Rattle.base.proofs.Laws.{no_round, ends}
use Rattle.front_events.specs.Found.{used_slots}
use Rattle.front_events.proofs.Search.{when_tidied, starts, slot_fits, passes_slot, enters, goes, leaves, stalls_outside, stalls_inside, searched, in_room}
use Rattle.front_events.proofs.SearchRounds.{look_lost, look_on, passes_edge, passes_step, strikes_lost, strikes_on}
use Rattle.front_events.proofs.Used.{used_on, dead_slot}
use Rattle.front_events.proofs.next_event.Goals as goal
use Rattle.front_events.proofs.next_event.Goals.{then-target-other+then-s-splits+in-Some-strike_at, then-target-other+else-s-splits, else-target-other}
use Rattle.front_events.proofs.next_event.Goals.{then-e+in-Some+else-loop-other-test, else-e}

-- ---- how many slots are in use
pub loop-k-init : goal.loop-k-init
loop-k-init c = sym (no_round _ _)

pub loop-k-preserved : goal.loop-k-preserved
loop-k-preserved c = used_on _ _ _ _ _ c.loop-k.invariant (sym (edge_in _ _ c.loop-k-test.true)) c.choose-used.ensures

pub loop-slot-init : goal.loop-slot-init
unfolding used_slots
loop-slot-init c = starts _ _ _ (ends _ _ _ _ _ c.loop-k.auto.k-end c.loop-k-test.false c.loop-k.invariant)

-- ---- an edge
pub offset_bounds-edges-slot : goal.offset_bounds-edges-slot
offset_bounds-edges-slot c = search (rules, slot_fits _ _ _ _ _ c.loop-slot-test.true c.loop-slot.invariant)

pub bounds-edges-slot : goal.bounds-edges-slot
bounds-edges-slot c = slot_fits _ _ _ _ _ c.loop-slot-test.true c.loop-slot.invariant

pub returns-in_default : goal.returns-in_default
returns-in_default c =
    stalls_outside _ _ _ _ _ c.loop-slot-test.true c.loop-slot.invariant
    (look_lost c.args.edges.now c.args.t _ _ _ _ _ _ _ _ _ (sym (edge_in _ _ (slot_fits _ _ _ _ _ c.loop-slot-test.true c.loop-slot.invariant))) _ _ _ _ c.if-e.true
    c.edge_at-before.ensures c.edge_at-after.ensures c.edge_at-back.ensures c.look_of.ensures c.in_default.is)
    ∙ when_tidied c.args.tidied _ _ c.if-not-tidied.false

pub loop-other-init : goal.loop-other-init
loop-other-init c =
    enters _ _ _ _ _ _ c.in-Some.look.reflex _ _ _ _ c.loop-slot-test.true c.loop-slot.invariant
    (look_on c.args.edges.now c.args.t _ _ _ _ _ _ _ _ _ (sym (edge_in _ _ (slot_fits _ _ _ _ _ c.loop-slot-test.true c.loop-slot.invariant))) _ _ _ _ c.if-e.true
    c.edge_at-before.ensures c.edge_at-after.ensures c.edge_at-back.ensures c.look_of.ensures _ _ _ c.choose-gone.ensures c.choose-soon.ensures c.in-Some.is)
    c.choose-end.ensures

-- ---- its start vertex against another
pub returns-in_default-strike_at : goal.returns-in_default-strike_at
returns-in_default-strike_at c =
    stalls_inside _ _ _ _ _ _ _ _ _ _ _ _ c.loop-other-test.true c.loop-other.invariant
    (strikes_lost c.args.edges.now c.args.t _ _ _ _ _ _ _ _ _ _ _ _ _ (sym (edge_in _ _ (in_room _ _ _ c.loop-other-test.true c.loop-other.invariant.room))) _ c.closing-speed.ensures
    c.if-target-other.true _ c.step_to-s.ensures c.if-s-splits.true _ _ _ _ c.edge_at-first.ensures c.edge_at-last.ensures c.edge_at-own.ensures c.strike_at.ensures c.in_default-strike_at.is)
    ∙ when_tidied c.args.tidied _ _ c.if-not-tidied.false

pub loop-other-preserved : goal.loop-other-preserved
loop-other-preserved c = elim c.if-target-other.branch [
  | then-target-other+then-s-splits+in-Some-strike_at w ↦
      rw (w.splits-is, w.vertex-is, w.hit-is, w.step-is)
      (goes _ _ _ _ _ _ _ _ _ _ _ _ _ c.loop-other-test.true c.loop-other.invariant
      (strikes_on c.args.edges.now c.args.t _ _ _ _ _ _ _ _ _ _ _ _ _ (sym (edge_in _ _ (in_room _ _ _ c.loop-other-test.true c.loop-other.invariant.room))) _ c.closing-speed.ensures w.if-target-other.true _ w.step_to-s.ensures
      w.if-s-splits.true _ _ _ _ w.edge_at-first.ensures w.edge_at-last.ensures w.edge_at-own.ensures w.strike_at.ensures _ _ _ _
      w.choose-vertex.ensures w.choose-hit.ensures w.choose-step.ensures w.in-Some-strike_at.is))
  | then-target-other+else-s-splits w ↦
      rw (w.splits-is, w.vertex-is, w.hit-is, w.step-is)
      (goes _ _ _ _ _ _ _ _ _ _ _ _ _ c.loop-other-test.true c.loop-other.invariant
      (passes_step c.args.edges.now c.args.t _ _ _ _ _ _ _ _ _ _ _ _ _ (sym (edge_in _ _ (in_room _ _ _ c.loop-other-test.true c.loop-other.invariant.room))) _ c.closing-speed.ensures w.if-target-other.true _ w.step_to-s.ensures
      w.if-s-splits.false))
  | else-target-other w ↦
      rw (w.splits-is, w.vertex-is, w.hit-is, w.step-is)
      (goes _ _ _ _ _ _ _ _ _ _ _ _ _ c.loop-other-test.true c.loop-other.invariant
      (passes_edge c.args.edges.now c.args.t _ _ _ _ _ _ _ _ _ _ _ _ _ (sym (edge_in _ _ (in_room _ _ _ c.loop-other-test.true c.loop-other.invariant.room))) _ c.closing-speed.ensures w.if-target-other.false))
]

pub loop-slot-preserved : goal.loop-slot-preserved
loop-slot-preserved c = elim c.if-e.branch [
  | then-e+in-Some+else-loop-other-test w ↦
      rw (w.shrinks-is, w.gone-is, w.soon-is, w.splits-is, w.vertex-is, w.hit-is, w.step-is)
      (leaves _ _ _ _ _ _ _ _ _ _ _ _ w.loop-other-test.false w.loop-other.invariant)
  | else-e w ↦
      rw (w.shrinks-is, w.gone-is, w.soon-is, w.splits-is, w.vertex-is, w.hit-is, w.step-is)
      (passes_slot _ _ _ _ _ c.loop-slot-test.true c.loop-slot.invariant
      (dead_slot _ _ _ _ _ (sym (edge_in _ _ (slot_fits _ _ _ _ _ c.loop-slot-test.true c.loop-slot.invariant))) w.if-e.false))
]

-- ---- the search is over
pub returns : goal.returns
returns c = c.event_of.ensures ∙ searched _ _ _ _ _ c.loop-slot-test.false c.loop-slot.invariant ∙ when_tidied c.args.tidied _ _ c.if-not-tidied.false
