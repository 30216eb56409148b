-- `front_sweep::advance` meets its contract. Assumes nothing.
use mathlib.Core.Path.{refl, sym, ap, ◌∙◌, ◌≡◌}
use mathlib.Core.Bool.{Bool, true}
use lib.Ieee.{Float}
use borrow.Author.Rules.{rules}
use Rattle.error.specs.Refusals.{granted, number, values}
use Rattle.math.specs.Number.{zero_float}
use Rattle.base.specs.Loop.{rounds}
use Rattle.base.proofs.Laws.{no_round}
use Rattle.front.specs.Edges.{stalled}
use Rattle.front.specs.declared.Edge.{Edge}
use Rattle.front.specs.Sweeps.{sweep_step, finished, offset_rings}
use Rattle.front_edges.proofs.Actions.{collapse_none}
use Rattle.front_sweep.proofs.Loop.{loaded, not_loaded, unfinished}
use Rattle.front_sweep.specs.Acts.{cleared}
use Rattle.front_sweep.proofs.Holds.{clears, held_stop, held_finish, held_shrink, held_cut, counted, shrink_falls, tidying_falls, shrunk, held, held_ring, held_spike}
use Rattle.front_split.specs.Begun.{begun}
use Rattle.front_sweep.proofs.advance.Goals as goal
use Rattle.front.specs.declared.Loaded.{Loaded}

-- ---- before the first stage
pub returns-then-not-granted : goal.returns-then-not-granted
returns-then-not-granted c =
    let granted-gives = c.granted.ensures in
    let no = sym granted-gives ∙ c.if-not-granted.true in
    c.refused.ensures ∙ clears _ _ _ _ _ _ _ no (not_loaded _ _ no)

pub loop-k-init : goal.loop-k-init
unfolding begun
loop-k-init c =
    record {
      within = search rules;
      few = search rules;
      collapses = search rules;
      divides = search rules;
      joins = search rules;
      from = _;
      after = sym (no_round _ _);
      steps = no_round _ _;
    }

-- the loop ends as the definition does
ends : (d : Float) (l : Loaded) {b : Bool} → b ≡ granted l.refusal → b ≡ true → cleared (finished d (rounds (sweep_step d) 387 (begun l.edges zero_float))) ≡ cleared (offset_rings d l)
ends d l e h = sym (ap cleared (loaded d l (sym e ∙ h)))

-- ---- the act

-- what each act makes of the front is read from `held`, at every step after it
pub returns-in-Stop : goal.returns-in-Stop
returns-in-Stop c =
    let acts = held c.loop-k.invariant c.loop-k-test.true c.find_tidy-first.ensures c.choose-found.ensures c.settled.ensures c.next_event-event.ensures c.act_of-act.ensures in
    c.refused-in-Stop.ensures ∙ held_stop acts c.in-Stop.is ∙ ends _ _ c.granted.ensures c.if-not-granted.false

pub returns-in-Finish : goal.returns-in-Finish
returns-in-Finish c =
    let acts = held c.loop-k.invariant c.loop-k-test.true c.find_tidy-first.ensures c.choose-found.ensures c.settled.ensures c.next_event-event.ensures c.act_of-act.ensures in
    held_finish acts c.in-Finish.is ∙ ends _ _ c.granted.ensures c.if-not-granted.false

-- ---- an edge collapses
pub returns-in_default : goal.returns-in_default
unfolding stalled
returns-in_default c =
    let acts = held c.loop-k.invariant c.loop-k-test.true c.find_tidy-first.ensures c.choose-found.ensures c.settled.ensures c.next_event-event.ensures c.act_of-act.ensures in
    c.refused-in_default.ensures
    ∙ (held_shrink acts c.in-Shrink.is c.edge_at.ensures c.choose-slot.ensures
    (collapse_none _ _ _ _ _ (ap (λ (e : Edge). e.next) c.edge_at-next.ensures) c.vertex.ensures c.in_default.is)).lost refl
    ∙ ends _ _ c.granted.ensures c.if-not-granted.false

pub loop-k-smaller-in-Shrink : goal.loop-k-smaller-in-Shrink
loop-k-smaller-in-Shrink c =
    let acts = held c.loop-k.invariant c.loop-k-test.true c.find_tidy-first.ensures c.choose-found.ensures c.settled.ensures c.next_event-event.ensures c.act_of-act.ensures in
    shrink_falls (shrunk acts c.in-Shrink.is c.edge_at.ensures c.choose-slot.ensures c.edge_at-next.ensures c.vertex.ensures c.in-Some.is c.set_start.ensures c.remove.ensures)
    c.choose-k.ensures c.loop-k-test.true c.loop-k.invariant.few c.choose-m.ensures

pub loop-k-preserved-in-Shrink : goal.loop-k-preserved-in-Shrink
loop-k-preserved-in-Shrink c =
    let acts = held c.loop-k.invariant c.loop-k-test.true c.find_tidy-first.ensures c.choose-found.ensures c.settled.ensures c.next_event-event.ensures c.act_of-act.ensures in
    counted (shrunk acts c.in-Shrink.is c.edge_at.ensures c.choose-slot.ensures c.edge_at-next.ensures c.vertex.ensures c.in-Some.is c.set_start.ensures c.remove.ensures)
    c.choose-collapses.ensures c.choose-m.ensures c.choose-k.ensures

-- ---- the front splits
pub returns-then-not-granted-2 : goal.returns-then-not-granted-2
returns-then-not-granted-2 c =
    let acts = held c.loop-k.invariant c.loop-k-test.true c.find_tidy-first.ensures c.choose-found.ensures c.settled.ensures c.next_event-event.ensures c.act_of-act.ensures in
    c.refused-then-not-granted-2.ensures ∙ (held_cut acts c.in-Cut.is c.split-done.ensures).lost (sym c.granted-in-Cut.ensures ∙ c.if-not-granted-2.true) ∙ ends _ _ c.granted.ensures c.if-not-granted.false

pub overflow_add-divides : goal.overflow_add-divides
overflow_add-divides c =
    let acts = held c.loop-k.invariant c.loop-k-test.true c.find_tidy-first.ensures c.choose-found.ensures c.settled.ensures c.next_event-event.ensures c.act_of-act.ensures in
    search (rules, (held_cut acts c.in-Cut.is c.split-done.ensures).divides, c.loop-k.invariant.divides, c.loop-k.invariant.within)

pub overflow_add-joins : goal.overflow_add-joins
overflow_add-joins c =
    let acts = held c.loop-k.invariant c.loop-k-test.true c.find_tidy-first.ensures c.choose-found.ensures c.settled.ensures c.next_event-event.ensures c.act_of-act.ensures in
    search (rules, (held_cut acts c.in-Cut.is c.split-done.ensures).joins, c.loop-k.invariant.joins, c.loop-k.invariant.within)

pub loop-k-preserved-in-Cut : goal.loop-k-preserved-in-Cut
loop-k-preserved-in-Cut c =
    let acts = held c.loop-k.invariant c.loop-k-test.true c.find_tidy-first.ensures c.choose-found.ensures c.settled.ensures c.next_event-event.ensures c.act_of-act.ensures in
    (held_cut acts c.in-Cut.is c.split-done.ensures).goes (sym c.granted-in-Cut.ensures ∙ c.if-not-granted-2.false)

-- ---- tidying drops a ring, or a spike
pub loop-k-smaller-in-DropRing : goal.loop-k-smaller-in-DropRing
loop-k-smaller-in-DropRing c =
    let acts = held c.loop-k.invariant c.loop-k-test.true c.find_tidy-first.ensures c.choose-found.ensures c.settled.ensures c.next_event-event.ensures c.act_of-act.ensures in
    tidying_falls _ _ (held_ring acts c.in-DropRing.is c.drop_ring.ensures).few

pub loop-k-preserved-in-DropRing : goal.loop-k-preserved-in-DropRing
loop-k-preserved-in-DropRing c =
    let acts = held c.loop-k.invariant c.loop-k-test.true c.find_tidy-first.ensures c.choose-found.ensures c.settled.ensures c.next_event-event.ensures c.act_of-act.ensures in
    held_ring acts c.in-DropRing.is c.drop_ring.ensures

pub returns-then-done : goal.returns-then-done
returns-then-done c =
    let acts = held c.loop-k.invariant c.loop-k-test.true c.find_tidy-first.ensures c.choose-found.ensures c.settled.ensures c.next_event-event.ensures c.act_of-act.ensures in
    c.refused-then-done.ensures ∙ (held_spike acts c.in-DropSpike.is c.drop_spike-done.ensures).lost c.if-done.true ∙ ends _ _ c.granted.ensures c.if-not-granted.false

pub loop-k-smaller : goal.loop-k-smaller
loop-k-smaller c =
    let acts = held c.loop-k.invariant c.loop-k-test.true c.find_tidy-first.ensures c.choose-found.ensures c.settled.ensures c.next_event-event.ensures c.act_of-act.ensures in
    tidying_falls _ _ ((held_spike acts c.in-DropSpike.is c.drop_spike-done.ensures).goes c.if-done.false).few

pub loop-k-preserved : goal.loop-k-preserved
loop-k-preserved c =
    let acts = held c.loop-k.invariant c.loop-k-test.true c.find_tidy-first.ensures c.choose-found.ensures c.settled.ensures c.next_event-event.ensures c.act_of-act.ensures in
    (held_spike acts c.in-DropSpike.is c.drop_spike-done.ensures).goes c.if-done.false

-- ---- 387 stages are over
pub returns : goal.returns
unfolding granted number values
returns c =
    c.refused-2.ensures ∙ clears _ _ _ _ _ _ _ refl (unfinished _ _ _ _ _ _ _ _ _ c.loop-k.invariant.within c.loop-k-test.false c.loop-k.invariant.after)
    ∙ ends _ _ c.granted.ensures c.if-not-granted.false
