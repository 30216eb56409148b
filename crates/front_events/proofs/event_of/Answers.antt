-- `front_events::event_of` meets its contract. Assumes nothing.
use Rattle.front_events.proofs.Leaves.{event_split, event_collapse, event_never}
use Rattle.front_events.proofs.event_of.Goals as goal

pub returns-then-splits-first : goal.returns-then-splits-first
returns-then-splits-first c = event_split _ _ _ _ _ _ _ _ c.if-splits-first.true

pub returns-then-shrinks : goal.returns-then-shrinks
returns-then-shrinks c = event_collapse _ _ _ _ _ _ _ _ c.if-splits-first.false c.if-shrinks.true

pub returns : goal.returns
returns c = event_never _ _ _ _ _ _ _ _ c.if-splits-first.false c.if-shrinks.false
