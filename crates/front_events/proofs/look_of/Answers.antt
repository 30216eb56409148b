-- `front_events::look_of` meets its contract. Assumes nothing.
use mathlib.Core.Path.{refl}
use Rattle.front_events.specs.Found.{look_by, look_from, look_of}
use Rattle.front_events.proofs.look_of.Goals as goal

pub returns-in_err-start : goal.returns-in_err-start
unfolding look_of look_from
returns-in_err-start c = rw (← c.start_of.ensures, c.in_err-start.was) c.from_residual.ensures

pub returns-in_err-length : goal.returns-in_err-length
unfolding look_of look_from look_by
returns-in_err-length c =
    rw (← c.start_of.ensures, c.in_ok-start.was, ← c.start_of-2.ensures, ← c.length_between.ensures, c.in_err-length.was) c.from_residual-in_err-length.ensures

pub returns : goal.returns
unfolding look_of look_from look_by
returns c =
    rw (← c.start_of.ensures, c.in_ok-start.was, ← c.start_of-2.ensures, ← c.length_between.ensures, c.in_ok-length.was)
    (rw (c.shrink.ensures, c.reflex.ensures, c.edge_line.ensures, c.edge_line-2.ensures) refl)
