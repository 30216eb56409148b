-- `segments_meet` leaves early where two turns are to one side: what it answers is the definition. Assumes nothing.
use mathlib.Core.Path.{◌≡◌, sym, ◌∙◌}
use mathlib.Core.Bool.{Bool, true, false}
use Rattle.plane.specs.declared.PlanarPoint.{PlanarPoint}
use Rattle.turn.specs.declared.Turn.{Turn}
use Rattle.turn.specs.Turns.{DoublePoint, turn}
use Rattle.segment.specs.Segments.{segments_meet}
use Rattle.segment.specs.Meeting.{one_side}
use Rattle.segment.proofs.Sides.{one_side_no_meet}

module _ (p1 p2 q1 q2 : PlanarPoint) (f1 : DoublePoint p1) (f2 : DoublePoint p2) (g1 : DoublePoint q1) (g2 : DoublePoint q2) (d e : Turn) (t : Bool) (h : t ≡ one_side d e) (k : t ≡ true) where
  pub early_second : d ≡ turn q1 q2 p1 → e ≡ turn q1 q2 p2 → false ≡ segments_meet p1 p2 q1 q2
  early_second a b = sym (one_side_no_meet.beside_second p1 p2 q1 q2 f1 f2 g1 g2 (rw (← a, ← b) (sym h ∙ k)))

  pub early_first : d ≡ turn p1 p2 q1 → e ≡ turn p1 p2 q2 → false ≡ segments_meet p1 p2 q1 q2
  early_first a b = sym (one_side_no_meet.beside_first p1 p2 q1 q2 f1 f2 g1 g2 (rw (← a, ← b) (sym h ∙ k)))

pub ruleset early = (early_second, early_first)
