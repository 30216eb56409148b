-- A point with finite numbers is told to be on the boundary of a ring if and only if it lies on one of its edges. Assumes nothing.
use Rattle.turn.specs.Turns.{Finite}
use Rattle.segment.proofs.OnSegment.{touch_iff_on}
use Rattle.ring.proofs.Vertices.{at_ends}
use Rattle.ring_contain.specs.Exact.{BoundaryExact}
use Rattle.ring_contain.proofs.Found.{boundary_found, found_boundary}

pub boundary_exact : BoundaryExact
boundary_exact = record {
  told_lies = λ ps n p f g e.
      let w = boundary_found ps n p e in
      record {
        edge = w.at;
        under = w.under;
        lies = touch_iff_on.touching_on _ _ p (f w.at w.under) (at_ends Finite ps n f w.at w.under) g w.is;
      };
  lies_told = λ ps n p f g w.
      found_boundary ps n p (record {
        at = w.edge;
        under = w.under;
        is = touch_iff_on.on_touching _ _ p (f w.edge w.under) (at_ends Finite ps n f w.edge w.under) g w.lies;
      });
}
