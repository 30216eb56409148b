-- Two rings with finite numbers are told to meet if and only if an edge of each share a point. Assumes nothing.
use Rattle.turn.specs.Turns.{Finite}
use Rattle.segment.proofs.Theorem.{meet_iff_shared}
use Rattle.ring.proofs.Vertices.{at_ends}
use Rattle.ring_cross.proofs.MetPairs.{met_pair, pair_met}
use Rattle.ring_cross.specs.MeetExact.{RingsMeetExact}

pub rings_meet_exact : RingsMeetExact
rings_meet_exact = record {
  meeting_share = λ ps n qs m f g e.
      let w = met_pair ps n qs m e in
      record {
        first = w.first;
        first_under = w.first_under;
        second = w.second;
        second_under = w.second_under;
        share = meet_iff_shared.meeting_share _ _ _ _ (f w.first w.first_under) (at_ends Finite ps n f w.first w.first_under)
            (g w.second w.second_under) (at_ends Finite qs m g w.second w.second_under) w.meet;
      };
  sharing_meet = λ ps n qs m f g w.
      pair_met ps n qs m (record {
        first = w.first;
        first_under = w.first_under;
        second = w.second;
        second_under = w.second_under;
        meet = meet_iff_shared.sharing_meet _ _ _ _ (f w.first w.first_under) (at_ends Finite ps n f w.first w.first_under)
            (g w.second w.second_under) (at_ends Finite qs m g w.second w.second_under) w.share;
      });
}
