-- Two rings are told to meet where an edge of the one meets an edge of the other. Assumes nothing.
use Prim.Native.Nat.{ℕ, ◌<◌}
use mathlib.Core.Path.{◌≡◌, refl, ◌∙◌}
use mathlib.Core.Bool.{Bool, true}
use mathlib.Core.List.{List}
use lib.Ieee.{Float}
use Rattle.segment.specs.Segments.{segments_meet}
use Rattle.segment.proofs.Symmetric.{alike, meet_symmetric}
use Rattle.ring.specs.Ring.{vertex_at, edge_end}
use Rattle.base.proofs.Tests.{one_passed, passed_one}
use Rattle.ring_cross.specs.Meet.{meet_step, meets_edge, rings_meet_step, rings_meet}
use Rattle.ring_cross.specs.PairLaws.{EdgesMeet}

-- the two edges
pub record MetPair (ps : List Float) (n : ℕ) (qs : List Float) (m : ℕ) : Type 0 where
  pub first : ℕ
  pub first_under : first < n
  pub second : ℕ
  pub second_under : second < m
  pub meet : EdgesMeet ps n qs m first second

module _ (ps : List Float) (n : ℕ) (qs : List Float) (m : ℕ) where
  abbrev met : ℕ → ℕ → Bool
  met i j = segments_meet (vertex_at ps i) (edge_end ps n i) (vertex_at qs j) (edge_end qs m j)

  abbrev meets : ℕ → Bool
  meets i = meets_edge qs m (vertex_at ps i) (edge_end ps n i)

  pub met_pair : rings_meet ps n qs m ≡ true → MetPair ps n qs m
  unfolding rings_meet rings_meet_step meets_edge meet_step
  met_pair e =
      let a = one_passed (rings_meet_step ps n qs m) meets (λ i s. refl) n e in
      let b = one_passed (meet_step qs m (vertex_at ps a.at) (edge_end ps n a.at)) (met a.at) (λ j s. refl) m a.is in
      record { first = a.at; first_under = a.under; second = b.at; second_under = b.under; meet = b.is }

  pub pair_met : MetPair ps n qs m → rings_meet ps n qs m ≡ true
  unfolding rings_meet rings_meet_step meets_edge meet_step
  pair_met w =
      passed_one (rings_meet_step ps n qs m) meets (λ a s. refl) n (record {
        at = w.first;
        under = w.first_under;
        is = passed_one (meet_step qs m (vertex_at ps w.first) (edge_end ps n w.first)) (met w.first) (λ a s. refl) m
            (record { at = w.second; under = w.second_under; is = w.meet });
      })

turned : (ps : List Float) (n : ℕ) (qs : List Float) (m : ℕ) → rings_meet ps n qs m ≡ true → rings_meet qs m ps n ≡ true
turned ps n qs m e =
    let w = met_pair ps n qs m e in
    pair_met qs m ps n (record {
      first = w.second;
      first_under = w.second_under;
      second = w.first;
      second_under = w.first_under;
      meet = meet_symmetric.exchanged _ _ _ _ ∙ w.meet;
    })

-- by either name first
pub either_way : (ps : List Float) (n : ℕ) (qs : List Float) (m : ℕ) → rings_meet qs m ps n ≡ rings_meet ps n qs m
either_way ps n qs m = alike (rings_meet qs m ps n) (rings_meet ps n qs m) (turned qs m ps n) (turned ps n qs m)
