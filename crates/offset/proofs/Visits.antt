-- What every visit of a finished ring keeps holds of what the visits have made. Assumes nothing.
use Prim.Native.Nat.{ℕ}
use mathlib.Core.Bool.{Bool, ◌&&◌}
use mathlib.Core.List.{List}
use lib.Ieee.{Float}
use Rattle.plane.specs.declared.PlanarPoint.{PlanarPoint}
use Rattle.error.specs.declared.Refusal.{Refusal}
use Rattle.front.specs.declared.Edge.{Edge}
use Rattle.front.specs.declared.Walk.{Walk}
use Rattle.error.specs.Refusals.{granted}
use Rattle.front.specs.Finished.{Visits, walk, starts, visited, visit_step, visits_from, for_each_ring}
use Rattle.base.proofs.Laws.{rounds_keep}
use Rattle.base.proofs.Choices.{both}

-- Q is what is known of every ring that is walked
module _ {X : Type 0} (P : X → Type 0) (refusal : X → Refusal) (visit : ℕ → Walk → X → X) (f : List Edge) (t : Float) (origin : PlanarPoint)
    (Q : Walk → Type 0) (rings : (first : ℕ) (seen : List Bool) → Q (walk f t origin first seen)) (keep : (place : ℕ) (w : Walk) → Q w → (a : X) → P a → P (visit place w a)) where
  record Made (s : Visits X) : Type 0 where
    made : P s.made

  step_made : (k : ℕ) (s : Visits X) → Made s → Made (visit_step refusal visit f t origin k s)
  unfolding visit_step visited
  step_made k s h =
      both Made (granted (refusal s.made) && starts f s.seen k)
      (record { made = keep s.place (walk f t origin k s.seen) (rings k s.seen) s.made h.made }) h

  pub visits_keep : (a : X) → P a → P (for_each_ring refusal visit f t origin a)
  unfolding for_each_ring visits_from
  visits_keep a p = (rounds_keep (visit_step refusal visit f t origin) (λ k s. Made s) (visits_from a) (record { made = p }) step_made 128).made
