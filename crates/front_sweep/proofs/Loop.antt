-- The loop over the events: a stage by its plan, and the ends of the walk. Assumes nothing.
use Prim.Native.Nat.{ℕ, ◌+◌, ◌<◌, ◌≤◌}
use mathlib.Core.Bool.{Bool, true, false, cond, not, ◌&&◌}
use mathlib.Core.List.{List}
use mathlib.Core.Path.{◌≡◌, refl, sym, ap, ◌∙◌}
use native.Mathlib.Omega.{arith}
use lib.Ieee.{Float}
use Rattle.error.specs.declared.Refusal.{Refusal}
use Rattle.error.specs.declared.Refusal.TheVariants.{Granted, Splits, Unfinished}
use Rattle.error.specs.Refusals.{granted, number, values}
use Rattle.error.proofs.Laws.{granted_is}
use Rattle.math.specs.Number
use Rattle.math.specs.Number.{zero_float}
use Rattle.base.specs.Loop.{rounds}
use Rattle.base.proofs.Laws.{next_round, stays_to, still, ends}
use Rattle.front.specs.declared.Edge.{Edge}
use Rattle.front.specs.declared.Event.{Event}
use Rattle.front.specs.declared.Front.{Front}
use Rattle.front.specs.declared.Loaded.{Loaded}
use Rattle.front.specs.declared.Sweep.{Sweep}
use Rattle.front.specs.Edges.{collapse}
use Rattle.front.specs.NextEvent.{next_event}
use Rattle.front.specs.Tidying.{tidy}
use Rattle.front.specs.Sweeps.{sweep_refused, sweep_ended, swept_collapse, split, sweep_tidied, sweep_step, sweep_from, finished, offset_rings}
use Rattle.front_split.specs.Begun.{begun}
use Rattle.front_sweep.specs.declared.Plan.{Plan}
use Rattle.front_sweep.specs.declared.Plan.TheVariants.{Refuse, End, TakeCollapse, TakeSplit}
use Rattle.front_sweep.specs.Planning.{plan_of}
use Rattle.front_sweep.proofs.Stages.{done, tidied_is, Parted, splits}

abbrev pub swept : List Edge → Float → ℕ → ℕ → ℕ → Bool → Refusal → Sweep
swept f t c v j ended r = record { edges = f; travelled = t; collapses = c; divides = v; joins = j; ended = ended; refusal = r }

-- a sweep that has stopped stays as it is
stopped : (d : Float) (s : Sweep) (k : ℕ) → (granted s.refusal && not s.ended) ≡ false → sweep_step d k s ≡ s
unfolding sweep_step
stopped d s k h = rw h refl

stops : (d : Float) (s : Sweep) → (granted s.refusal && not s.ended) ≡ false → finished d s ≡ s
unfolding finished
stops d s h = rw h refl

-- the sweep before its first stage, where loading refused nothing, and where it did
pub loaded : (d : Float) (l : Loaded) → granted l.refusal ≡ true → offset_rings d l ≡ finished d (rounds (sweep_step d) 387 (begun l.edges zero_float))
unfolding offset_rings sweep_from begun
loaded d l h = rw (granted_is l.refusal h) refl

pub not_loaded : (d : Float) (l : Loaded) → granted l.refusal ≡ false → swept l.edges zero_float 0 0 0 false l.refusal ≡ offset_rings d l
unfolding offset_rings sweep_from
not_loaded d l h = sym (ap (finished d) (still (sweep_step d) s (λ k. stopped d s k (rw h refl)) 387) ∙ stops d s (rw h refl))
  where
    s : Sweep
    s = swept l.edges zero_float 0 0 0 false l.refusal

module _ (d : Float) (f₀ : List Edge) (t₀ : Float) (f : List Edge) (t : Float) (c v j k : ℕ) where
  -- the state after k stages, and where the walk ends
  abbrev pub After : Type 0
  After = swept f t c v j false Granted ≡ rounds (sweep_step d) k (begun f₀ t₀)

  abbrev pub last : Sweep
  last = finished d (rounds (sweep_step d) 387 (begun f₀ t₀))

  pub unfinished : k ≤ 387 → 387 ≤ k → After → swept f t c v j false (Unfinished 387 (Number.sub d t)) ≡ last
  unfolding finished sweep_refused granted number values
  unfinished l h so_far = ap (finished d) (ends (sweep_step d) (begun f₀ t₀) (swept f t c v j false Granted) k 387 l h so_far)

  ends_there : (s : Sweep) → k < 387 → rounds (sweep_step d) (k + 1) (begun f₀ t₀) ≡ s → (granted s.refusal && not s.ended) ≡ false → s ≡ last
  ends_there s l e h = sym (ap (finished d) (stays_to (sweep_step d) (begun f₀ t₀) s (k + 1) 387 (omega arith) e (λ m. stopped d s m h)) ∙ stops d s h)

  module _
      (so_far : After) (front : Front) (event : Event) (p plan : Plan) (tidied : front ≡ tidy f t) (found : event ≡ next_event front.edges t)
      (planned : p ≡ plan_of d t event) (is : plan ≡ cond front.stalled Refuse p) where
    stage : rounds (sweep_step d) (k + 1) (begun f₀ t₀) ≡ done d (swept f t c v j false Granted) front.edges plan
    unfolding sweep_step granted number values
    stage =
        next_round _ _ _ ∙ ap (sweep_step d k) (sym so_far) ∙ ap (sweep_tidied d (swept f t c v j false Granted)) (sym tidied)
        ∙ tidied_is d (swept f t c v j false Granted) front ∙ rw (is, planned, found) refl

    pub refuses : k < 387 → plan ≡ Refuse → swept f t c v j false (Splits d) ≡ last
    unfolding done sweep_refused granted number values
    refuses l q = ends_there _ l (stage ∙ rw q refl) refl

    pub reaches : k < 387 → plan ≡ End → swept front.edges t c v j true Granted ≡ last
    unfolding done sweep_ended granted number values
    reaches l q = ends_there _ l (stage ∙ rw q refl) refl

    module _ (i : ℕ) (u : Float) (r : Front) (q : plan ≡ TakeCollapse i u) (w : r ≡ collapse front.edges i u) where
      collapsing : rounds (sweep_step d) (k + 1) (begun f₀ t₀) ≡ swept_collapse d (swept f t c v j false Granted) u r
      unfolding done
      collapsing = stage ∙ rw (q, w) refl

      pub collapse_lost : k < 387 → r.stalled ≡ true → swept f t c v j false (Splits d) ≡ last
      unfolding swept_collapse sweep_refused granted number values
      collapse_lost l h = ends_there _ l (collapsing ∙ rw h refl) refl

      pub collapses : r.stalled ≡ false → swept r.edges u (c + 1) v j false Granted ≡ rounds (sweep_step d) (k + 1) (begun f₀ t₀)
      unfolding swept_collapse
      collapses h = sym (collapsing ∙ rw h refl)

    module _ (a b : ℕ) (u : Float) (r : Sweep) (q : plan ≡ TakeSplit a b u) (w : r ≡ split d (begun front.edges t) front.edges a b u) where
      pub parts : Parted (swept f t c v j false Granted) (split d (swept f t c v j false Granted) front.edges a b u) r
      parts = rw w (splits d (swept f t c v j false Granted) front.edges a b u)

      splitting : rounds (sweep_step d) (k + 1) (begun f₀ t₀) ≡ split d (swept f t c v j false Granted) front.edges a b u
      unfolding done
      splitting = stage ∙ rw q refl

      pub split_lost : k < 387 → granted r.refusal ≡ false → swept f t c v j false r.refusal ≡ last
      unfolding sweep_refused
      split_lost l h = ends_there (swept f t c v j false r.refusal) l (splitting ∙ parts.same ∙ rw h refl) (rw h refl)

      pub split_on : granted r.refusal ≡ true →
          swept r.edges r.travelled c (v + r.divides) (j + r.joins) false Granted ≡ rounds (sweep_step d) (k + 1) (begun f₀ t₀)
      split_on h = sym (splitting ∙ parts.same ∙ rw h refl)
