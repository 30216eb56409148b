-- What holds at the head of each loop of the search, and what follows where the search ends. Assumes nothing.
use Prim.Native.Nat.{ℕ, ◌+◌, ◌<◌, ◌≤◌}
use mathlib.Core.Path.{◌≡◌, refl, sym, ap, ◌∙◌}
use mathlib.Core.Bool.{Bool, true, false, cond}
use mathlib.Core.List.{List}
use native.Mathlib.Omega.{arith}
use lib.Ieee.{Float}
use Rattle.plane.specs.declared.PlanarPoint.{PlanarPoint}
use Rattle.math.specs.Number.{zero_float}
use Rattle.front.specs.declared.Edge.{Edge}
use Rattle.front.specs.declared.EventSearch.{EventSearch}
use Rattle.front.specs.declared.Event.{Event}
use Rattle.front.specs.declared.Event.TheVariants.{Stalled}
use Rattle.front.specs.NextEvent.{look_stalled, candidate, hit_step, look_at, look_step, look, event_of, next_event}
use Rattle.base.specs.Loop.{rounds}
use Rattle.base.proofs.Laws.{no_round, next_round, goes_on, ends, stays_to}
use Rattle.front_events.specs.Found.{collapse_of, split_of, search_of, used_slots}
use Rattle.front_events.proofs.Used.{used_room, looks_used}

-- a front that is tidied is searched
pub when_tidied : (b : Bool) (x y : Event) → b ≡ true → x ≡ cond b x y
when_tidied b x y h = rw h refl

-- before the first round
abbrev pub none : EventSearch
none = search_of false 0 zero_float false 0 0 zero_float

looked : (f : List Edge) (t : Float) → look f t ≡ rounds (look_step f t) 128 none
unfolding look search_of collapse_of split_of
looked f t = refl

-- after i slots of those in use
pub record Outer (f : List Edge) (t : Float) (used : ℕ) (now : EventSearch) (i : ℕ) : Type 0 where
  pub bound : used ≡ used_slots f
  pub within : i ≤ used
  pub same : now ≡ rounds (look_step f t) i none

-- in the slot before slot i, after j targets of `end`, from the state `base`
pub record Inner (f : List Edge) (t : Float) (used slot before : ℕ) (p v : PlanarPoint) (end : ℕ) (base : EventSearch) (i : ℕ) (now : EventSearch) (j : ℕ) : Type 0 where
  pub bound : used ≡ used_slots f
  pub top : i ≤ used
  pub room : end ≤ 128
  pub within : j ≤ end
  pub same : now ≡ rounds (hit_step f t slot before p v) j base
  pub leads : rounds (look_step f t) i none ≡ rounds (hit_step f t slot before p v) end base

pub fits : (f : List Edge) (used i : ℕ) → used ≡ used_slots f → i ≤ used → i ≤ 128
fits f used i e l = go (used_room f)
  where
    go : used_slots f ≤ 128 → i ≤ 128
    go h = omega arith

pub slot_fits : (f : List Edge) (t : Float) (used : ℕ) (s : EventSearch) (i : ℕ) → i < used → Outer f t used s i → i < 128
slot_fits f t used s i l o = go (fits f used used o.bound (omega arith))
  where
    go : used ≤ 128 → i < 128
    go h = omega arith

-- a vertex without a velocity ends the search
stalled_at : (f : List Edge) (t : Float) (i : ℕ) (s : EventSearch) → i ≤ 128 → rounds (look_step f t) i none ≡ look_stalled s → Stalled ≡ next_event f t
unfolding look_stalled look_step look_at next_event event_of
stalled_at f t i s l h = sym (ap (event_of t) (looked f t ∙ stays_to (look_step f t) none (look_stalled s) i 128 l h (λ k. refl)))

pub stalls_outside : (f : List Edge) (t : Float) (used i : ℕ) (s : EventSearch) → i < used → Outer f t used s i → look_step f t i s ≡ look_stalled s → Stalled ≡ next_event f t
stalls_outside f t used i s l o h =
    stalled_at f t (i + 1) s (fits f used (i + 1) o.bound (omega arith)) (next_round (look_step f t) i none ∙ ap (look_step f t i) (sym o.same) ∙ h)

pub stalls_inside : (f : List Edge) (t : Float) (used slot before : ℕ) (p v : PlanarPoint) (end : ℕ) (base : EventSearch) (i : ℕ) (s : EventSearch) (j : ℕ) → j < end →
    Inner f t used slot before p v end base i s j → hit_step f t slot before p v j s ≡ look_stalled s → Stalled ≡ next_event f t
unfolding look_stalled hit_step candidate
stalls_inside f t used slot before p v end base i s j l o h =
    stalled_at f t i s (fits f used i o.bound o.top)
    (o.leads
    ∙ stays_to (hit_step f t slot before p v) base (look_stalled s) (j + 1) end (omega arith)
    (next_round (hit_step f t slot before p v) j base ∙ ap (hit_step f t slot before p v j) (sym o.same) ∙ h) (λ k. refl))

-- the search comes to its end
pub searched : (f : List Edge) (t : Float) (used : ℕ) (s : EventSearch) (i : ℕ) → used ≤ i → Outer f t used s i → event_of t s ≡ next_event f t
unfolding next_event
searched f t used s i l o =
    ap (event_of t)
    (ends (look_step f t) none s i used o.within l o.same ∙ ap (λ (z : ℕ). rounds (look_step f t) z none) o.bound ∙ sym (looks_used f t none)
    ∙ sym (looked f t))

-- the rounds
pub starts : (f : List Edge) (t : Float) (used : ℕ) → used ≡ used_slots f → Outer f t used none 0
starts f t used e = record { bound = e; within = omega arith; same = sym (no_round (look_step f t) none) }

pub passes_slot : (f : List Edge) (t : Float) (used : ℕ) (s : EventSearch) (i : ℕ) → i < used → Outer f t used s i → look_step f t i s ≡ s → Outer f t used s (i + 1)
passes_slot f t used s i l o h = record { bound = o.bound; within = omega arith; same = goes_on (look_step f t) none s s i o.same (sym h) }

most : (r : Bool) (used end : ℕ) → used ≤ 128 → end ≡ cond r used 0 → end ≤ 128
most true used end l e = omega arith
most false used end l e = omega arith

pub enters : (f : List Edge) (t : Float) (used before : ℕ) (p v : PlanarPoint) (r : Bool) (end : ℕ) (base s : EventSearch) (i : ℕ) → i < used → Outer f t used s i →
    look_step f t i s ≡ rounds (hit_step f t i before p v) (cond r (used_slots f) 0) base → end ≡ cond r used 0 → Inner f t used i before p v end base (i + 1) base 0
enters f t used before p v r end base s i l o h e =
    record {
      bound = o.bound;
      top = omega arith;
      room = most r used end (fits f used used o.bound (omega arith)) e;
      within = omega arith;
      same = sym (no_round (hit_step f t i before p v) base);
      leads =
          next_round (look_step f t) i none ∙ ap (look_step f t i) (sym o.same) ∙ h
          ∙ ap (λ (z : ℕ). rounds (hit_step f t i before p v) (cond r z 0) base) (sym o.bound)
          ∙ ap (λ (z : ℕ). rounds (hit_step f t i before p v) z base) (sym e);
    }

pub goes : (f : List Edge) (t : Float) (used slot before : ℕ) (p v : PlanarPoint) (end : ℕ) (base : EventSearch) (i : ℕ) (s s' : EventSearch) (j : ℕ) → j < end →
    Inner f t used slot before p v end base i s j → hit_step f t slot before p v j s ≡ s' → Inner f t used slot before p v end base i s' (j + 1)
goes f t used slot before p v end base i s s' j l o h =
    record {
      bound = o.bound;
      top = o.top;
      room = o.room;
      within = omega arith;
      same = goes_on (hit_step f t slot before p v) base s s' j o.same (sym h);
      leads = o.leads;
    }

pub leaves : (f : List Edge) (t : Float) (used slot before : ℕ) (p v : PlanarPoint) (end : ℕ) (base : EventSearch) (i : ℕ) (s : EventSearch) (j : ℕ) → end ≤ j →
    Inner f t used slot before p v end base i s j → Outer f t used s i
leaves f t used slot before p v end base i s j l o =
    record { bound = o.bound; within = o.top; same = ends (hit_step f t slot before p v) base s j end o.within l o.same ∙ sym o.leads }

pub in_room : (j end n : ℕ) → j < end → end ≤ n → j < n
in_room j end n h l = omega arith
