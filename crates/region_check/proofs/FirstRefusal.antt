-- Walks that end at the first refusal: the first hole that is not free, the first two that touch. Assumes nothing.
use Prim.Native.Nat.{ℕ, ◌+◌, ◌-◌, ◌≤◌, ◌<◌}
use native.Mathlib.Nat.{le_antisymm}
use native.Mathlib.Omega.{arith}
use mathlib.Core.Path.{◌≡◌, refl, sym, ap, subst, ◌∙◌}
use mathlib.Core.Bool.{Bool, true, false, not, cond, ◌||◌}
use mathlib.Core.List.{List}
use borrow.Author.Tests.{not-true, not-false, le-leb, lt-leb}
use lib.Ieee.{Float}
use Rattle.error.specs.declared.Refusal.{Refusal}
use Rattle.error.specs.declared.Refusal.TheVariants.{Granted, HoleOutside, HolesTouch, ManyHoles}
use Rattle.error.specs.Refusals.{values, number, granted}
use Rattle.error.proofs.Laws.{granted_is}
use Rattle.base.specs.Loop.{rounds}
use Rattle.base.proofs.Laws.{no_round, next_round, stays_to}
use Rattle.ring.specs.Ring.{vertex_at}
use Rattle.plane.specs.declared.PlanarPoint.{PlanarPoint}
use Rattle.ring_contain.specs.Contains.{ring_contains}
use Rattle.ring_cross.specs.Meet.{rings_meet}
use Rattle.offset.specs.Clear.{right_side}
use Rattle.region.specs.Regions.{hole_points, hole_count, region_of}
use Rattle.region.specs.Checks
use Rattle.region.specs.Checks.{hole_step, check_holes, holes_touch, second_step, first_step, then_apart, check_region}
use Rattle.region_check.specs.Apart.{hole_fits, pair_touches, after_step, apart_from, apart_step, check_apart}

-- ---- a walk whose body asks one question a round while nothing is refused
module _ (f : ℕ → Refusal → Refusal) (ask : ℕ → Refusal) (body : (k : ℕ) (s : Refusal) → f k s ≡ cond (granted s) (ask k) s) (k : ℕ) (none : rounds f k Granted ≡ Granted) where
  step : rounds f (k + 1) Granted ≡ ask k
  unfolding granted number values
  step = next_round f k Granted ∙ body k (rounds f k Granted) ∙ ap (λ (s : Refusal). cond (granted s) (ask k) s) none

  pub asks_on : ask k ≡ Granted → rounds f (k + 1) Granted ≡ Granted
  asks_on h = step ∙ h

  pub refused_at : (n : ℕ) → k < n → (r : Refusal) → ask k ≡ r → granted r ≡ false → rounds f n Granted ≡ r
  refused_at n l r h g = stays_to f Granted r (k + 1) n (omega arith) (step ∙ h) (λ (j : ℕ). body j r ∙ rw g refl)

  pub asks_end : (n : ℕ) → k ≤ n → n ≤ k → rounds f n Granted ≡ Granted
  asks_end n l h = ap (λ (m : ℕ). rounds f m Granted) (le_antisymm h l) ∙ none

-- ---- question 11 of one hole after the other
module _ (ps : List Float) (n : ℕ) (hs : List Float) (cs : List ℕ) (h : ℕ) (k : ℕ) where
  abbrev fits_or : ℕ → Refusal
  fits_or j = cond (hole_fits ps n hs cs j) Granted (HoleOutside j)

  abbrev step_of : ℕ → Refusal → Refusal
  step_of = hole_step (region_of ps n hs cs h)

  module _ (none : rounds step_of k Granted ≡ Granted) where
    pub hole_fits_on : (r : Bool) → r ≡ hole_fits ps n hs cs k → not r ≡ false → rounds step_of (k + 1) Granted ≡ Granted
    unfolding hole_step region_of hole_points hole_count hole_fits
    hole_fits_on r e t = asks_on step_of fits_or (λ (j : ℕ) (s : Refusal). refl) k none (rw (← e, not-false r t) refl)

    pub hole_outside : k < h → (r : Bool) → r ≡ hole_fits ps n hs cs k → not r ≡ true → HoleOutside k ≡ check_holes (region_of ps n hs cs h)
    unfolding hole_step check_holes region_of hole_points hole_count hole_fits granted number values
    hole_outside l r e t = sym (refused_at step_of fits_or (λ (j : ℕ) (s : Refusal). refl) k none h l (HoleOutside k) (rw (← e, not-true r t) refl) refl)

    pub holes_fit : k ≤ h → h ≤ k → Granted ≡ check_holes (region_of ps n hs cs h)
    unfolding hole_step check_holes region_of hole_points hole_count hole_fits
    holes_fit l m = sym (asks_end step_of fits_or (λ (j : ℕ) (s : Refusal). refl) k none h l m)

-- ---- question 12 of a hole and one hole after the other: hole j is asked in round j - (i + 1)
module _ (hs : List Float) (cs : List ℕ) (i : ℕ) where
  abbrev touch_or : ℕ → Refusal
  touch_or k = cond (pair_touches hs cs i (i + 1 + k)) (HolesTouch i (i + 1 + k)) Granted

  pub no_pair : rounds (after_step hs cs i) (i + 1 - (i + 1)) Granted ≡ Granted
  no_pair =
      let e : 0 ≡ i + 1 - (i + 1) = omega arith in
      subst (λ (m : ℕ). rounds (after_step hs cs i) m Granted ≡ Granted) e (no_round (after_step hs cs i) Granted)

  module _ (j : ℕ) (after : i + 1 ≤ j) (none : rounds (after_step hs cs i) (j - (i + 1)) Granted ≡ Granted) where
    at : i + 1 + (j - (i + 1)) ≡ j
    at = omega arith

    pub pair_apart : (r : Bool) → r ≡ pair_touches hs cs i j → r ≡ false → rounds (after_step hs cs i) (j + 1 - (i + 1)) Granted ≡ Granted
    unfolding after_step
    pair_apart r e t =
        let on : j - (i + 1) + 1 ≡ j + 1 - (i + 1) = omega arith in
        subst (λ (m : ℕ). rounds (after_step hs cs i) m Granted ≡ Granted) on
        (asks_on (after_step hs cs i) touch_or (λ (k : ℕ) (s : Refusal). refl) (j - (i + 1)) none (rw (at, ← e, t) refl))

    pub pair_found : (h : ℕ) → j < h → (r : Bool) → r ≡ pair_touches hs cs i j → r ≡ true → HolesTouch i j ≡ apart_from hs cs h i
    unfolding after_step apart_from granted number values
    pair_found h l r e t =
        sym (refused_at (after_step hs cs i) touch_or (λ (k : ℕ) (s : Refusal). refl) (j - (i + 1)) none (h - (i + 1)) (omega arith) (HolesTouch i j) (rw (at, ← e, t) refl) refl)

    pub pairs_apart : (h : ℕ) → j ≤ h → h ≤ j → Granted ≡ apart_from hs cs h i
    unfolding after_step apart_from
    pairs_apart h l m = sym (asks_end (after_step hs cs i) touch_or (λ (k : ℕ) (s : Refusal). refl) (j - (i + 1)) none (h - (i + 1)) (omega arith) (omega arith))

pub none_after : (hs : List Float) (cs : List ℕ) (h i : ℕ) → h ≤ i → Granted ≡ apart_from hs cs h i
unfolding after_step apart_from
none_after hs cs h i l = sym (asks_end (after_step hs cs i) (touch_or hs cs i) (λ (k : ℕ) (s : Refusal). refl) 0 (no_round (after_step hs cs i) Granted) (h - (i + 1)) (omega arith) (omega arith))

-- ---- question 12 of one hole after the other
module _ (hs : List Float) (cs : List ℕ) (h i : ℕ) (none : rounds (apart_step hs cs h) i Granted ≡ Granted) (r : Refusal) (e : r ≡ apart_from hs cs h i) (g : Bool) (t : g ≡ granted r) where
  pub apart_on : not g ≡ false → rounds (apart_step hs cs h) (i + 1) Granted ≡ Granted
  unfolding apart_step
  apart_on q = asks_on (apart_step hs cs h) (apart_from hs cs h) (λ (j : ℕ) (s : Refusal). refl) i none (sym e ∙ granted_is r (sym t ∙ not-false g q))

  pub touching : i < h → not g ≡ true → r ≡ check_apart hs cs h
  unfolding apart_step check_apart
  touching l q = sym (refused_at (apart_step hs cs h) (apart_from hs cs h) (λ (j : ℕ) (s : Refusal). refl) i none h l r (sym e) (sym t ∙ not-true g q))

pub all_apart : (hs : List Float) (cs : List ℕ) (h i : ℕ) → rounds (apart_step hs cs h) i Granted ≡ Granted → i ≤ h → h ≤ i → Granted ≡ check_apart hs cs h
unfolding apart_step check_apart
all_apart hs cs h i none l m = sym (asks_end (apart_step hs cs h) (apart_from hs cs h) (λ (j : ℕ) (s : Refusal). refl) i none h l m)

-- ---- two holes
module _ (ps : List Float) (n : ℕ) (qs : List Float) (m : ℕ) (t : Bool) (e : t ≡ rings_meet ps n qs m) where
  pub edges_touch : t ≡ true → true ≡ holes_touch ps n qs m
  unfolding holes_touch
  edges_touch h = rw (← e, h) refl

  pub one_holds : t ≡ false → (p q : PlanarPoint) (a b : Bool) → p ≡ vertex_at ps 0 → q ≡ vertex_at qs 0 →
      a ≡ right_side true (ring_contains qs m p) → b ≡ right_side true (ring_contains ps n q) → (not a || not b) ≡ holes_touch ps n qs m
  unfolding holes_touch right_side
  one_holds h p q a b ep eq ea eb = rw (← e, h, ← ep, ← eq, ← ea, ← eb) refl

-- ---- questions 10 to 12
module _ (ps : List Float) (n : ℕ) (hs : List Float) (cs : List ℕ) (h : ℕ) where
  apart_is : check_apart hs cs h ≡ Checks.check_apart (region_of ps n hs cs h)
  unfolding region_of hole_points hole_count first_step second_step Checks.check_apart check_apart apart_step apart_from after_step pair_touches
  apart_is = refl

  pub many_holes : 8 < h → ManyHoles h ≡ check_region (region_of ps n hs cs h)
  unfolding check_region region_of
  many_holes l = rw (lt-leb h 8 l) refl

  pub few_holes : h ≤ 8 → then_apart (region_of ps n hs cs h) (check_holes (region_of ps n hs cs h)) ≡ check_region (region_of ps n hs cs h)
  unfolding check_region region_of
  few_holes l = rw (le-leb h 8 l) refl

  module _ (l : h ≤ 8) (r : Refusal) (e : r ≡ check_holes (region_of ps n hs cs h)) (g : Bool) (t : g ≡ granted r) where
    pub by_apart : g ≡ true → (x : Refusal) → x ≡ check_apart hs cs h → x ≡ check_region (region_of ps n hs cs h)
    unfolding then_apart
    by_apart q x d = d ∙ apart_is ∙ rw (← few_holes l, ← e, ← t, q) refl

    pub by_holes : g ≡ false → r ≡ check_region (region_of ps n hs cs h)
    unfolding then_apart
    by_holes q = rw (← few_holes l, ← e, ← t, q) refl
