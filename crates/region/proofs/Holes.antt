-- The holes of a region as they are stored: a hole more leaves the others as they were. Assumes nothing.
use Prim.Native.Nat.{ℕ, ◌+◌, ◌*◌, ◌≤◌, ◌<◌}
use mathlib.Core.Path.{◌≡◌, refl, sym, ap, ◌∙◌}
use mathlib.Core.Bool.{Bool, true}
use mathlib.Core.List.{List}
use native.Mathlib.Omega.{arith}
use borrow.Author.Tests.{le-leb, ltb-true, ltb-false}
use lib.Dec.{ltb}
use lib.ListN.{get_or, drop, set, length, length-set, length-replicate}
use lib.Seq.{get_or-drop, get_or-set_same, get_or-set_other}
use lib.Ieee.{Float, nan}
use Rattle.base.proofs.Choices.{by_cases, by_test}
use Rattle.base.proofs.Tests.{pass_all}
use Rattle.outline.specs.declared.Outline.{Outline}
use Rattle.region.specs.declared.Region.{Region}
use Rattle.math.specs.Number.{zero_float}
use Rattle.ring.specs.Ring.{vertex_at, stored_at}
use Rattle.outline.specs.Outlines.{proper}
use Rattle.outline.proofs.Good.{GoodRing, good_same, good_proper, proper_same}
use Rattle.front.proofs.Demand.Shapes.{proper_is}
use Rattle.ring.proofs.Storing.{stored_length, stored_new, stored_old}
use Rattle.region.specs.Regions.{no_region, hole_points, hole_count, with_outer, store_hole, count_hole, with_hole}
use Rattle.region.specs.Checks.{proper_step, proper_region}

-- P holds of the first eight holes
pub record GoodHoles (P : List Float → ℕ → Type 0) (q : Region) : Type 0 where
  pub size : length q.points ≡ 512
  pub places : length q.counts ≡ 8
  pub each : (j : ℕ) → j < q.holes → j < 8 → P (hole_points q j) (hole_count q j)

-- P is of at most 32 vertices, and looks at nothing else
pub record OfHoles (P : List Float → ℕ → Type 0) : Type 0 where
  pub fits : (qs : List Float) (n : ℕ) → P qs n → n ≤ 32
  pub same : (qs rs : List Float) (n : ℕ) → ((k : ℕ) → k < n → vertex_at rs k ≡ vertex_at qs k) → P qs n → P rs n

pub good_of_holes : OfHoles (GoodRing 32)
good_of_holes = record { fits = λ qs n g. g.fits; same = λ qs rs n e g. good_same 32 qs n g rs e }

abbrev pub ProperHole : List Float → ℕ → Type 0
ProperHole qs n = proper 32 qs n ≡ true

pub proper_of_holes : OfHoles ProperHole
proper_of_holes = record { fits = λ qs n g. (proper_is 32 qs n g).fits; same = λ qs rs n e g. proper_same 32 qs rs n e g }

-- vertex k of the numbers from `place` on
pub hole_vertex : (ps : List Float) (place base k : ℕ) → place ≡ 2 * base → vertex_at (drop place ps) k ≡ vertex_at ps (base + k)
unfolding vertex_at
hole_vertex ps place base k e =
    let a : get_or (drop place ps) (2 * k) nan ≡ get_or ps (2 * (base + k)) nan = get_or-drop place ps (2 * k) nan ∙ ap (λ (i : ℕ). get_or ps i nan) (omega arith) in
    let b : get_or (drop place ps) (2 * k + 1) nan ≡ get_or ps (2 * (base + k) + 1) nan = get_or-drop place ps (2 * k + 1) nan ∙ ap (λ (i : ℕ). get_or ps i nan) (omega arith) in
    rw (a, b) refl

module _ (P : List Float → ℕ → Type 0) where
  pub no_holes : GoodHoles P no_region
  unfolding no_region
  no_holes = record { size = length-replicate 512 zero_float; places = length-replicate {A = ℕ} 8 0; each = λ j l z. absurd (omega arith) }

  pub outer_holes : (q : Region) (o : Outline) → GoodHoles P q → GoodHoles P (with_outer q o)
  unfolding with_outer hole_points hole_count
  outer_holes q o h = record { size = h.size; places = h.places; each = h.each }

  count_holes : (q : Region) → 8 ≤ q.holes → GoodHoles P q → GoodHoles P (count_hole q)
  unfolding count_hole hole_points hole_count
  count_holes q l h = record { size = h.size; places = h.places; each = λ j z m. h.each j (omega arith) m }

  -- a hole more, of n vertices of ps
  module _ (o : OfHoles P) (q : Region) (ps : List Float) (n : ℕ) (back : Bool) (p : n ≤ 32) (new : (qs : List Float) → ((k : ℕ) → k < n → vertex_at qs k ≡ stored_at ps n back k) → P qs n)
      (h : GoodHoles P q) where
    abbrev points : List Float
    points = (store_hole q ps n back).points

    at_hole : (j k : ℕ) → vertex_at (drop (64 * j) points) k ≡ vertex_at points (32 * j + k)
    at_hole j k = hole_vertex points (64 * j) (32 * j) k (omega arith)

    new_hole : q.holes < 8 → P (drop (64 * q.holes) points) n
    unfolding store_hole
    new_hole room =
        new (drop (64 * q.holes) points) (λ k l. at_hole q.holes k ∙ stored_new ps n back (32 * q.holes) q.points (omega (arith, h.size)) k l)

    old_hole : (j : ℕ) → j < q.holes → j < 8 → P (drop (64 * j) points) (hole_count q j)
    unfolding store_hole hole_points hole_count
    old_hole j l z =
        let g : P (drop (64 * j) q.points) (hole_count q j) = h.each j l z in
        o.same (drop (64 * j) q.points) (drop (64 * j) points) (hole_count q j)
        (λ k m. at_hole j k ∙ stored_old ps n back (32 * q.holes) q.points (32 * j + k) (omega (arith, o.fits (drop (64 * j) q.points) (hole_count q j) g)) ∙ sym (hole_vertex q.points (64 * j) (32 * j) k (omega arith))) g

    hole_there : q.holes < 8 → (j : ℕ) → j < q.holes + 1 → P (drop (64 * j) points) (get_or (set q.counts q.holes n) j 0)
    unfolding hole_count
    hole_there room j l = by_cases j q.holes
        (λ e. rw (e, get_or-set_same q.counts q.holes n 0 (omega (arith, h.places))) (new_hole room))
        (λ e. rw (get_or-set_other q.counts q.holes j n 0 e) (old_hole j (omega arith) (omega arith)))

    pub store_holes : q.holes < 8 → GoodHoles P (store_hole q ps n back)
    unfolding store_hole hole_points hole_count
    store_holes room = record {
      size = stored_length ps n back _ q.points ∙ h.size;
      places = length-set q.counts q.holes n ∙ h.places;
      each = λ j l z. hole_there room j l;
    }

    -- a hole past the eighth is counted alone
    pub with_holes : GoodHoles P (with_hole q ps n back)
    unfolding with_hole
    with_holes =
        by_test (GoodHoles P) (ltb q.holes 8) (λ l. store_holes (ltb-true q.holes 8 l)) (λ l. count_holes q (ltb-false q.holes 8 l) h)

-- 21 of a region whose outer ring and holes pass it
pub region_proper : (q : Region) → proper 128 q.outer.points q.outer.count ≡ true → q.holes ≤ 8 → GoodHoles ProperHole q → proper_region q ≡ true
unfolding proper_region proper_step
region_proper q g l h =
    rw (g, le-leb q.holes 8 l, pass_all (proper_step q) (λ j. proper 32 (hole_points q j) (hole_count q j)) (λ j s. refl) q.holes (λ j z. h.each j z (omega arith))) refl

pub good_holes_proper : (q : Region) → GoodHoles (GoodRing 32) q → GoodHoles ProperHole q
good_holes_proper q h = record { size = h.size; places = h.places; each = λ j l z. good_proper 32 (hole_points q j) (hole_count q j) (h.each j l z) }
