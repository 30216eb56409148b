-- A region from numbers or from outlines that is accepted passes 21; rings that are refused are not there. Assumes nothing.
use Prim.Native.Nat.{ℕ, ◌+◌, ◌-◌, ◌*◌, ◌%◌, ◌≤◌, ◌<◌}
use mathlib.Core.Path.{◌≡◌, refl, sym, ◌∙◌, subst}
use mathlib.Core.Bool.{Bool, true, false, false≢true, true≢false}
use mathlib.Core.List.{List}
use mathlib.Mathlib.Data.Bool.Basic.{and_elim_left, and_elim_right}
use native.Mathlib.Omega.{arith}
use borrow.Author.Tests.{leb-true}
use lib.Dec.{leb, ltb, eqb}
use lib.ListN.{get_or, drop, length}
use lib.Ieee.{Float}
use Rattle.error.specs.declared.Refusal.{Refusal}
use Rattle.error.specs.declared.Refusal.TheVariants.{Lengths, Odd, Shape}
use Rattle.ring_check.specs.declared.Checked.{Checked}
use Rattle.outline.specs.declared.Outline.{Outline}
use Rattle.region.specs.declared.Region.{Region}
use Rattle.region.specs.declared.RegionLoad.{RegionLoad}
use Rattle.error.specs.Refusals.{number, values, granted}
use Rattle.base.specs.Loop.{rounds}
use Rattle.base.proofs.Laws.{rounds_keep}
use Rattle.base.proofs.Choices.{by_test}
use Rattle.base.proofs.Choices.{both}
use Rattle.base.proofs.Tests.{all_pass}
use Rattle.ring.specs.Ring.{vertex_at, source, stored_at}
use Rattle.ring_check.specs.Checks.{check_door}
use Rattle.ring_check.proofs.Sound.{Passed, check_sound}
use Rattle.outline.specs.Outlines.{proper, stored_outline, check_finite}
use Rattle.outline.proofs.Good.{good_ring, good_proper, proper_same}
use Rattle.outline.proofs.Outlines.{outline_good}
use Rattle.front.proofs.Demand.Shapes.{proper_is}
use Rattle.region.specs.Regions.{no_region, with_outer, store_hole, count_hole, with_hole}
use Rattle.region.specs.Checks.{check_region, region_refused, region_if, rings_refused, hole_loaded, hole_load_step, outer_loaded, load_rings, region_loaded, lengths_fit, region_finite, region, proper_region, given_hole}
use Rattle.region.specs.Checks.{proper_given_step, proper_given, given_step, given_rings, region_given, without_holes}
use Rattle.region.specs.Answers.{LoadEmpty, ProperNewRegion, RegionProper}
use Rattle.region.proofs.Holes.{GoodHoles, ProperHole, proper_of_holes, no_holes, outer_holes, with_holes, region_proper}

-- ---- a region that passes 10 has eight holes at most

record Few (r : Region) (u : Refusal) : Type 0 where
  few : granted u ≡ true → r.holes ≤ 8

checked_few : (r : Region) → Few r (check_region r)
unfolding check_region granted number values
checked_few r = by_test (Few r) (leb r.holes 8) (λ h. record { few = λ q. leb-true r.holes 8 h }) (λ h. record { few = λ q. absurd (false≢true q) })

refused_proper : (u : Refusal) → granted u ≡ false → ProperNewRegion (region_refused u)
unfolding region_refused
refused_proper u h = record { proper = λ q. absurd (false≢true (sym h ∙ q)) }

if_proper : (r : Region) → (r.holes ≤ 8 → proper_region r ≡ true) → ProperNewRegion (region_if r (check_region r))
unfolding region_if
if_proper r h = by_test ProperNewRegion (granted (check_region r)) (λ g. record { proper = λ q. h ((checked_few r).few g) }) (λ g. refused_proper (check_region r) g)

-- ---- the outer ring and the first eight holes pass 21

record Sound (q : Region) : Type 0 where
  outer : proper 128 q.outer.points q.outer.count ≡ true
  holes : GoodHoles ProperHole q

sound_proper : (q : Region) → Sound q → q.holes ≤ 8 → proper_region q ≡ true
sound_proper q h l = region_proper q h.outer l h.holes

alone_sound : (o : Outline) → proper 128 o.points o.count ≡ true → Sound (with_outer no_region o)
unfolding with_outer
alone_sound o h = record { outer = h; holes = outer_holes ProperHole no_region o (no_holes ProperHole) }

outer_kept : (q : Region) (ps : List Float) (n : ℕ) (back : Bool) → (with_hole q ps n back).outer ≡ q.outer
unfolding with_hole store_hole count_hole
outer_kept q ps n back = both (λ (r : Region). r.outer ≡ q.outer) (ltb q.holes 8) refl refl

-- a hole more
with_sound : (q : Region) (ps : List Float) (n : ℕ) (back : Bool) → n ≤ 32 → ((qs : List Float) → ((k : ℕ) → k < n → vertex_at qs k ≡ stored_at ps n back k) → ProperHole qs n)
    → Sound q → Sound (with_hole q ps n back)
with_sound q ps n back l new h = record {
  outer = subst (λ (o : Outline). proper 128 o.points o.count ≡ true) (sym (outer_kept q ps n back)) h.outer;
  holes = with_holes ProperHole proper_of_holes q ps n back l new h.holes;
}

-- ---- from numbers

module _ (lengths : List ℕ) (ps : List Float) where
  -- what is loaded so far
  record Loading (s : RegionLoad) : Type 0 where
    sound : granted s.refusal ≡ true → Sound s.shape

  outer_loading : Loading (outer_loaded ps (get_or lengths 0 0) (check_door 128 0 ps (get_or lengths 0 0)))
  unfolding outer_loaded stored_outline
  outer_loading =
      let n : ℕ = get_or lengths 0 0 in
      let c : Checked = check_door 128 0 ps n in
      by_test Loading (granted c.refusal)
      (λ h. record {
        sound = λ q. alone_sound (stored_outline ps c.count c.back)
            (good_proper 128 (stored_outline ps c.count c.back).points c.count (outline_good ps n c.count c.back (check_sound true 128 0 ps n h)));
      })
      (λ h. record { sound = λ q. absurd (false≢true (sym h ∙ q)) })

  module _ (k : ℕ) (s : RegionLoad) (g : granted s.refusal ≡ true) (h : Loading s) where
    abbrev qs : List Float
    qs = drop (2 * s.start) ps

    abbrev n : ℕ
    n = get_or lengths (k + 1) 0

    hole_loading : Loading (hole_loaded s qs n (check_door 32 (k + 1) qs n))
    unfolding hole_loaded rings_refused
    hole_loading =
        let c : Checked = check_door 32 (k + 1) qs n in
        by_test Loading (granted c.refusal)
        (λ e. record {
          sound = λ q.
              let p : Passed 32 qs n c.count c.back = check_sound true 32 (k + 1) qs n e in
              with_sound s.shape qs c.count c.back p.fits
              (λ rs same. good_proper 32 rs c.count (good_ring 32 qs n c.count c.back rs p same))
              (h.sound g);
        })
        (λ e. record { sound = λ q. absurd (false≢true (sym e ∙ q)) })

  step_loading : (k : ℕ) (s : RegionLoad) → Loading s → Loading (hole_load_step lengths ps k s)
  unfolding hole_load_step
  step_loading k s h =
      by_test Loading (granted s.refusal) (λ g. hole_loading k s g h) (λ g. record { sound = λ q. absurd (false≢true (sym g ∙ q)) })

  rings_sound : granted (load_rings lengths ps).refusal ≡ true → Sound (load_rings lengths ps).shape
  unfolding load_rings
  rings_sound q =
      (rounds_keep (hole_load_step lengths ps) (λ k s. Loading s) (outer_loaded ps (get_or lengths 0 0) (check_door 128 0 ps (get_or lengths 0 0))) outer_loading step_loading
      (length lengths - 1)).sound q

  -- beside a refusal nothing is loaded
  record Emptied (s : RegionLoad) : Type 0 where
    empty : granted s.refusal ≡ false → s.shape ≡ no_region

  hole_emptied : (s : RegionLoad) (qs : List Float) (n : ℕ) (c : Checked) → Emptied (hole_loaded s qs n c)
  unfolding hole_loaded rings_refused granted number values
  hole_emptied s qs n c = by_test Emptied (granted c.refusal) (λ e. record { empty = λ q. absurd (true≢false q) }) (λ e. record { empty = λ q. refl })

  pub load_empty : granted (load_rings lengths ps).refusal ≡ false → (load_rings lengths ps).shape ≡ no_region
  unfolding load_rings outer_loaded hole_load_step granted number values
  load_empty q =
      let n : ℕ = get_or lengths 0 0 in
      let c : Checked = check_door 128 0 ps n in
      (rounds_keep (hole_load_step lengths ps) (λ k s. Emptied s) (outer_loaded ps n c)
      (by_test Emptied (granted c.refusal) (λ e. record { empty = λ q. absurd (true≢false q) }) (λ e. record { empty = λ q. refl }))
      (λ k s h. by_test Emptied (granted s.refusal)
      (λ g. hole_emptied s (drop (2 * s.start) ps) (get_or lengths (k + 1) 0) (check_door 32 (k + 1) (drop (2 * s.start) ps) (get_or lengths (k + 1) 0)))
      (λ g. h))
      (length lengths - 1)).empty q

pub rings_empty : LoadEmpty
rings_empty lengths ps = load_empty lengths ps

rings_proper : (lengths : List ℕ) (ps : List Float) → ProperNewRegion (region_loaded (load_rings lengths ps))
unfolding region_loaded
rings_proper lengths ps =
    let s : RegionLoad = load_rings lengths ps in
    by_test ProperNewRegion (granted s.refusal)
    (λ g. if_proper s.shape (sound_proper s.shape (rings_sound lengths ps g)))
    (λ g. refused_proper s.refusal g)

loaded_proper : (lengths : List ℕ) (ps : List Float) → ProperNewRegion (region lengths ps)
unfolding region region_finite granted number values
loaded_proper lengths ps =
    both ProperNewRegion (eqb (length ps % 2) 0)
    (by_test ProperNewRegion (granted (check_finite ps))
    (λ f. both ProperNewRegion (lengths_fit lengths ps) (rings_proper lengths ps) (refused_proper Lengths refl))
    (λ f. refused_proper (check_finite ps) f))
    (refused_proper Odd refl)

-- ---- from outlines

given_sound : (o : Outline) (hs : List Outline) → proper_given o hs ≡ true → Sound (given_rings o hs)
unfolding proper_given given_rings proper_given_step given_step stored_at source
given_sound o hs q =
    let a : Bool = proper 128 o.points o.count in
    let b : Bool = rounds (proper_given_step hs) (length hs) true in
    rounds_keep (given_step hs) (λ k r. k ≤ length hs → Sound r) (with_outer no_region o) (λ l. alone_sound o (and_elim_left a b q))
    (λ k r h l. given_one k r (all_pass (proper_given_step hs) (λ i. proper 32 (given_hole hs i).points (given_hole hs i).count) (λ i s. refl) (length hs) (and_elim_right a b q) k l) (h (omega arith)))
    (length hs) (omega arith)
  where
    given_one : (k : ℕ) (r : Region) → proper 32 (given_hole hs k).points (given_hole hs k).count ≡ true → Sound r → Sound (given_step hs k r)
    given_one k r p h =
        let g : Outline = given_hole hs k in
        with_sound r g.points g.count false (proper_is 32 g.points g.count p).fits (λ qs same. proper_same 32 g.points qs g.count same p) h

given_proper : (o : Outline) (hs : List Outline) → ProperNewRegion (region_given o hs)
unfolding region_given granted number values
given_proper o hs =
    by_test ProperNewRegion (proper_given o hs) (λ q. if_proper (given_rings o hs) (sound_proper (given_rings o hs) (given_sound o hs q))) (λ q. refused_proper Shape refl)

alone_proper : (o : Outline) → ProperNewRegion (without_holes o)
unfolding without_holes with_outer no_region granted number values
alone_proper o =
    by_test ProperNewRegion (proper 128 o.points o.count) (λ q. record { proper = λ t. sound_proper (with_outer no_region o) (alone_sound o q) (omega arith) }) (λ q. refused_proper Shape refl)

pub region_again : RegionProper
region_again = record { loaded = loaded_proper; rings = rings_proper; given = given_proper; alone = alone_proper }
