-- The rings as they are stored are the rings handed in, vertex by vertex. Assumes nothing.
use Prim.Native.Nat.{ℕ, zero, suc, ◌+◌, ◌-◌, ◌*◌, ◌≤◌, ◌<◌}
use native.Mathlib.Omega.{arith}
use mathlib.Core.Path.{◌≡◌, refl, sym, ap, ◌∙◌, subst}
use mathlib.Core.Bool.{true, false, ◌&&◌, false≢true}
use mathlib.Core.List.{List}
use mathlib.Mathlib.Data.Bool.Basic.{and_elim_left, and_elim_right}
use borrow.Author.Tests.{leb-true, ltb-true, ltb-false}
use lib.Dec.{leb, ltb}
use lib.ListN.{get_or, drop, length, length-set, length-replicate}
use lib.Seq.{get_or-set_same, get_or-set_other}
use lib.Ieee.{Float}
use Rattle.error.specs.Refusals.{granted, number, values}
use Rattle.math.specs.Number.{zero_float}
use Rattle.base.specs.Loop.{rounds}
use Rattle.base.proofs.Laws.{rounds_keep}
use Rattle.base.proofs.Choices.{by_cases, by_test}
use Rattle.ring.specs.Ring.{vertex_at, source, stored_at}
use Rattle.ring.proofs.Vertices.{number_same}
use Rattle.ring.proofs.Storing.{stored_length, stored_new, stored_old}
use Rattle.outline.specs.declared.Outline.{Outline}
use Rattle.outline.specs.Outlines.{stored_outline}
use Rattle.front.proofs.Demand.Shapes.{proper_is}
use Rattle.region.specs.declared.Region.{Region}
use Rattle.region.specs.declared.NewRegion.{NewRegion}
use Rattle.region.specs.Regions.{no_region, hole_points, hole_count, ring_points, ring_count, with_outer, store_hole, count_hole, with_hole}
use Rattle.region.specs.Checks.{check_region, region_refused, region_if}
use Rattle.region.proofs.Holes.{hole_vertex}
use Rattle.region.proofs.LengthsFit.{some_ring, all_numbers}
use Rattle.region_stored.specs.Stored.{ring_from, kept, rings_step, rings, stored_region, given_region, AsHanded, StoredAsHanded, GivenAsHanded}
use Rattle.region_stored.proofs.Walks.{passes}
use Rattle.region_stored.proofs.Again.{fit, first_proper, hole_proper, outer_vertex, rings_count, checked_few}

-- hole j of q has the n vertices of ps
record Holds (q : Region) (j : ℕ) (ps : List Float) (n : ℕ) : Type 0 where
  count : hole_count q j ≡ n
  few : n ≤ 32
  each : (i : ℕ) → i < n → vertex_at (hole_points q j) i ≡ vertex_at ps i

module _ (lengths : List ℕ) (ps : List Float) where
  abbrev outer : Outline
  outer = stored_outline ps (get_or lengths 0 0) false

  record StoredTo (k : ℕ) (q : Region) : Type 0 where
    size : length q.points ≡ 512
    places : length q.counts ≡ 8
    holes : q.holes ≡ k
    first : q.outer ≡ outer
    each : (j : ℕ) → j < k → j < 8 → Holds q j (ring_from lengths ps (j + 1)) (get_or lengths (j + 1) 0)

  none_stored : StoredTo 0 (with_outer no_region outer)
  unfolding with_outer no_region
  none_stored = record {
    size = length-replicate 512 zero_float;
    places = length-replicate {A = ℕ} 8 0;
    holes = refl;
    first = refl;
    each = λ j l. absurd (omega arith);
  }

  module _ (k : ℕ) (q : Region) (h : StoredTo k q) (p : passes lengths ps k ≡ true) where
    abbrev qs : List Float
    qs = ring_from lengths ps (k + 1)

    abbrev n : ℕ
    n = get_or lengths (k + 1) 0

    abbrev points : List Float
    points = (store_hole q qs n false).points

    fits : n ≤ 32
    fits = (proper_is 32 qs n p).fits

    at_hole : (j i : ℕ) → vertex_at (drop (64 * j) points) i ≡ vertex_at points (32 * j + i)
    at_hole j i = hole_vertex points (64 * j) (32 * j) i (omega arith)

    new_hole : q.holes < 8 → Holds (store_hole q qs n false) q.holes qs n
    unfolding store_hole hole_points hole_count stored_at source
    new_hole room = record {
      count = get_or-set_same q.counts q.holes n 0 (omega (arith, h.places));
      few = fits;
      each = λ i l. at_hole q.holes i ∙ stored_new qs n false (32 * q.holes) q.points (omega (arith, h.size, fits)) i l;
    }

    old_hole : (j : ℕ) (rs : List Float) (m : ℕ) → j < q.holes → Holds q j rs m → Holds (store_hole q qs n false) j rs m
    unfolding store_hole hole_points hole_count
    old_hole j rs m l o = record {
      count = get_or-set_other q.counts q.holes j n 0 (λ e. omega arith) ∙ o.count;
      few = o.few;
      each = λ i z.
          at_hole j i ∙ stored_old qs n false (32 * q.holes) q.points (32 * j + i) (omega (arith, o.few)) ∙ sym (hole_vertex q.points (64 * j) (32 * j) i (omega arith)) ∙ o.each i z;
    }

    store_more : q.holes < 8 → StoredTo (suc k) (store_hole q qs n false)
    unfolding store_hole
    store_more room = record {
      size = stored_length qs n false _ q.points ∙ h.size;
      places = length-set q.counts q.holes n ∙ h.places;
      holes = omega (arith, h.holes);
      first = h.first;
      each = λ j l z. by_cases j k
          (λ e. rw e (subst (λ (i : ℕ). Holds (store_hole q qs n false) i qs n) h.holes (new_hole room)))
          (λ e. old_hole j (ring_from lengths ps (j + 1)) (get_or lengths (j + 1) 0) (omega (arith, h.holes)) (h.each j (omega arith) z));
    }

    count_more : 8 ≤ q.holes → StoredTo (suc k) (count_hole q)
    unfolding count_hole hole_points hole_count
    count_more full = record {
      size = h.size;
      places = h.places;
      holes = omega (arith, h.holes);
      first = h.first;
      each = λ j l z. let o = h.each j (omega (arith, h.holes)) z in record { count = o.count; few = o.few; each = o.each };
    }

    more : StoredTo (suc k) (rings_step lengths ps k q)
    unfolding rings_step with_hole
    more = by_test (StoredTo (suc k)) (ltb q.holes 8) (λ l. store_more (ltb-true q.holes 8 l)) (λ l. count_more (ltb-false q.holes 8 l))

  module _ (h : kept lengths ps ≡ true) where
    all : StoredTo (length lengths - 1) (rings lengths ps)
    unfolding rings
    all =
        rounds_keep (rings_step lengths ps) (λ k q. k ≤ length lengths - 1 → StoredTo k q) (with_outer no_region outer) (λ l. none_stored)
        (λ k q s l. more k q (s (omega arith)) (hole_proper lengths ps h k l)) (length lengths - 1) (omega arith)

    -- ring l, for up to eight holes
    pub record RingIs (l : ℕ) : Type 0 where
      pub count : ring_count (rings lengths ps) l ≡ get_or lengths l 0
      pub each : (i : ℕ) → i < get_or lengths l 0 → vertex_at (ring_points (rings lengths ps) l) i ≡ vertex_at (ring_from lengths ps l) i

    pub ring_is : (l : ℕ) → l ≤ length lengths - 1 → l ≤ 8 → RingIs l
    unfolding ring_count ring_points ring_from rounds stored_outline
    ring_is zero l z =
        let n : ℕ = get_or lengths 0 0 in
        let few : n ≤ 128 = (proper_is 128 ps n (first_proper lengths ps h)).fits in
        record {
          count = ap (λ (o : Outline). o.count) all.first;
          each = λ i m. ap (λ (o : Outline). vertex_at o.points i) all.first ∙ outer_vertex ps n few i m;
        }
    ring_is (suc j) l z =
        let one : j + 1 ≡ suc j = omega arith in
        let held_in : ℕ → Type 0 = λ (i : ℕ). Holds (rings lengths ps) j (ring_from lengths ps i) (get_or lengths i 0) in
        let o : held_in (suc j) = subst held_in one (all.each j (omega arith) (omega arith)) in
        record { count = o.count; each = o.each }

    as_handed : length lengths ≤ 9 → AsHanded lengths ps (rings lengths ps)
    as_handed few =
        let last = rings_count lengths ps h in
        record {
          sum = all_numbers lengths ps (fit lengths ps h);
          rings = omega (arith, last, some_ring lengths ps (fit lengths ps h));
          counts = λ k l. (ring_is k (omega (arith, last)) (omega (arith, last))).count;
          numbers = λ k i l m.
              number_same (ring_from lengths ps k) (ring_points (rings lengths ps) k) (get_or lengths k 0) (ring_is k (omega (arith, last)) (omega (arith, last))).each i m;
        }

  -- ---- what is granted

  record Handed (a : NewRegion) : Type 0 where
    is : granted a.refusal ≡ true → AsHanded lengths ps a.shape

  stored_handed : Handed (stored_region lengths ps)
  unfolding stored_region region_refused granted number values
  stored_handed =
      by_test Handed (kept lengths ps && leb (length lengths) 9)
      (λ h. record { is = λ q. as_handed (and_elim_left (kept lengths ps) (leb (length lengths) 9) h) (leb-true (length lengths) 9 (and_elim_right (kept lengths ps) (leb (length lengths) 9) h)) })
      (λ h. record { is = λ q. absurd (false≢true q) })

  given_handed : Handed (given_region lengths ps)
  unfolding given_region region_if region_refused granted number values
  given_handed =
      let r : Region = rings lengths ps in
      by_test Handed (kept lengths ps)
      (λ h. by_test Handed (granted (check_region r))
      (λ g. record { is = λ q. as_handed h (omega (arith, rings_count lengths ps h, (checked_few r).few g)) })
      (λ g. record { is = λ q. absurd (false≢true (sym g ∙ q)) }))
      (λ h. record { is = λ q. absurd (false≢true q) })

pub stored_as_handed : StoredAsHanded
stored_as_handed lengths ps = (stored_handed lengths ps).is

pub given_as_handed : GivenAsHanded
given_as_handed lengths ps = (given_handed lengths ps).is
