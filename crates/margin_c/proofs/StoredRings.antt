-- Rings that are handed in stand for themselves: they are stored as they are. Assumes nothing.
use Prim.Native.Nat.{ℕ, zero, suc, ◌+◌, ◌-◌, ◌≤◌}
use native.Mathlib.Omega.{arith}
use mathlib.Core.Path.{◌≡◌, refl, sym, subst}
use mathlib.Core.Logic.{inl}
use mathlib.Core.Bool.{true, false, ◌&&◌, false≢true}
use mathlib.Core.List.{List}
use mathlib.Mathlib.Data.Bool.Basic.{and_elim_left, and_elim_right}
use borrow.Author.Tests.{leb-true}
use lib.Dec.{leb}
use lib.ListN.{get_or, length, length-replicate}
use lib.Ieee.{Float}
use Rattle.error.specs.Refusals.{granted, number, values}
use Rattle.math.specs.Number.{zero_float}
use Rattle.base.proofs.Laws.{rounds_keep}
use Rattle.base.proofs.Choices.{by_test}
use Rattle.ring.specs.Ring.{source, stored_at}
use Rattle.outline.specs.Outlines.{proper, stored_outline}
use Rattle.front.proofs.Demand.Shapes.{proper_is}
use Rattle.region.specs.declared.Region.{Region}
use Rattle.region.specs.declared.NewRegion.{NewRegion}
use Rattle.region.specs.Regions.{no_region, ring_points, ring_count, with_outer, with_hole}
use Rattle.region.specs.Checks.{region_refused}
use Rattle.region.proofs.LengthsFit.{some_ring}
use Rattle.region_stored.specs.Stored.{ring_from, kept, rings_step, rings, stored_region}
use Rattle.region_stored.proofs.Walks.{passes}
use Rattle.region_stored.proofs.Again.{fit, first_proper, hole_proper, rings_count}
use Rattle.region_stored.proofs.AsStored.{RingIs, ring_is}
use Rattle.margin.specs.Margin.{Doubles, RegionDoubles}
use Rattle.margin.specs.Lent.{ring_in}
use Rattle.margin.proofs.DoublesKept.{zeros_doubles, outline_doubles}
use Rattle.margin.proofs.Stands.{Stands}
use Rattle.margin.proofs.Drawn.{stored_vertices}
use Rattle.margin.proofs.DrawnRings.{Room, More, with_more, ring_in_doubles, RegionStands}
use Rattle.margin_c.specs.Told.{SameRing}

pub stored_stands : (ps : List Float) (n : ℕ) → proper 128 (stored_outline ps n false).points n ≡ true → Stands (stored_outline ps n false).points n ps n
stored_stands ps n h =
    let p = proper_is 128 (stored_outline ps n false).points n h in
    record { back = false; some = p.three; left = inl refl; each = stored_vertices ps n false p.fits }

pub same_ring : SameRing
unfolding ring_from ring_in
same_ring lengths ps k = refl

-- ---- one ring after the other

module _ (lengths : List ℕ) (ps : List Float) where
  record KeptTo (r : Region) : Type 0 where
    room : Room r
    doubles : Doubles ps → RegionDoubles r

  none_kept : KeptTo (with_outer no_region (stored_outline ps (get_or lengths 0 0) false))
  unfolding with_outer no_region stored_outline
  none_kept = record {
    room = record { size = length-replicate 512 zero_float; places = length-replicate {A = ℕ} 8 0 };
    doubles = λ d. record { outer = (outline_doubles ps (get_or lengths 0 0) false d).all; holes = zeros_doubles 512 };
  }

  hole_kept : (k : ℕ) (r : Region) → passes lengths ps k ≡ true → KeptTo r → KeptTo (rings_step lengths ps k r)
  unfolding rings_step ring_from ring_in
  hole_kept k r p h =
      let qs : List Float = ring_in lengths ps (k + 1) in
      let n : ℕ = get_or lengths (k + 1) 0 in
      let few : n ≤ 32 = (proper_is 32 qs n p).fits in
      let w : More r h.room qs n false few (with_hole r qs n false) = with_more r h.room qs n false few in
      record { room = w.rooms; doubles = λ d. w.doubles (ring_in_doubles lengths ps (k + 1) d) (h.doubles d) }

  module _ (h : kept lengths ps ≡ true) where
    all_kept : KeptTo (rings lengths ps)
    unfolding rings
    all_kept =
        rounds_keep (rings_step lengths ps) (λ k r. k ≤ length lengths - 1 → KeptTo r) (with_outer no_region (stored_outline ps (get_or lengths 0 0) false)) (λ l. none_kept)
        (λ k r s l. hole_kept k r (hole_proper lengths ps h k l) (s (omega arith))) (length lengths - 1) (omega arith)

    three : (l : ℕ) → l ≤ length lengths - 1 → 3 ≤ get_or lengths l 0
    three zero l = (proper_is 128 ps (get_or lengths 0 0) (first_proper lengths ps h)).three
    three (suc j) l =
        let one : j + 1 ≡ suc j = omega arith in
        subst (λ (i : ℕ). 3 ≤ get_or lengths i 0) one (proper_is 32 (ring_from lengths ps (j + 1)) (get_or lengths (j + 1) 0) (hole_proper lengths ps h j (omega arith))).three

    ring_stands : (l : ℕ) → l ≤ length lengths - 1 → l ≤ 8 → Stands (ring_points (rings lengths ps) l) (ring_count (rings lengths ps) l) (ring_in lengths ps l) (get_or lengths l 0)
    unfolding stored_at source ring_from ring_in
    ring_stands l m z =
        let i : RingIs lengths ps h l = ring_is lengths ps h l m z in
        subst (λ (n : ℕ). Stands (ring_points (rings lengths ps) l) n (ring_in lengths ps l) (get_or lengths l 0)) (sym i.count)
        (record { back = false; some = three l m; left = inl refl; each = i.each })

    kept_stand : length lengths ≤ 9 → RegionStands lengths ps (rings lengths ps)
    kept_stand few =
        let last = rings_count lengths ps h in
        record {
          rings = omega (arith, last, some_ring lengths ps (fit lengths ps h));
          each = λ l m. ring_stands l (omega (arith, last)) (omega (arith, last));
          doubles = all_kept.doubles;
        }

  record Stored (a : NewRegion) : Type 0 where
    stands : granted a.refusal ≡ true → RegionStands lengths ps a.shape

  stored_is : Stored (stored_region lengths ps)
  unfolding stored_region region_refused granted number values
  stored_is =
      by_test Stored (kept lengths ps && leb (length lengths) 9)
      (λ h. record { stands = λ q. kept_stand (and_elim_left (kept lengths ps) (leb (length lengths) 9) h) (leb-true (length lengths) 9 (and_elim_right (kept lengths ps) (leb (length lengths) 9) h)) })
      (λ h. record { stands = λ q. absurd (false≢true q) })

  pub stored_region_stands : granted (stored_region lengths ps).refusal ≡ true → RegionStands lengths ps (stored_region lengths ps).shape
  stored_region_stands = stored_is.stands
