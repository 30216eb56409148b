-- R-10 for regions: each vertex of an accepted inset keeps the margin from each edge of each ring of its source in true distance. Assumes nothing.
use mathlib.Core.Path.{◌≡◌, refl, sym, ap, ◌∙◌}
use mathlib.Core.Bool.{true, false, false≢true}
use mathlib.Mathlib.Data.Bool.Basic.{eq-true_of_not-eq-false}
use lib.Ieee.{Float}
use Rattle.error.specs.declared.Refusal.{Refusal}
use Rattle.error.specs.declared.Refusal.TheVariants.{Shape}
use Rattle.error.specs.Refusals.{number, values, granted}
use Rattle.ring.specs.Ring.{vertex_at}
use Rattle.offset.specs.Offsets.{check_distance}
use Rattle.region.specs.declared.Region.{Region}
use Rattle.region.specs.declared.RegionOffset.{RegionOffset}
use Rattle.region.specs.Regions.{no_region, ring_points, ring_count, region_extent}
use Rattle.region.specs.Checks.{proper_region}
use Rattle.region.specs.Insets.{region_plain, region_inset}
use Rattle.region.proofs.DemandAnswered.{inset_before}
use Rattle.region.proofs.Accepted.{inset_proper, inset_accepted}
use Rattle.margin.specs.Margin.{InsetMargin}
use Rattle.margin.proofs.Sizes.{distance_moved}
use Rattle.margin.proofs.RegionExtents.{ring_sound, region_extent_value, region_extent_largest, region_extent_small}
use Rattle.margin.proofs.Gaps.{boundary_reached}
use Rattle.margin.proofs.Rings.{asked, ring_far}
use Rattle.margin.proofs.DoublesKept.{inset_doubles}

-- an accepted inset: its source is past 21, and its distance past 13 and 14
module _ (r : Region) (d : Float) (g : granted (region_inset r d).refusal ≡ true) where
  refused_not : (u : Refusal) → granted u ≡ false → region_inset r d ≡ region_plain u no_region → ⊥
  unfolding region_plain
  refused_not u h e = false≢true (sym h ∙ ap (λ (a : RegionOffset). granted a.refusal) (sym e) ∙ g)

  pub source_proper : proper_region r ≡ true
  unfolding granted number values
  source_proper = eq-true_of_not-eq-false {b = proper_region r} (λ h. refused_not Shape refl ((inset_before r d).improper h))

  distance_granted : granted (check_distance d) ≡ true
  distance_granted = eq-true_of_not-eq-false {b = granted (check_distance d)} (λ h. refused_not (check_distance d) h ((inset_before r d).refused source_proper h))

pub inset_margin : InsetMargin
inset_margin r d doubles fits g above k l a b =
    let q : Region = (region_inset r d).shape in
    let ok : proper_region r ≡ true = source_proper r d g in
    let ps = ring_points r l in
    let n = ring_count r l in
    ring_far d (region_extent r)
    (record {
      moved = distance_moved d fits (distance_granted r d g) above;
      value = region_extent_value r doubles ok;
      small = region_extent_small r doubles ok;
    })
    ps n (ring_sound r doubles ok l b) (λ j h. (region_extent_largest r doubles ok).each l j b h)
    (ring_points q k) (ring_count q k) (ring_sound q (inset_doubles r d doubles) (inset_proper r d g) k a)
    (λ i j h m. boundary_reached r (vertex_at (ring_points q k) i) (asked d (region_extent r)) ((inset_accepted r d g above).gap k i a h) l b j m)
