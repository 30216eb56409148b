-- R-10 for outlines: each vertex of an accepted inset keeps the margin from each edge of its source in true distance. Assumes nothing.
use mathlib.Core.Path.{◌≡◌, refl, sym, ap, ◌∙◌}
use mathlib.Core.Bool.{Bool, true, false, false≢true}
use mathlib.Mathlib.Data.Bool.Basic.{eq-true_of_not-eq-false}
use lib.Ieee.{Float}
use Rattle.error.specs.declared.Refusal.{Refusal}
use Rattle.error.specs.declared.Refusal.TheVariants.{Shape}
use Rattle.error.specs.Refusals.{number, values, granted}
use Rattle.ring.specs.Ring.{vertex_at}
use Rattle.ring_measure.specs.Measures.{extent}
use Rattle.outline.specs.declared.Outline.{Outline}
use Rattle.outline.specs.Outlines.{proper, no_outline}
use Rattle.offset.specs.declared.Offset.{Offset}
use Rattle.offset.specs.Offsets.{check_distance, offset_plain, offset}
use Rattle.offset.proofs.DemandAnswered.{offset_before}
use Rattle.offset.proofs.Accepted.{offset_proper, offset_accepted}
use Rattle.margin.specs.Margin.{OffsetMargin}
use Rattle.margin.proofs.Sizes.{Sound, proper_sound, distance_moved}
use Rattle.margin.proofs.Extents.{extent_value, extent_largest, extent_small}
use Rattle.margin.proofs.Gaps.{gap_reached}
use Rattle.margin.proofs.Rings.{asked, ring_far}
use Rattle.margin.proofs.DoublesKept.{offset_doubles}

-- an accepted offset: its source is past 21, and its distance past 13 and 14
module _ (o : Outline) (outward : Bool) (d : Float) (g : granted (offset o outward d).refusal ≡ true) where
  refused_not : (u : Refusal) → granted u ≡ false → offset o outward d ≡ offset_plain u no_outline → ⊥
  unfolding offset_plain
  refused_not u h e = false≢true (sym h ∙ ap (λ (a : Offset). granted a.refusal) (sym e) ∙ g)

  pub source_proper : proper 128 o.points o.count ≡ true
  unfolding granted number values
  source_proper = eq-true_of_not-eq-false {b = proper 128 o.points o.count} (λ h. refused_not Shape refl ((offset_before o outward d).improper h))

  distance_granted : granted (check_distance d) ≡ true
  distance_granted =
      eq-true_of_not-eq-false {b = granted (check_distance d)} (λ h. refused_not (check_distance d) h ((offset_before o outward d).refused source_proper h))

pub offset_margin : OffsetMargin
offset_margin o d doubles fits g above =
    let ps = o.points in
    let n = o.count in
    let q : Outline = (offset o false d).shape in
    let source : Sound ps n = proper_sound 128 ps n doubles (source_proper o false d g) in
    let answer : Sound q.points q.count = proper_sound 128 q.points q.count (offset_doubles o false d doubles) (offset_proper o false d g) in
    ring_far d (extent ps n)
    (record {
      moved = distance_moved d fits (distance_granted o false d g) above;
      value = extent_value ps n source;
      small = extent_small ps n source;
    })
    ps n source (extent_largest ps n source).each q.points q.count answer
    (λ k i l m. gap_reached ps n (vertex_at q.points k) (asked d (extent ps n)) ((offset_accepted o false d g above).gap k l) i m)
