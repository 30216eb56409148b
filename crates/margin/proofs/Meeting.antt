-- What is accepted meets neither itself nor its source, in exact numbers. Assumes nothing.
use Prim.Native.Nat.{ℕ, ◌+◌, ◌*◌, ◌/◌, ◌≤◌, ◌<◌}
use native.Mathlib.Omega.{arith}
use mathlib.Core.Path.{◌≡◌, sym, ◌∙◌, subst}
use mathlib.Core.Bool.{true, false, true≢false}
use mathlib.Core.List.{List}
use lib.ListN.{length}
use lib.Ieee.{Float}
use Rattle.math.specs.Number.{finite}
use Rattle.error.specs.Refusals.{granted}
use Rattle.turn.specs.Turns.{Finite, finite_point}
use Rattle.segment.specs.Segments.{segments_meet}
use Rattle.segment.proofs.Theorem.{meet_iff_shared}
use Rattle.ring.specs.Ring.{vertex_at, edge_end, source, stored_at}
use Rattle.ring.proofs.Vertices.{at_ends}
use Rattle.std.specs.Prelude.{None}
use Rattle.ring_cross.specs.Simple.{check_simple}
use Rattle.ring_cross.proofs.SimpleExact.{simple_exact}
use Rattle.ring_cross.specs.Meet.{rings_meet}
use Rattle.ring_cross.proofs.MeetExact.{rings_meet_exact}
use Rattle.outline.specs.declared.Outline.{Outline}
use Rattle.outline.specs.declared.NewOutline.{NewOutline}
use Rattle.outline.specs.Outlines.{new_outline, outline}
use Rattle.outline.proofs.Outlines.{outline_sound, outline_proper}
use Rattle.offset.specs.Offsets.{offset}
use Rattle.offset.proofs.Accepted.{offset_proper, offset_accepted}
use Rattle.region.specs.declared.Region.{Region}
use Rattle.region.specs.Regions.{ring_points, ring_count}
use Rattle.region.specs.Insets.{region_inset}
use Rattle.region.proofs.Accepted.{inset_proper, inset_accepted}
use Rattle.margin.specs.Margin.{Doubles}
use Rattle.margin.specs.Meeting.{MeetsNotItself, MeetsNot, OutlineMeetsNot, OffsetMeetsNot, InsetMeetsNot}
use Rattle.margin.proofs.Sizes.{Sound, proper_sound}
use Rattle.margin.proofs.RegionExtents.{ring_sound}
use Rattle.margin.proofs.DoublesKept.{offset_doubles, inset_doubles}
use Rattle.margin.proofs.Outlines.{source_proper}
use Rattle.margin.proofs.Regions as regions
use Rattle.margin.proofs.Drawn.{new_stands, outline_is}
use Rattle.margin.proofs.RingsApart.{rings_apart}

-- ---- a ring past 21

module _ (ps : List Float) (n : ℕ) (s : Sound ps n) where
  vertex_finite : (k : ℕ) → k < n → Finite (vertex_at ps k)
  unfolding vertex_at finite_point
  vertex_finite k l = record {
    doubles = record { east_double = s.doubles (2 * k); north_double = s.doubles (2 * k + 1) };
    both_finite = rw (s.fine (2 * k) (omega arith)).finite (s.fine (2 * k + 1) (omega arith)).finite;
  }

  meets_not_itself : check_simple ps n false ≡ None → MeetsNotItself ps n
  unfolding stored_at source
  meets_not_itself e = record {
    strangers = simple_exact.simple ps n false vertex_finite e;
    neighbours = simple_exact.unfolded ps n false e;
  }

module _ (ps : List Float) (n : ℕ) (s : Sound ps n) (qs : List Float) (m : ℕ) (t : Sound qs m) where
  meets_not : ((i k : ℕ) → i < n → k < m → segments_meet (vertex_at ps i) (edge_end ps n i) (vertex_at qs k) (edge_end qs m k) ≡ false) → MeetsNot ps n qs m
  meets_not apart w =
      let i = w.first in
      let k = w.second in
      let l = w.first_under in
      let h = w.second_under in
      let here = vertex_finite ps n s in
      let there = vertex_finite qs m t in
      true≢false
      (sym (meet_iff_shared.sharing_meet _ _ _ _ (here i l) (at_ends Finite ps n here i l) (there k h) (at_ends Finite qs m there k h) w.share)
      ∙ apart i k l h)

  meet_not : rings_meet ps n qs m ≡ false → MeetsNot ps n qs m
  meet_not none w =
      true≢false (sym (rings_meet_exact.sharing_meet ps n qs m (vertex_finite ps n s) (vertex_finite qs m t) w) ∙ none)

-- ---- what is accepted

pub outline_meets_not : OutlineMeetsNot
outline_meets_not ps d g =
    meets_not_itself (outline ps).shape.points (outline ps).shape.count
    (proper_sound 128 (outline ps).shape.points (outline ps).shape.count (doubles (outline ps) ((outline_is ps).is g) g) (outline_proper ps g))
    ((outline_sound ps).good g).simple
  where
    doubles : (a : NewOutline) → a ≡ new_outline ps (length ps / 2) → granted a.refusal ≡ true → Doubles a.shape.points
    doubles a e =
        subst (λ (a : NewOutline). granted a.refusal ≡ true → Doubles a.shape.points) (sym e)
        (λ h. (new_stands ps (length ps / 2)).doubles h d)

pub offset_meets_not : OffsetMeetsNot
offset_meets_not o outward d doubles g above =
    let q : Outline = (offset o outward d).shape in
    let kept = offset_accepted o outward d g above in
    let here : Sound q.points q.count = proper_sound 128 q.points q.count (offset_doubles o outward d doubles) (offset_proper o outward d g) in
    let there : Sound o.points o.count = proper_sound 128 o.points o.count doubles (source_proper o outward d g) in
    record {
      itself = meets_not_itself q.points q.count here kept.simple;
      source = meets_not q.points q.count here o.points o.count there kept.apart;
    }

pub inset_meets_not : InsetMeetsNot
inset_meets_not r d doubles g above =
    let q : Region = (region_inset r d).shape in
    let kept = inset_accepted r d g above in
    let here : (k : ℕ) → k ≤ q.holes → Sound (ring_points q k) (ring_count q k) = ring_sound q (inset_doubles r d doubles) (inset_proper r d g) in
    record {
      itself = λ k a. meets_not_itself (ring_points q k) (ring_count q k) (here k a) (kept.simple k a);
      apart = λ k l a b.
          meet_not (ring_points q k) (ring_count q k) (here k (omega arith)) (ring_points q l) (ring_count q l) (here l b)
          (rings_apart q kept.region k l a b);
      source = λ k l a b.
          meets_not (ring_points q k) (ring_count q k) (here k a)
          (ring_points r l) (ring_count r l) (ring_sound r doubles (regions.source_proper r d g) l b)
          (λ i j x y. kept.apart k l i j a b x y);
    }
