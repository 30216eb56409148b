-- An inset of a region, step by step, as the code takes them. Assumes nothing.
use Prim.Native.Nat.{ℕ, suc}
use mathlib.Core.Path.{◌≡◌, refl, sym, ap, ◌∙◌, subst}
use mathlib.Core.Bool.{Bool, true, false, cond}
use lib.Ieee.{Float, eq}
use Rattle.error.specs.declared.Refusal.{Refusal}
use Rattle.error.specs.declared.Refusal.TheVariants.{Granted, Shape}
use Rattle.error.specs.Refusals.{granted}
use Rattle.plane.specs.declared.PlanarPoint.{PlanarPoint}
use Rattle.front.specs.declared.Sweep.{Sweep}
use Rattle.math.specs.Number.{zero_float}
use Rattle.ring.specs.Ring.{vertex_at}
use Rattle.outline.specs.Outlines.{offset_tolerance, ask}
use Rattle.outline.proofs.Asked.{asked_yes}
use Rattle.offset.specs.Offsets.{check_distance}
use Rattle.offset.specs.Answers.{AnswerDemand}
use Rattle.region.specs.declared.Region.{Region}
use Rattle.region.specs.declared.NewRegion.{NewRegion}
use Rattle.region.specs.declared.RegionPieces.{RegionPieces}
use Rattle.region.specs.declared.RegionOffset.{RegionOffset}
use Rattle.region.specs.Regions.{no_region, region_extent, region_of}
use Rattle.region.specs.Checks.{proper_region, region_refused}
use Rattle.region.specs.Queries.{ask_region}
use Rattle.region.specs.Demand.{edges_of}
use Rattle.region.specs.Insets.{region_pieces, inset_finished, inset_swept, region_counted, region_plain, region_sweep, inset_from, inset_by, region_inset}
use Rattle.region.proofs.DemandAnswered.{inset_demand}
use Rattle.front.specs.Loading.{no_front}
use Rattle.front_sweep.specs.Acts.{cleared}
use Rattle.region_front.specs.Rings.{sweep_rings}
use Rattle.region_front.proofs.Takes.{sweeps_region}
use Rattle.region_inset.specs.Found.{found_refusal}
use Rattle.region_inset.proofs.PiecesFound.{answer, found_answer}
use Rattle.region_inset.specs.Refused.{inset_refused}

pub refused_as : (u : Refusal) (c d j : ℕ) (q : Region) → q ≡ no_region → record { refusal = u; shape = q; collapses = c; divides = d; joins = j } ≡ inset_refused u c d j
unfolding inset_refused
refused_as u c d j q e = ap (λ (x : Region). record { refusal = u; shape = x; collapses = c; divides = d; joins = j }) e

-- ---- the front at the distance
module _ (r : Region) (d : Float) (s : Sweep) where
  pub sweep_refused : (a : RegionOffset) → granted s.refusal ≡ false → a ≡ inset_refused s.refusal s.collapses s.divides s.joins → a ≡ inset_from r d s
  unfolding inset_from region_counted inset_swept region_refused inset_refused
  sweep_refused a h e = rw h e

  module _ (h : granted s.refusal ≡ true) (e t : Float) (v : PlanarPoint) (p : RegionPieces) (u : Refusal) (ee : e ≡ region_extent r) (et : t ≡ offset_tolerance d e)
      (ev : v ≡ vertex_at r.outer.points 0) (ep : p ≡ region_pieces s.edges v d t) (eu : u ≡ found_refusal r d t p.refusal p.found p.shape) where
    swept_is : inset_swept r d s ≡ answer u p.shape
    unfolding inset_swept inset_finished
    swept_is = rw (h, ← ee, ← et, ← ev, ← ep, eu) (found_answer r d t p)

    pub from_refused : (a : RegionOffset) → granted u ≡ false → a ≡ inset_refused u s.collapses s.divides s.joins → a ≡ inset_from r d s
    unfolding inset_from region_counted region_refused inset_refused
    from_refused a g i = i ∙ sym (ap (λ (x : NewRegion). region_counted x s) (swept_is ∙ rw g refl))

    pub from_granted : granted u ≡ true → record { refusal = Granted; shape = p.shape; collapses = s.collapses; divides = s.divides; joins = s.joins } ≡ inset_from r d s
    unfolding inset_from region_counted
    from_granted g = sym (ap (λ (x : NewRegion). region_counted x s) (swept_is ∙ rw g refl))

-- ---- the front of a refused sweep is not read
unfoldable bare : Sweep → Sweep
bare s = record { edges = no_front; travelled = s.travelled; collapses = s.collapses; divides = s.divides; joins = s.joins; ended = s.ended; refusal = s.refusal }

module _ (r : Region) (d : Float) (s : Sweep) where
  kept : granted s.refusal ≡ true → cleared s ≡ s
  unfolding cleared
  kept h = rw h refl

  bared : granted s.refusal ≡ false → cleared s ≡ bare s
  unfolding cleared bare
  bared h = rw h refl

  bare_swept : granted s.refusal ≡ false → inset_swept r d (bare s) ≡ inset_swept r d s
  unfolding inset_swept bare
  bare_swept h = rw h refl

  bare_same : granted s.refusal ≡ false → inset_from r d (bare s) ≡ inset_from r d s
  unfolding inset_from region_counted bare
  bare_same h = ap (λ (x : NewRegion). region_counted x s) (bare_swept h)

  cleared_same : inset_from r d (cleared s) ≡ inset_from r d s
  cleared_same = go (granted s.refusal) refl
    where
      go : (b : Bool) → granted s.refusal ≡ b → inset_from r d (cleared s) ≡ inset_from r d s
      go true h = ap (inset_from r d) (kept h)
      go false h = ap (inset_from r d) (bared h) ∙ bare_same h

-- ---- 21, 13 and 14, and an inset by 0
asked_no : (b : Bool) (c : Refusal) (moved : RegionOffset) → granted (ask b c) ≡ false →
    region_plain (ask b c) no_region ≡ cond b (cond (granted c) moved (region_plain c no_region)) (region_plain Shape no_region)
unfolding ask
asked_no true c m h = rw h refl
asked_no false c m h = refl

module _ (r : Region) (d : Float) (c u : Refusal) (ec : c ≡ check_distance d) (eu : u ≡ ask_region r c) (a : RegionOffset) where
  asked : ask (proper_region r) (check_distance d) ≡ u
  unfolding ask_region
  asked = ap (ask (proper_region r)) (sym ec) ∙ sym eu

  pub plain : granted u ≡ false → a ≡ inset_refused u 0 0 0 → a ≡ region_inset r d
  unfolding region_inset inset_by inset_refused region_plain
  plain h i =
      i ∙ ap (λ (x : Refusal). region_plain x no_region) (sym asked) ∙
      asked_no (proper_region r) (check_distance d) (cond (eq d zero_float) (region_plain Granted r) (inset_from r d (region_sweep r d))) (ap granted asked ∙ h)

  sides : granted u ≡ true → (proper_region r ≡ true) × (granted (check_distance d) ≡ true)
  sides h = asked_yes (proper_region r) (check_distance d) (ap granted asked ∙ h)

  pub unmoved : granted u ≡ true → eq d zero_float ≡ true → a ≡ region_plain Granted r → a ≡ region_inset r d
  unfolding region_inset inset_by
  unmoved h z i = rw ((sides h).0, (sides h).1, z) i

  pub moved : (s : Sweep) → granted u ≡ true → eq d zero_float ≡ false → s ≡ cleared (sweep_rings r.outer.points r.outer.count r.points r.counts r.holes d) → a ≡ inset_from r d s → a ≡ region_inset r d
  unfolding region_inset inset_by region_of
  moved s h z i j =
      rw ((sides h).0, (sides h).1, z) (j ∙ ap (inset_from r d) i ∙ cleared_same r d (sweep_rings r.outer.points r.outer.count r.points r.counts r.holes d) ∙
      ap (inset_from r d) (sweeps_region r.outer.points r.outer.count r.points r.counts r.holes (sides h).0 d))

-- ---- demand 3 of what is handed back
pub with_demand : (r : Region) (d : Float) (a : RegionOffset) → a ≡ region_inset r d →
    (a ≡ region_inset r d) × (proper_region r ≡ true → AnswerDemand (edges_of r r.holes) (suc r.holes) a.refusal a.collapses a.divides a.joins)
with_demand r d a e = (e, demanded)
  where
    demanded : proper_region r ≡ true → AnswerDemand (edges_of r r.holes) (suc r.holes) a.refusal a.collapses a.divides a.joins
    demanded h = subst (λ (x : RegionOffset). AnswerDemand (edges_of r r.holes) (suc r.holes) x.refusal x.collapses x.divides x.joins) (sym e) (inset_demand r d h)
