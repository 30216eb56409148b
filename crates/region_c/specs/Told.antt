-- What the functions for C answer about a region: a refusal's number and what it carries as plain numbers, the rings written, and the
-- events. Assumes nothing.
use Rattle.std.specs.Prelude.{ℕ, Bool, false, cond, List, ltb, length, replicate, Float}
use Rattle.error.specs.declared.Refusal.{Refusal}
use Rattle.error.specs.declared.Refusal.TheVariants.{Granted}
use Rattle.error.specs.Refusals.{granted}
use Rattle.error.specs.Carries.{carried}
use Rattle.outline.specs.Outlines.{stored_outline}
use Rattle.outline_ask.specs.declared.Measured.{Measured}
use Rattle.outline_lent.specs.declared.direct.Counted.{Counted}
use Rattle.outline_lent.specs.Direct.{told, over_outline}
use Rattle.region.specs.declared.Region.{Region}
use Rattle.region.specs.declared.NewRegion.{NewRegion}
use Rattle.region.specs.declared.RegionWritten.{RegionWritten}
use Rattle.region.specs.declared.InsetWritten.{InsetWritten}
use Rattle.region.specs.Checks.{region, without_holes}
use Rattle.region.specs.Queries.{no_rings, region_write, written_region, inset_write, written_inset, ask_region, region_hole}
unfoldable pub use Rattle.region_lent.specs.Rings.{region_told}
unfoldable pub use Rattle.region_stored.specs.Stored.{stored_region, given_region}
use Rattle.told.specs.declared.LwOutline.{LwOutline}
use Rattle.told.specs.declared.LwArea.{LwArea}
use Rattle.told.specs.declared.LwRegion.{LwRegion}
use Rattle.told.specs.declared.LwRegionOffset.{LwRegionOffset}
use Rattle.told.specs.Told.{vertices, outline_answer, area_answer, region_answer, inset_answer}

unfoldable pub told_region : RegionWritten → LwRegion
told_region w = region_answer (carried w.refusal) w.rings w.counts

unfoldable pub told_inset : InsetWritten → LwRegionOffset
told_inset w = inset_answer (carried w.refusal) w.rings w.counts w.collapses w.divides w.joins

-- a checked region to lent output; what the check refused comes first
unfoldable pub region_made : NewRegion → List Float → RegionWritten
region_made a out = cond (granted a.refusal) (region_write a.shape out) (no_rings a.refusal)

unfoldable pub region_over : NewRegion → List Float → List Float
region_over a out = cond (granted a.refusal) (written_region a.shape out) out

unfoldable pub inset_refused : Refusal → InsetWritten
inset_refused u = record { refusal = u; rings = 0; counts = replicate 9 0; collapses = 0; divides = 0; joins = 0 }

-- the inset of a checked region to lent output, likewise
unfoldable pub inset_made : NewRegion → Float → List Float → InsetWritten
inset_made a d out = cond (granted a.refusal) (inset_write a.shape d out) (inset_refused a.refusal)

unfoldable pub inset_over : NewRegion → Float → List Float → List Float
inset_over a d out = cond (granted a.refusal) (written_inset a.shape d out) out

-- the region of the numbers ps in rings of these lengths: as it is handed in, or checked
abbrev pub region_by : Bool → List ℕ → List Float → NewRegion
region_by stored lengths ps = cond stored (stored_region lengths ps) (region lengths ps)

-- `lw_region` of the numbers ps in rings of these lengths: what it answers, and `out` afterwards
abbrev pub lw_region : List ℕ → List Float → List Float → LwRegion
lw_region lengths ps out = told_region (region_made (region lengths ps) out)

abbrev pub lw_region_out : List ℕ → List Float → List Float → List Float
lw_region_out lengths ps out = region_over (region lengths ps) out

-- `lw_region_inset`, likewise
abbrev pub lw_region_inset : List ℕ → List Float → Float → List Float → LwRegionOffset
lw_region_inset lengths ps d out = told_inset (inset_made (region lengths ps) d out)

abbrev pub lw_region_inset_out : List ℕ → List Float → Float → List Float → List Float
lw_region_inset_out lengths ps d out = inset_over (region lengths ps) d out

-- ---- regions handed in

-- the region that is handed in. What 21 refuses is the empty one, and of this 21 is the answer to every question.
unfoldable pub handed : List ℕ → List Float → Region
handed lengths ps = (stored_region lengths ps).shape

-- a given outline as a region without holes
unfoldable pub alone : List Float → NewRegion
alone ps = without_holes (stored_outline ps (vertices (length ps)) false)

-- hole k to lent output; where there are no more than k, nothing is written
unfoldable pub hole_told : Region → ℕ → List Float → Counted
hole_told r k out = cond (ltb k r.holes) (told (region_hole r k) out) (record { refusal = ask_region r Granted; count = 0 })

unfoldable pub hole_over : Region → ℕ → List Float → List Float
hole_over r k out = cond (ltb k r.holes) (over_outline (region_hole r k) out) out

unfoldable pub told_ring : Counted → LwOutline
told_ring a = outline_answer (carried a.refusal) a.count

unfoldable pub told_measure : Measured → LwArea
told_measure a = area_answer (carried a.refusal) a.value

-- `lw_given_region` and `lw_without_holes`: what they answer, and `out` afterwards
abbrev pub lw_given_region : List ℕ → List Float → List Float → LwRegion
lw_given_region lengths ps out = told_region (region_made (given_region lengths ps) out)

abbrev pub lw_given_region_out : List ℕ → List Float → List Float → List Float
lw_given_region_out lengths ps out = region_over (given_region lengths ps) out

abbrev pub lw_without_holes : List Float → List Float → LwRegion
lw_without_holes ps out = told_region (region_made (alone ps) out)

abbrev pub lw_without_holes_out : List Float → List Float → List Float
lw_without_holes_out ps out = region_over (alone ps) out

-- `lw_stored_region`, which writes nothing
abbrev pub lw_stored_region : List ℕ → List Float → LwRegion
lw_stored_region lengths ps = told_region (region_told (handed lengths ps))

-- `lw_stored_region_inset`, as `lw_region_inset`
abbrev pub lw_stored_region_inset : List ℕ → List Float → Float → List Float → LwRegionOffset
lw_stored_region_inset lengths ps d out = told_inset (inset_made (stored_region lengths ps) d out)

abbrev pub lw_stored_region_inset_out : List ℕ → List Float → Float → List Float → List Float
lw_stored_region_inset_out lengths ps d out = inset_over (stored_region lengths ps) d out

-- opens every definition above, for a proof that computes with all of them
unfoldable pub open_told : Unit {0}
unfolding told_region told_inset region_made region_over inset_refused inset_made inset_over handed alone hole_told hole_over told_ring
    told_measure
open_told = tt
