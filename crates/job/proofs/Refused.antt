-- A refused job hands back the empty shape. Assumes nothing.
use Prim.Native.Nat.{ℕ, ◌%◌}
use mathlib.Core.Bool.{Bool, cond}
use mathlib.Core.Path.{refl, ap}
use mathlib.Core.List.{List}
use lib.Dec.{eqb}
use lib.Ieee.{Float}
use lib.ListN.{get_or, length}
use Rattle.base.proofs.Choices.{both}
use Rattle.error.specs.declared.Refusal.{Refusal}
use Rattle.error.specs.declared.Refusal.TheVariants.{Job, Lengths, Odd}
use Rattle.outline.specs.declared.Outline.{Outline}
use Rattle.outline.specs.declared.NewOutline.{NewOutline}
use Rattle.offset.specs.declared.Offset.{Offset}
use Rattle.region.specs.declared.NewRegion.{NewRegion}
use Rattle.error.specs.Refusals.{granted}
use Rattle.outline.specs.Outlines.{new_outline, check_finite}
use Rattle.offset.specs.Offsets.{offset}
use Rattle.region.specs.Regions.{no_region, with_outer}
use Rattle.region.specs.Checks.{load_rings, region_loaded, lengths_fit}
use Rattle.region.specs.Insets.{region_inset}
use Rattle.job.specs.Jobs.{job, job_refused, as_region, job_outline, job_region, job_rings, job_finite, job_numbers, RefusedEmpty}
use Rattle.format.specs.JobLines.{side_fits}
use Rattle.job.proofs.Below.{EmptyOutline, Empty, offset_empty, inset_empty}

plain : (r : Refusal) → Empty (job_refused r)
unfolding job_refused
plain r e = refl

as_region_empty : (r : Offset) → EmptyOutline r → Empty (as_region r)
unfolding as_region with_outer no_region
as_region_empty r h e = ap (λ (o : Outline). with_outer no_region o) (h e)

outline_empty : (outward : Bool) (d : Float) (o : NewOutline) → Empty (job_outline outward d o)
unfolding job_outline
outline_empty outward d o =
    both Empty (granted o.refusal) {x = as_region (offset o.shape outward d)} {y = job_refused o.refusal}
    (as_region_empty (offset o.shape outward d) (offset_empty o.shape outward d))
    (plain o.refusal)

region_empty : (d : Float) (r : NewRegion) → Empty (job_region d r)
unfolding job_region
region_empty d r =
    both Empty (granted r.refusal) {x = region_inset r.shape d} {y = job_refused r.refusal} (inset_empty r.shape d) (plain r.refusal)

rings_empty : (outward : Bool) (d : Float) (lengths : List ℕ) (ps : List Float) → Empty (job_rings outward d lengths ps)
unfolding job_rings
rings_empty outward d lengths ps =
    both Empty (eqb (length lengths) 1) {x = job_outline outward d (new_outline ps (get_or lengths 0 0))} {y = job_region d (region_loaded (load_rings lengths ps))}
    (outline_empty outward d (new_outline ps (get_or lengths 0 0)))
    (region_empty d (region_loaded (load_rings lengths ps)))

finite_empty : (outward : Bool) (d : Float) (lengths : List ℕ) (ps : List Float) (r : Refusal) → Empty (job_finite outward d lengths ps r)
unfolding job_finite
finite_empty outward d lengths ps r =
    both Empty (granted r) {x = cond (lengths_fit lengths ps) (job_rings outward d lengths ps) (job_refused Lengths)} {y = job_refused r}
    (both Empty (lengths_fit lengths ps) {x = job_rings outward d lengths ps} {y = job_refused Lengths} (rings_empty outward d lengths ps) (plain Lengths))
    (plain r)

numbers_empty : (outward : Bool) (d : Float) (lengths : List ℕ) (ps : List Float) → Empty (job_numbers outward d lengths ps)
unfolding job_numbers
numbers_empty outward d lengths ps =
    both Empty (eqb (length ps % 2) 0) {x = job_finite outward d lengths ps (check_finite ps)} {y = job_refused Odd}
    (finite_empty outward d lengths ps (check_finite ps))
    (plain Odd)

pub refused_empty : RefusedEmpty
unfolding job
refused_empty outward d lengths ps =
    both Empty (side_fits outward (length lengths)) {x = job_numbers outward d lengths ps} {y = job_refused Job} (numbers_empty outward d lengths ps) (plain Job)
