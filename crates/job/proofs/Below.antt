-- A refused offset of an outline and a refused inset of a region hand back the empty shape, as one value. Assumes nothing.
use Prim.Native.Nat.{ℕ}
use mathlib.Core.Bool.{Bool, false}
use mathlib.Core.Path.{◌≡◌, refl}
use mathlib.Core.List.{List}
use lib.ListN.{replicate}
use lib.Ieee.{Float}
use Rattle.outline.specs.declared.Outline.{Outline}
use Rattle.offset.specs.declared.Offset.{Offset}
use Rattle.region.specs.declared.Region.{Region}
use Rattle.region.specs.declared.RegionOffset.{RegionOffset}
use Rattle.math.specs.Number.{zero_float}
use Rattle.error.specs.Refusals.{granted}
use Rattle.outline.specs.Outlines.{no_outline}
use Rattle.offset.specs.Offsets.{offset}
use Rattle.offset.specs.Answers as answers
use Rattle.offset.proofs.DemandAnswered as offsets
use Rattle.region.specs.Regions.{no_region}
use Rattle.region.specs.Insets.{region_inset}
use Rattle.region.specs.Answers.{EmptyRegion}
use Rattle.region.proofs.DemandAnswered as insets

abbrev pub EmptyOutline : Offset → Type 0
EmptyOutline r = granted r.refusal ≡ false → r.shape ≡ no_outline

abbrev pub Empty : RegionOffset → Type 0
Empty r = granted r.refusal ≡ false → r.shape ≡ no_region

outline_by : (ps : List Float) (n : ℕ) → ps ≡ replicate 256 zero_float → n ≡ 0 → ◌≡◌ {A = Outline} (record { points = ps; count = n }) no_outline
unfolding no_outline
outline_by ps n e h = rw (e, h) refl

outline_is : (o : Outline) → answers.EmptyOutline o → o ≡ no_outline
outline_is o h = outline_by o.points o.count h.numbers h.count

region_by : (o : Outline) (ps : List Float) (cs : List ℕ) (k : ℕ) → o ≡ no_outline → ps ≡ replicate 512 zero_float → cs ≡ replicate 8 0 → k ≡ 0
    → ◌≡◌ {A = Region} (record { outer = o; points = ps; counts = cs; holes = k }) no_region
unfolding no_region
region_by o ps cs k a b c d = rw (a, b, c, d) refl

region_is : (r : Region) → EmptyRegion r → r ≡ no_region
region_is r h = region_by r.outer r.points r.counts r.holes (outline_is r.outer h.outer) h.numbers h.counts h.holes

pub offset_empty : (o : Outline) (outward : Bool) (d : Float) → EmptyOutline (offset o outward d)
offset_empty o outward d e = outline_is (offset o outward d).shape (offsets.offset_empty o outward d e)

pub inset_empty : (r : Region) (d : Float) → Empty (region_inset r d)
inset_empty r d e = region_is (region_inset r d).shape (insets.inset_empty r d e)
