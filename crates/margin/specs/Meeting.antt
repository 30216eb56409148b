-- R-9 of what is accepted: "Two segments with finite ends are then reported as meeting if and only if they share a point." So what an
-- accepted outline and an accepted offset have passed holds of the exact numbers, with nothing rounded: no two edges of a ring that are no
-- neighbours share a point, nor do edges of two rings of an inset, nor an edge of an offset and one of its source. Of neighbours it is said
-- that they do not fold back, by an exact turn and a rounded dot product. Proved in `proofs/Meeting.antt`. Assumes nothing.
use Rattle.std.specs.Prelude.{ℕ, ◌≤◌, ◌<◌, ◌≡◌, Bool, true, false, List, Float}
use Rattle.std.specs.Float.Ieee.{lt}
use Rattle.math.specs.Number.{zero_float}
use Rattle.error.specs.Refusals.{granted}
use Rattle.ring_cross.specs.SimpleExact.{Strangers, EdgesShare, Folded}
use Rattle.ring_cross.specs.MeetExact.{RingsShare}
use Rattle.outline.specs.declared.Outline.{Outline}
use Rattle.outline.specs.Outlines.{outline}
use Rattle.offset.specs.Offsets.{offset}
use Rattle.region.specs.declared.Region.{Region}
use Rattle.region.specs.Regions.{ring_points, ring_count}
use Rattle.region.specs.Insets.{region_inset}
use Rattle.margin.specs.Margin.{Doubles, RegionDoubles}

-- no two edges of a ring that are no neighbours share a point, and no two neighbours fold back, as `folds_back` has it
pub record MeetsNotItself (ps : List Float) (n : ℕ) : Type 0 where
  pub strangers : (i j : ℕ) → Strangers n i j → EdgesShare ps n false i j → ⊥
  pub neighbours : (i j : ℕ) → i < j → j < n → Folded ps n false i j → ⊥

-- no edge of the one ring shares a point with an edge of the other
abbrev pub MeetsNot : List Float → ℕ → List Float → ℕ → Type 0
MeetsNot ps n qs m = RingsShare ps n qs m → ⊥

-- numbers that pass 1, 2, 4 to 9 and 27, as they are stored
abbrev pub OutlineMeetsNot : Type 0
OutlineMeetsNot =
    (ps : List Float) → Doubles ps → granted (outline ps).refusal ≡ true →
    MeetsNotItself (outline ps).shape.points (outline ps).shape.count

-- an offset q of o
pub record OffsetClear (q o : Outline) : Type 0 where
  pub itself : MeetsNotItself q.points q.count
  pub source : MeetsNot q.points q.count o.points o.count

-- inset or outset, of any outline that passes 21
abbrev pub OffsetMeetsNot : Type 0
OffsetMeetsNot =
    (o : Outline) (outward : Bool) (d : Float) → Doubles o.points →
    granted (offset o outward d).refusal ≡ true → lt zero_float d ≡ true → OffsetClear (offset o outward d).shape o

-- an inset q of r: ring 0 is the outer one, ring l + 1 is hole l
pub record InsetClear (q r : Region) : Type 0 where
  pub itself : (k : ℕ) → k ≤ q.holes → MeetsNotItself (ring_points q k) (ring_count q k)
  pub apart : (k l : ℕ) → k < l → l ≤ q.holes → MeetsNot (ring_points q k) (ring_count q k) (ring_points q l) (ring_count q l)
  pub source : (k l : ℕ) → k ≤ q.holes → l ≤ r.holes →
      MeetsNot (ring_points q k) (ring_count q k) (ring_points r l) (ring_count r l)

-- of any region that passes 21
abbrev pub InsetMeetsNot : Type 0
InsetMeetsNot =
    (r : Region) (d : Float) → RegionDoubles r →
    granted (region_inset r d).refusal ≡ true → lt zero_float d ≡ true → InsetClear (region_inset r d).shape r
