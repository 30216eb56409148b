-- The margin passes on to what the functions for C write. Assumes nothing.
use Prim.Native.Nat.{ℕ}
use mathlib.Core.Path.{◌≡◌, refl, sym, ◌∙◌}
use mathlib.Core.Bool.{Bool, true, false, cond, false≢true}
use mathlib.Core.List.{List}
use borrow.Author.Tests.{eq-eqb}
use lib.Dec.{T}
use lib.ListN.{get_or, length}
use lib.Ieee.{Float, binary64, fits, lt}
use Rattle.error.specs.declared.Refusal.{Refusal}
use Rattle.error.specs.Refusals.{number, values, granted}
use Rattle.error.specs.Carries.{told, carried_of, carried}
use Rattle.math.specs.Number.{zero_float}
use Rattle.margins.specs.Far.{over}
use Rattle.outline.specs.declared.Outline.{Outline}
use Rattle.outline.specs.Outlines.{proper, stored_outline}
use Rattle.offset.specs.Offsets.{offset}
use Rattle.offset.specs.Lent.{offset_told, offset_write, written_offset}
use Rattle.region.specs.declared.Region.{Region}
use Rattle.region.specs.declared.NewRegion.{NewRegion}
use Rattle.region.specs.declared.InsetWritten.{InsetWritten}
use Rattle.region.specs.Regions.{region_extent}
use Rattle.region.specs.Checks.{region}
use Rattle.region.specs.Queries.{inset_write, written_inset}
use Rattle.region.specs.Answers.{ProperNewRegion}
use Rattle.region.proofs.Loaded.{region_again}
use Rattle.region_stored.specs.Stored.{stored_region}
use Rattle.region_stored.proofs.Again.{stored_again}
use Rattle.told.specs.Told.{vertices, offset_answer, inset_answer}
use Rattle.region_c.specs.Told.{told_inset, inset_refused, inset_made, inset_over}
use Rattle.lizardwire_c.specs.Exports.{given, told_offset}
use Rattle.margin.specs.Margin.{Doubles, largest_of, RegionDoubles}
use Rattle.margin.specs.Lent.{ring_in}
use Rattle.margin.specs.Drawn.{DrawnMargin, DrawnRings}
use Rattle.margin.proofs.Extents.{largest_is}
use Rattle.margin.proofs.DoublesKept.{outline_doubles}
use Rattle.margin.proofs.Outlines.{source_proper}
use Rattle.margin.proofs.Lent.{wrote_offset, offset_write_margin, inset_write_margin}
use Rattle.margin.proofs.Stands.{Stands, drawn_far, drawn_largest}
use Rattle.margin.proofs.RegionExtents.{region_largest_is}
use Rattle.margin.proofs.DrawnRings.{RegionStands, drawn_rings, region_stands}
use Rattle.margin_c.specs.Told.{LwInsetMargin, LwRegionInsetMargin, LwStoredInsetMargin}
use Rattle.margin_c.proofs.StoredRings.{stored_stands, stored_region_stands}

-- the number told is 0 where nothing is refused
told_granted : (u : Refusal) → (carried u).question ≡ 0 → granted u ≡ true
unfolding carried carried_of told granted number
told_granted u e = eq-eqb (values u).question 0 e

-- ---- an outline is stored as it was handed in

module _ (ps : List Float) (n : ℕ) (d : Float) (out : List Float) (pd : Doubles ps) (fd : T (fits binary64 d)) (l : lt zero_float d ≡ true) where
  abbrev o : Outline
  o = stored_outline ps n false

  stored_margin : granted (offset_write o false d out).refusal ≡ true → DrawnMargin d ps n (written_offset o false d out) (offset_write o false d out).count
  unfolding stored_outline offset_write offset_told
  stored_margin g =
      let ok : proper 128 o.points n ≡ true = source_proper o false d ((wrote_offset (offset o false d) out).passed g) in
      let s : Stands o.points n ps n = stored_stands ps n ok in
      let od : Doubles o.points = (outline_doubles ps n false pd).all in
      record {
        most = largest_of o;
        largest = drawn_largest o.points n ps n s (largest_of o) pd (largest_is o od ok);
        far = drawn_far o.points n ps n s (over d) (largest_of o) (written_offset o false d out) (offset_write o false d out).count pd (offset_write_margin o d out od fd g l);
      }

pub lw_inset_margin : LwInsetMargin
unfolding told_offset offset_answer given
lw_inset_margin ps d out pd fd e l =
    stored_margin ps (vertices (length ps)) d out pd fd l (told_granted (offset_write (given ps) false d out).refusal e)

-- ---- a region

module _ (lengths : List ℕ) (ps : List Float) (d : Float) (out : List Float) (pd : Doubles ps) (fd : T (fits binary64 d)) (l : lt zero_float d ≡ true) where
  -- the answer w, and the memory afterwards
  record Keeps (w : InsetWritten) (now : List Float) : Type 0 where
    keeps : granted w.refusal ≡ true → DrawnRings d lengths ps w.rings (ring_in w.counts now) (λ k. get_or w.counts k 0)

  -- a region that was made of these rings
  made : (a : NewRegion) → (granted a.refusal ≡ true → RegionStands lengths ps a.shape) → ProperNewRegion a → Keeps (inset_made a d out) (inset_over a d out)
  unfolding inset_made inset_over inset_refused
  made a stands again = go (granted a.refusal) refl
    where
      go : (b : Bool) → granted a.refusal ≡ b → Keeps (cond b (inset_write a.shape d out) (inset_refused a.refusal)) (cond b (written_inset a.shape d out) out)
      go true g =
          let r : Region = a.shape in
          let w : InsetWritten = inset_write r d out in
          let rd : RegionDoubles r = (stands g).doubles pd in
          record {
            keeps = λ q.
                drawn_rings lengths ps r (stands g) (over (region_extent r)) pd (region_largest_is r rd (again.proper g)) d w.rings (ring_in w.counts (written_inset r d out))
                (λ k. get_or w.counts k 0) (inset_write_margin r d out rd fd q l);
          }
      go false g = record { keeps = λ q. absurd (false≢true (sym g ∙ q)) }

pub lw_region_inset_margin : LwRegionInsetMargin
unfolding told_inset inset_answer
lw_region_inset_margin lengths ps d out pd fd e l =
    (made lengths ps d out pd fd l (region lengths ps) (region_stands lengths ps) (region_again.loaded lengths ps)).keeps (told_granted (inset_made (region lengths ps) d out).refusal e)

pub lw_stored_inset_margin : LwStoredInsetMargin
unfolding told_inset inset_answer
lw_stored_inset_margin lengths ps d out pd fd e l =
    (made lengths ps d out pd fd l (stored_region lengths ps) (stored_region_stands lengths ps) (stored_again lengths ps)).keeps
    (told_granted (inset_made (stored_region lengths ps) d out).refusal e)
