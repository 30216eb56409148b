-- What the functions for C answer: a refusal's number and what it carries as plain numbers, beside the value. Assumes nothing.
use Rattle.std.specs.Prelude.{ℕ, ◌/◌, ◌%◌, Bool, cond, List, eqb, Float}
use Rattle.error.specs.declared.Refusal.{Refusal}
use Rattle.error.specs.Refusals.{granted}
use Rattle.error.specs.declared.Carried.{Carried}
use Rattle.plane.specs.declared.PlanarPoint.{PlanarPoint}
use Rattle.plane.specs.declared.Containment.{Containment}
use Rattle.plane.specs.declared.Containment.TheVariants.{Inside, OnBoundary, Outside}
use Rattle.told.specs.declared.LwOutline.{LwOutline}
use Rattle.told.specs.declared.LwPlace.{LwPlace}
use Rattle.told.specs.declared.LwNearest.{LwNearest}
use Rattle.told.specs.declared.LwArea.{LwArea}
use Rattle.told.specs.declared.LwLength.{LwLength}
use Rattle.told.specs.declared.LwMeeting.{LwMeeting}
use Rattle.told.specs.declared.LwPoint.{LwPoint}
use Rattle.told.specs.declared.LwEdge.{LwEdge}
use Rattle.told.specs.declared.LwOffset.{LwOffset}
use Rattle.told.specs.declared.LwRegion.{LwRegion}
use Rattle.told.specs.declared.LwRegionOffset.{LwRegionOffset}
use Rattle.told.specs.declared.LwLine.{LwLine}

-- how many vertices the numbers of a shape handed in are; none where their count is odd, which 21 then refuses
unfoldable pub vertices : ℕ → ℕ
vertices l = cond (eqb (l % 2) 0) (l / 2) 0

-- ---- the check of an outline

unfoldable pub outline_answer : Carried → ℕ → LwOutline
outline_answer c n = record { refusal = c.question; ring = c.ring; first = c.first; second = c.second; value = c.value; count = n }

-- ---- questions about an outline handed in

unfoldable pub place_number : Containment → ℕ
place_number Outside = 0
place_number OnBoundary = 1
place_number Inside = 2

unfoldable pub place_answer : Carried → Containment → LwPlace
place_answer c p = record { refusal = c.question; first = c.first; place = place_number p }

unfoldable pub nearest_answer : Carried → Float → PlanarPoint → LwNearest
nearest_answer c d p = record { refusal = c.question; first = c.first; distance = d; east = p.east; north = p.north }

unfoldable pub area_answer : Carried → Float → LwArea
area_answer c x = record { refusal = c.question; area = x }

unfoldable pub length_answer : Carried → Float → LwLength
length_answer c x = record { refusal = c.question; length = x }

unfoldable pub meeting_answer : Carried → Bool → ℕ → ℕ → Bool → LwMeeting
meeting_answer c meets outer inner swapped =
    record { refusal = c.question; meets = cond meets 1 0; outer = outer; inner = inner; swapped = cond swapped 1 0 }

unfoldable pub point_answer : Carried → PlanarPoint → LwPoint
point_answer c p = record { refusal = c.question; east = p.east; north = p.north }

unfoldable pub edge_answer : Carried → PlanarPoint → PlanarPoint → LwEdge
edge_answer c a b =
    record {
      refusal = c.question;
      start_east = a.east;
      start_north = a.north;
      end_east = b.east;
      end_north = b.north;
    }

-- ---- offsets of an outline handed in: the vertices written, and the completed events

unfoldable pub offset_answer : Carried → ℕ → ℕ → ℕ → ℕ → LwOffset
offset_answer c n collapses divides joins =
    record {
      refusal = c.question;
      ring = c.ring;
      first = c.first;
      second = c.second;
      value = c.value;
      count = n;
      collapses = collapses;
      divides = divides;
      joins = joins;
    }

-- ---- a region: its rings, the vertices of each, and of an inset the completed events

unfoldable pub region_answer : Carried → ℕ → List ℕ → LwRegion
region_answer c rings counts =
    record {
      refusal = c.question;
      ring = c.ring;
      first = c.first;
      second = c.second;
      value = c.value;
      rings = rings;
      counts = counts;
    }

unfoldable pub inset_answer : Carried → ℕ → List ℕ → ℕ → ℕ → ℕ → LwRegionOffset
inset_answer c rings counts collapses divides joins =
    record {
      refusal = c.question;
      ring = c.ring;
      first = c.first;
      second = c.second;
      value = c.value;
      rings = rings;
      counts = counts;
      collapses = collapses;
      divides = divides;
      joins = joins;
    }

-- ---- a job line: the bytes written, or those needed

unfoldable pub line_answer : Refusal → Carried → ℕ → LwLine
line_answer u c n = record { refusal = c.question; count = cond (granted u) n c.first }

-- opens every definition above, for a proof that computes with all of them
unfoldable pub open_told : Unit {0}
unfolding vertices outline_answer place_number place_answer nearest_answer area_answer length_answer meeting_answer point_answer
    edge_answer offset_answer region_answer inset_answer line_answer
open_told = tt
