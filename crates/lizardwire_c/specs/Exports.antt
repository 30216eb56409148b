-- What the functions for C answer about an outline and a job line: what the proved functions answer, told as plain numbers. Of a region it
-- is in region_c/specs/Told.antt, of a stream in stream_c/specs/Calls.antt. Assumes nothing.
use Rattle.std.specs.Prelude.{ℕ, Bool, false, cond, List, length, Float}
use Rattle.error.specs.Refusals.{granted}
use Rattle.error.specs.Carries.{carried}
use Rattle.areas.specs.declared.NewArea.{NewArea}
use Rattle.outline.specs.declared.NewOutline.{NewOutline}
use Rattle.outline.specs.declared.Outline.{Outline}
use Rattle.outline.specs.Outlines.{stored_outline}
use Rattle.offset.specs.declared.OffsetWritten.{OffsetWritten}
use Rattle.offset.specs.Lent.{offset_write, written_offset}
unfoldable pub use Rattle.outline_lent.specs.Direct.{outline_told, over_outline}
use Rattle.outline_ask.specs.declared.Placed.{Placed}
use Rattle.outline_ask.specs.declared.Neared.{Neared}
use Rattle.outline_ask.specs.declared.Measured.{Measured}
use Rattle.outline_ask.specs.declared.Met.{Met}
use Rattle.outline_ask.specs.declared.Footed.{Footed}
use Rattle.outline_ask.specs.declared.Edged.{Edged}
use Rattle.job_answer.specs.declared.Answered.{Answered}
use Rattle.told.specs.declared.LwOutline.{LwOutline}
use Rattle.told.specs.declared.LwPlace.{LwPlace}
use Rattle.told.specs.declared.LwNearest.{LwNearest}
use Rattle.told.specs.declared.LwArea.{LwArea}
use Rattle.told.specs.declared.LwLength.{LwLength}
use Rattle.told.specs.declared.LwMeeting.{LwMeeting}
use Rattle.told.specs.declared.LwPoint.{LwPoint}
use Rattle.told.specs.declared.LwEdge.{LwEdge}
use Rattle.told.specs.declared.LwOffset.{LwOffset}
use Rattle.told.specs.declared.LwLine.{LwLine}
use Rattle.told.specs.Told.{outline_answer, place_answer, nearest_answer, area_answer, length_answer, meeting_answer, point_answer}
use Rattle.told.specs.Told.{edge_answer, offset_answer, line_answer}
unfoldable pub use Rattle.told.specs.Told.{vertices}

-- the number of the functions for C, LW_VERSION of the header: it goes up with every function that is added or changed
abbrev pub version : ℕ
version = 4

-- ---- the check of an outline, whose stored ring is written to lent output

-- the check alone
unfoldable pub checked : NewOutline → LwOutline
checked o = outline_answer (carried o.refusal) o.shape.count

unfoldable pub told_outline : NewOutline → List Float → LwOutline
told_outline o out = outline_answer (carried (outline_told o out)) (cond (granted (outline_told o out)) o.shape.count 0)

-- ---- questions about an outline handed in

unfoldable pub told_place : Placed → LwPlace
told_place a = place_answer (carried a.refusal) a.place

unfoldable pub told_nearest : Neared → LwNearest
told_nearest a = nearest_answer (carried a.refusal) a.distance a.point

unfoldable pub told_area : NewArea → LwArea
told_area a = area_answer (carried a.refusal) a.area.value

unfoldable pub told_length : Measured → LwLength
told_length a = length_answer (carried a.refusal) a.value

unfoldable pub told_meeting : Met → LwMeeting
told_meeting a = meeting_answer (carried a.refusal) a.meets a.outer a.inner a.swapped

unfoldable pub told_point : Footed → LwPoint
told_point a = point_answer (carried a.refusal) a.point

unfoldable pub told_edge : Edged → LwEdge
told_edge a = edge_answer (carried a.refusal) a.start a.end

-- ---- offsets of an outline handed in

unfoldable pub given : List Float → Outline
given ps = stored_outline ps (vertices (length ps)) false

unfoldable pub told_offset : OffsetWritten → LwOffset
told_offset a = offset_answer (carried a.refusal) a.count a.collapses a.divides a.joins

-- `lw_inset` and `lw_outset` of the numbers ps: what they answer, and `out` afterwards
abbrev pub lw_offset : Bool → List Float → Float → List Float → LwOffset
lw_offset outward ps d out = told_offset (offset_write (given ps) outward d out)

abbrev pub lw_offset_out : Bool → List Float → Float → List Float → List Float
lw_offset_out outward ps d out = written_offset (given ps) outward d out

-- ---- a job line

unfoldable pub told_line : Answered → LwLine
told_line a = line_answer a.refusal (carried a.refusal) a.count

-- opens every definition above, for a proof that computes with all of them
unfoldable pub open_exports : Unit {0}
unfolding checked told_outline told_place told_nearest told_area told_length told_meeting told_point told_edge given told_offset told_line
open_exports = tt
