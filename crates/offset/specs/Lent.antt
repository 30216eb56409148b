-- An offset whose numbers go into lent output: the offset's own refusal first, and question 20 last. Two numbers a vertex are needed.
-- Assumes nothing.
use Rattle.std.specs.Prelude.{◌*◌, Bool, cond, List, Float}
use Rattle.error.specs.declared.Refusal.{Refusal}
use Rattle.outline.specs.declared.Outline.{Outline}
use Rattle.offset.specs.declared.Offset.{Offset}
use Rattle.offset.specs.declared.OffsetWritten.{OffsetWritten}
use Rattle.error.specs.Refusals.{granted}
use Rattle.outline_lent.specs.Writes.{write_ring, write_refusal}
use Rattle.offset.specs.Offsets.{offset}

unfoldable pub write_offset : Offset → List Float → Refusal
write_offset a out = cond (granted a.refusal) (write_refusal (2 * a.shape.count) out) a.refusal

-- the completed events are handed back where 20 is refused, too
unfoldable pub offset_told : Offset → Refusal → OffsetWritten
offset_told a r =
    record { refusal = r; count = cond (granted r) a.shape.count 0; collapses = a.collapses; divides = a.divides; joins = a.joins }

-- what it answers
unfoldable pub offset_write : Outline → Bool → Float → List Float → OffsetWritten
offset_write o outward d out = offset_told (offset o outward d) (write_offset (offset o outward d) out)

unfoldable pub offset_over : Offset → List Float → List Float
offset_over a out = cond (granted (write_offset a out)) (write_ring a.shape.points a.shape.count 0 out) out

-- the lent numbers afterwards
unfoldable pub written_offset : Outline → Bool → Float → List Float → List Float
written_offset o outward d out = offset_over (offset o outward d) out

-- opens every definition above, for a proof that computes with all of them
unfoldable pub open_lent : Unit {0}
unfolding write_offset offset_told offset_write offset_over written_offset
open_lent = tt
