-- Demand 3 of what `lw_inset` and `lw_outset` hand back: its bounds, and the counts are those of the front's whole list of events. The same
-- of `lw_region_inset` is `RegionInsetTold`, and of `lw_stored_region_inset` `StoredInsetTold` (region_c/specs/Counted.antt). Proved in
-- `proofs/Counted.antt`. Assumes nothing.
use Rattle.std.specs.Prelude.{◌≡◌, Bool, true, false, List, Float}
use Rattle.outline.specs.Outlines.{proper}
use Rattle.offset.specs.Offsets.{outline_load}
use Rattle.offset.specs.Answers.{NoEvent}
use Rattle.region_c.specs.Counted.{ToldAccounts}
use Rattle.told.specs.declared.LwOffset.{LwOffset}
use Rattle.lizardwire_c.specs.Exports.{given, lw_offset}

-- the answer a about the numbers ps of an outline that passes 21 or is refused by it
pub record OutlineTold (ps : List Float) (outward : Bool) (distance : Float) (a : LwOffset) : Type 0 where
  pub passed : proper 128 (given ps).points (given ps).count ≡ true →
      ToldAccounts (given ps).count 1 distance (outline_load (given ps) outward distance) a.refusal a.first a.collapses
      a.divides a.joins
  pub refused : proper 128 (given ps).points (given ps).count ≡ false → NoEvent a.collapses a.divides a.joins

abbrev pub OffsetTold : Type 0
OffsetTold =
    (ps : List Float) (outward : Bool) (distance : Float) (out : List Float) →
    OutlineTold ps outward distance (lw_offset outward ps distance out)
