-- The bounds and the counts of an outline's offset pass on to what C is told. Assumes nothing.
use Rattle.outline.specs.declared.Outline.{Outline}
use Rattle.offset.specs.declared.OffsetWritten.{OffsetWritten}
use Rattle.offset.specs.Offsets.{outline_load}
use Rattle.offset.specs.Lent.{offset_write}
use Rattle.offset.proofs.Counted.{write_accounts}
use Rattle.region_c.proofs.Counted.{told_accounts}
use Rattle.told.specs.Told.{offset_answer}
use Rattle.lizardwire_c.specs.Exports.{given, told_offset}
use Rattle.lizardwire_c.specs.Counted.{OffsetTold}

pub offset_told : OffsetTold
unfolding told_offset offset_answer
offset_told ps outward d out =
    let o : Outline = given ps in
    let w : OffsetWritten = offset_write o outward d out in
    record {
      passed = λ q. told_accounts o.count 1 d (outline_load o outward d) w.refusal w.collapses w.divides w.joins ((write_accounts o outward d out).passed q);
      refused = (write_accounts o outward d out).refused;
    }
