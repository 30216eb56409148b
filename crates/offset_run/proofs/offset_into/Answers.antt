-- `offset_run::offset_into` meets its contract. Assumes nothing.
use Rattle.offset_run.specs.Found.{answer_of, outline_of}
use Rattle.offset_run.proofs.Written.{fits, answered, written}
use Rattle.offset_run.proofs.offset_into.Goals as goal

pub write_offset-requires : goal.write_offset-requires
write_offset-requires c =
    let offset-gives = c.offset-a.ensures in
    fits _ _ _ _ offset-gives

pub returns : goal.returns
unfolding answer_of outline_of
returns c =
    let offset-gives = c.offset-a.ensures in
    record {
      answered = answered _ _ _ _ offset-gives _ _ c.write_offset.ensures.answered;
      written = written _ _ _ _ offset-gives _ _ c.write_offset.ensures.written;
    }
