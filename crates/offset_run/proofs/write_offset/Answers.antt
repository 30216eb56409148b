-- `offset_run::write_offset` meets its contract. Assumes nothing.
use Rattle.offset_run.specs.Found.{answer_of, outline_of}
use Rattle.offset_run.proofs.Written.{told, over}
use Rattle.offset_run.proofs.write_offset.Goals as goal

pub returns : goal.returns
unfolding answer_of outline_of
returns c =
    let granted-gives = c.granted.ensures in
    let choose-gives = c.choose-asked.ensures in
    let choose2-gives = c.choose-r.ensures in
    let granted2-gives = c.granted-granted.ensures in
    let choose3-gives = c.choose.ensures in
    let write-numbers-gives = c.write_numbers.ensures in record {
      answered = told _ _ _ _ _ _ _ granted-gives choose-gives choose2-gives granted2-gives c.choose-2.ensures;
      written = over _ _ _ _ _ _ _ _ granted-gives
          choose-gives choose2-gives granted2-gives choose3-gives write-numbers-gives;
    }
