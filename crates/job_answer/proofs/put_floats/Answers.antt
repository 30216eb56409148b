-- `job_answer::put_floats` meets its contract. Assumes nothing.
use borrow.Author.Rules.{rules}
use Rattle.job_answer.proofs.Parts.{floats_start, put_floats_next, put_floats_end}
use Rattle.job_answer.proofs.put_floats.Goals as goal

pub loop-k-init : goal.loop-k-init
loop-k-init c = (search rules, floats_start _ _ _)

pub loop-k-preserved : goal.loop-k-preserved
loop-k-preserved c =
    let inv = c.loop-k.invariant in
    let float-field-gives = c.float_field-field.ensures in
    let put-bytes-gives = c.put_bytes.ensures in
    (search rules, put_floats_next _ _ _ _ _ _ _ _ inv.1 inv.0 float-field-gives put-bytes-gives)

pub returns : goal.returns
returns c =
    let inv = c.loop-k.invariant in
    put_floats_end _ _ _ _ _ _ c.requires.n_in_bounds c.loop-k.auto.k-end c.loop-k-test.false inv.1
