-- `job_answer::answer_bytes` meets its contract. Assumes nothing.
use borrow.Author.Rules.{rules}
use Rattle.job_answer.proofs.Whole.{refused_answered, refused_written, shape_answered, shape_written, unfit_answered, unfit_written, outer_in, holes_few, holes_short}
use Rattle.job_answer.proofs.answer_bytes.Goals as goal

pub returns-then-not-granted : goal.returns-then-not-granted
returns-then-not-granted c =
    let granted-gives = c.granted.ensures in
    let yes1 = c.if-not-granted.true in
    let number-gives = c.number.ensures in
    record {
      answered = refused_answered _ _ _ granted-gives _ _ yes1 number-gives c.no_line.ensures.answered;
      written = refused_written _ _ _ granted-gives _ _ yes1 number-gives c.no_line.ensures.written;
    }

pub ok_line-requires : goal.ok_line-requires
ok_line-requires c =
    let asked = c.proper_region.ensures in
    let passed = c.if-proper_region.true in
    record {
      count_bound = outer_in _ _ _ _ _ _ asked passed;
      holes_bound = holes_few _ _ _ _ _ _ asked passed;
      holes_value = holes_short _ _ _ _ _ _ asked passed;
      outer_len = search rules;
      points_len = search rules;
    }

pub returns-then-proper_region : goal.returns-then-proper_region
returns-then-proper_region c =
    let given = c.granted.ensures in
    let left = c.if-not-granted.false in
    let asked = c.proper_region.ensures in
    let told = c.if-proper_region.true in
    record {
      answered = shape_answered _ _ _ given left _ asked told _ c.ok_line.ensures.answered;
      written = shape_written _ _ _ given left _ asked told _ c.ok_line.ensures.written;
    }

pub returns : goal.returns
returns c =
    let given = c.granted.ensures in
    let left = c.if-not-granted.false in
    let asked = c.proper_region.ensures in
    let told = c.if-proper_region.false in
    record {
      answered = unfit_answered _ _ _ given left _ asked told;
      written = unfit_written _ _ _ given left _ asked told;
    }
