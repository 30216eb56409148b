-- `job_answer::ok_line` meets its contract. Assumes nothing.
use Rattle.job_answer.proofs.Whole.{answered_yes, answered_no, written_yes, written_no, shape_length, shape_stored}
use Rattle.job_answer.proofs.ok_line.Goals as goal

pub returns-then-out-needed : goal.returns-then-out-needed
returns-then-out-needed c =
    let yes1 = c.if-out-needed.true in record {
      answered = answered_no _ _ _ (shape_length _ _ _ _ _ _ _ c.requires.count_bound c.requires.holes_bound c.requires.holes_value c.requires.outer_len c.requires.points_len c.head_size-head.ensures.size
          c.vertices.ensures.sum) yes1;
      written = written_no _ _ _ (shape_length _ _ _ _ _ _ _ c.requires.count_bound c.requires.holes_bound c.requires.holes_value c.requires.outer_len
          c.requires.points_len c.head_size-head.ensures.size c.vertices.ensures.sum) yes1;
    }

pub returns : goal.returns
returns c =
    let no1 = c.if-out-needed.false in
    let put-head-gives = c.put_head.ensures in
    let put-floats-gives = c.put_floats.ensures in
    let put-holes-gives = c.put_holes.ensures in record {
      answered = answered_yes _ _ _ (shape_length _ _ _ _ _ _ _ c.requires.count_bound c.requires.holes_bound c.requires.holes_value c.requires.outer_len c.requires.points_len c.head_size-head.ensures.size
          c.vertices.ensures.sum) no1;
      written = written_yes _ _ _ (shape_length _ _ _ _ _ _ _ c.requires.count_bound c.requires.holes_bound c.requires.holes_value c.requires.outer_len
          c.requires.points_len c.head_size-head.ensures.size c.vertices.ensures.sum) no1 _ (shape_stored _ _ _ _ _ _ _ c.requires.count_bound c.requires.holes_bound c.requires.holes_value
          c.requires.outer_len c.requires.points_len c.head_size-head.ensures.size c.vertices.ensures.sum _ _ _ _ put-head-gives put-floats-gives put-holes-gives);
    }
