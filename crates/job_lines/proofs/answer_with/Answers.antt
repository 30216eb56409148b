-- `job_lines::answer_with` meets its contract. Assumes nothing.
use borrow.Author.Rules.{rules}
use Rattle.job_lines.proofs.LineAnswered.{rings_in, count_in, counts_part, given_answered, given_written, refused_answered, refused_written}
use Rattle.job_lines.proofs.answer_with.Goals as goal

pub slice_bounds-job-end : goal.slice_bounds-job-end
slice_bounds-job-end c =
    let asked = c.granted.ensures in
    let lengths = c.requires.in_bounds in
    let coordinates = c.requires.in_bounds_2 in
    let told = c.if-granted.true in
    let m = rings_in _ _ _ _ _ _ c.parse_job-p.ensures _ asked lengths coordinates told in
    search rules

pub slice_bounds-job-end-then-granted : goal.slice_bounds-job-end-then-granted
slice_bounds-job-end-then-granted c =
    let asked = c.granted.ensures in
    let lengths = c.requires.in_bounds in
    let coordinates = c.requires.in_bounds_2 in
    let told = c.if-granted.true in
    counts_part _ _ (rings_in _ _ _ _ _ _ c.parse_job-p.ensures _ asked lengths coordinates told)

pub slice_bounds-job-end-then-granted-2 : goal.slice_bounds-job-end-then-granted-2
slice_bounds-job-end-then-granted-2 c =
    let asked = c.granted.ensures in
    let lengths = c.requires.in_bounds in
    let coordinates = c.requires.in_bounds_2 in
    let told = c.if-granted.true in
    let m = count_in _ _ _ _ _ _ c.parse_job-p.ensures _ asked lengths coordinates told in
    search rules

pub slice_bounds-job-end-then-granted-3 : goal.slice_bounds-job-end-then-granted-3
slice_bounds-job-end-then-granted-3 c =
    let asked = c.granted.ensures in
    let lengths = c.requires.in_bounds in
    let coordinates = c.requires.in_bounds_2 in
    let told = c.if-granted.true in
    counts_part _ _ (count_in _ _ _ _ _ _ c.parse_job-p.ensures _ asked lengths coordinates told)

pub returns-then-granted : goal.returns-then-granted
returns-then-granted c =
    let asked = c.granted.ensures in
    let lengths = c.requires.in_bounds in
    let coordinates = c.requires.in_bounds_2 in
    let told = c.if-granted.true in
    let worked = c.job-a.ensures in record {
      answered = given_answered _ _ _ _ _ _ c.parse_job-p.ensures _ asked lengths coordinates told _ worked _ _ c.answer_bytes.ensures.answered;
      written = given_written _ _ _ _ _ _ c.parse_job-p.ensures _ asked lengths coordinates told _ worked _ _ c.answer_bytes.ensures.written;
    }

pub returns : goal.returns
returns c =
    let asked = c.granted.ensures in
    let lengths = c.requires.in_bounds in
    let coordinates = c.requires.in_bounds_2 in
    let told = c.if-granted.false in
    let numbered = c.number.ensures in record {
      answered = refused_answered _ _ _ _ _ _ c.parse_job-p.ensures _ asked lengths coordinates told _ _ _ numbered c.no_line.ensures.answered;
      written = refused_written _ _ _ _ _ _ c.parse_job-p.ensures _ asked lengths coordinates told _ _ _ numbered c.no_line.ensures.written;
    }
