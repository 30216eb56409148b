-- One name that opens every definition that an answer rests on, for a proof that computes answers. Assumes nothing.
use Rattle.region.specs.Everything.{open_everything}
use Rattle.format.specs.Numerals.{open_numerals}
use Rattle.format.specs.Fields.{open_fields}
use Rattle.format.specs.Lines.{open_lines}
use Rattle.format.specs.JobLines.{open_job_lines}
use Rattle.job.specs.Jobs.{open_jobs}
use Rattle.job.specs.AnswerLines.{open_answer_lines}
use Rattle.job.specs.Stream.{open_stream}

unfoldable pub open_answers : Unit {0}
unfolding open_everything open_numerals open_fields open_lines open_job_lines open_jobs open_answer_lines open_stream
open_answers = tt
