-- `format_job::walk::read_counts` meets its contract. Assumes nothing.
use Rattle.format.specs.Numerals.{is_count, count_of}
use Rattle.format.specs.Fields.{fields_from}
use Rattle.format_job.proofs.Takes.{WalkTo}
use Rattle.format_job.proofs.walk.read_counts.Given as goal

abbrev pub invariant-loop-k : goal.invariant-loop-k
invariant-loop-k l = WalkTo is_count count_of l.line (fields_from l.line l.start) l.initial.out l.k l.at l.out
