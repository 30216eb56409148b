-- `format_job::walk::read_floats` meets its contract. Assumes nothing.
use Prim.Native.Nat.{◌+◌, ◌-◌, ◌≤◌}
use lib.ListN.{length}
use Rattle.format.specs.Numerals.{is_float, float_of}
use Rattle.format.specs.Fields.{fields_from}
use Rattle.format_job.proofs.Takes.{WalkTo}
use Rattle.format_job.proofs.walk.read_floats.Given as goal

abbrev pub invariant-loop-at : goal.invariant-loop-at
invariant-loop-at l = (l.k ≤ length (fields_from l.line l.start)) × (l.k ≤ l.at) × WalkTo is_float float_of l.line (fields_from l.line l.start) l.initial.out l.k l.at l.out

abbrev pub decreases-loop-at : goal.decreases-loop-at
decreases-loop-at l = length l.line + 1 - l.at
