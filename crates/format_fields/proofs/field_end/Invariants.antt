-- `format_fields::field_end` meets its contract. Assumes nothing.
use Rattle.format_fields.proofs.Ends.{EndTo}
use Rattle.format_fields.proofs.field_end.Given as goal

abbrev pub invariant-loop-at : goal.invariant-loop-at
invariant-loop-at l = EndTo l.line l.start l.at
