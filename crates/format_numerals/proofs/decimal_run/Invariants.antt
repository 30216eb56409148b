-- `format_numerals::decimal_run` meets its contract. Assumes nothing.
use Rattle.format.specs.Numerals.{is_decimal, decimal_value}
use Rattle.format_numerals.proofs.Runs.{RunTo}
use Rattle.format_numerals.proofs.decimal_run.Given as goal

abbrev pub invariant-loop-b : goal.invariant-loop-b
invariant-loop-b l = RunTo 10 is_decimal decimal_value l.field l.b-index l.sound l.value
