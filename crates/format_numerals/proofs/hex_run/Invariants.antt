-- `format_numerals::hex_run` meets its contract. Assumes nothing.
use Rattle.format.specs.Numerals.{is_hex, hex_value}
use Rattle.format_numerals.proofs.Runs.{RunTo}
use Rattle.format_numerals.proofs.hex_run.Given as goal

abbrev pub invariant-loop-k : goal.invariant-loop-k
invariant-loop-k l = RunTo 16 is_hex hex_value l.field l.k l.sound l.value
