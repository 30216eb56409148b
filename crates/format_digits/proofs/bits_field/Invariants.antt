-- `format_digits::bits_field` meets its contract. Assumes nothing.
use mathlib.Core.Path.{◌≡◌}
use Rattle.format_digits.specs.Stores.{put}
use Rattle.format_digits.proofs.Printed.{unwritten, digits_to}
use Rattle.format_digits.proofs.bits_field.Given as goal

abbrev pub invariant-loop-k : goal.invariant-loop-k
invariant-loop-k l = l.field ≡ put unwritten 1 (digits_to l.bits l.k)
