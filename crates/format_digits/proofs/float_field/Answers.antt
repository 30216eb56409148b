-- `format_digits::float_field` meets its contract. Assumes nothing.
use Prim.Native.Nat.{ℕ}
use mathlib.Core.Path.{ap, ◌∙◌}
use mathlib.Core.List.{◌∷◌}
use Rattle.format.specs.Fields.{comma}
use Rattle.format.specs.Numerals.{bits_digits, float_digits}
use Rattle.format_digits.proofs.float_field.Goals as goal

pub returns : goal.returns
unfolding float_digits
returns c = c.bits_field.ensures ∙ ap (λ (bits : ℕ). comma ∷ bits_digits bits) c.printed_bits.ensures
