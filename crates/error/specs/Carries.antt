-- What a refusal carries, as one struct: the number and the values that the scope gives it, a value that it has not reading 0. Assumes
-- nothing.
use Rattle.std.specs.Prelude.{ℕ, Float, get_or}
use Rattle.std.specs.Float.{binary64}
use Rattle.std.specs.Float.Ieee.{of_bits}
use Rattle.error.specs.declared.Refusal.{Refusal}
use Rattle.error.specs.Refusals.{Values, values}
use Rattle.error.specs.declared.Carried.{Carried}

unfoldable pub told : ℕ → ℕ → ℕ → ℕ → Float → Carried
told question ring first second value = record { question = question; ring = ring; first = first; second = second; value = value }

unfoldable pub carried_of : Values → Carried
carried_of v =
    told v.question (get_or v.ring 0 0) (get_or v.wholes 0 0) (get_or v.wholes 1 0) (get_or v.floats 0 (of_bits binary64 0x0))

unfoldable pub carried : Refusal → Carried
carried r = carried_of (values r)
