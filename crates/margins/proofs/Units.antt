-- `over` and `under` are what a double's value and its bits say. Assumes nothing.
use mathlib.Core.Path.{◌≡◌, refl, sym, ap, ◌∙◌, subst}
use mathlib.Core.Logic.{inl, inr}
use mathlib.Core.Bool.{Bool, true, false, cond, false≢true}
use Prim.Native.Nat.{ℕ, zero, suc, ◌+◌, ◌^◌}
use native.Mathlib.Nat.{mul-one}
use borrow.Author.Tests.{ne_eqb}
use lib.Ieee.{Float, nan, inf, fin, binary64, of_bits, of_fields, odd}
use lib.Ieee.Exact.{HasValue, odd_sign}
use Rattle.math.specs.Number.{finite}
use Rattle.hypotenuse.specs.Hypot.{count}
use Rattle.hypotenuse.proofs.Units.{count_of, count_exact}
use Rattle.margins.specs.Far.{over, under, UnitsExact, field_units, sign_of, field_of, digits_of, UnitsOfBits}

-- the value
pub units_exact : UnitsExact
unfolding finite over under
units_exact nan f h = absurd (false≢true h)
units_exact (inf s) f h = absurd (false≢true h)
units_exact (fin true m e) f h = inr (count_exact true m e f, refl)
units_exact (fin false m e) f h = inl (count_exact false m e f, refl)

-- ---- the bits

-- the units of a number with this value
pub over_value : (x : Float) (s : Bool) (a : ℕ) → HasValue x s a (2 ^ 1074) → over x ≡ cond s 0 a
unfolding over
over_value nan s a v = absurd v
over_value (inf t) s a v = absurd v
over_value (fin t m e) s a v = ap (λ (o : Bool). cond o 0 (count m e)) v.0 ∙ ap (λ (c : ℕ). cond s 0 c) (sym (count_of t s m e a v))

under_value : (x : Float) (s : Bool) (a : ℕ) → HasValue x s a (2 ^ 1074) → under x ≡ cond s a 0
unfolding under
under_value nan s a v = absurd v
under_value (inf t) s a v = absurd v
under_value (fin t m e) s a v = ap (λ (o : Bool). cond o (count m e) 0) v.0 ∙ ap (λ (c : ℕ). cond s c 0) (sym (count_of t s m e a v))

-- the value of a number given by sign, field and digits
fields : (s : Bool) (x t : ℕ) → (x ≡ 2047 → ⊥) → HasValue (of_fields binary64 s x t) s (field_units x t) (2 ^ 1074)
unfolding of_fields field_units
fields s zero t h = subst (λ (a : ℕ). HasValue (odd 53 s t 0 1074) s a (2 ^ 1074)) (mul-one t) (odd_sign 53 s t 0 1074)
fields s (suc x) t h = rw (ne_eqb (suc x) 2047 h) (odd_sign 53 s (2 ^ 52 + t) x 1074)

bits : (b : ℕ) → (field_of b ≡ 2047 → ⊥) → HasValue (of_bits binary64 b) (sign_of b) (field_units (field_of b) (digits_of b)) (2 ^ 1074)
unfolding of_bits
bits b h = fields (sign_of b) (field_of b) (digits_of b) h

-- the statement, of any 64 bits
pub units_of_bits : UnitsOfBits
units_of_bits = record {
  over_is = λ b h. over_value (of_bits binary64 b) (sign_of b) (field_units (field_of b) (digits_of b)) (bits b h);
  under_is = λ b h. under_value (of_bits binary64 b) (sign_of b) (field_units (field_of b) (digits_of b)) (bits b h);
}
