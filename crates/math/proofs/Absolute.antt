-- A double without its sign and with the other one, and the test of a finite one. Assumes nothing.
use mathlib.Core.Path.{◌≡◌, refl, sym, ap, ◌∙◌}
use mathlib.Core.Bool.{Bool, true, false, not, ◌&&◌, not-not}
use Prim.Native.Nat.{ℕ, ◌%◌, ◌^◌, ◌<◌}
use native.Mathlib.Omega.{arith}
use lib.Dec.{T}
use lib.IntN.{ℤ}
use lib.Ieee.{Float, nan, inf, fin, binary64, lt, neg, fits, is_nan, to_bits, of_bits}
use lib.Ieee.Fits.{neg-fits}
use lib.Ieee.Bits.{of_bits-to_bits}
use borrow.Author.Tests.{leb-false}
use Rattle.math.specs.Number.{abs, finite, infinity}
use Rattle.math.proofs.Values.{value_fin}

pub finite_test : (x : Float) → (lt x infinity && lt (neg infinity) x) ≡ finite x
unfolding lt neg of_bits finite
finite_test nan = refl
finite_test (inf true) = refl
finite_test (inf false) = refl
finite_test (fin s m e) = refl

pub abs_nan : (x : Float) → x ≡ nan → x ≡ abs x
unfolding abs
abs_nan x e = rw e refl

-- the sign swapped twice
pub neg_neg : (x : Float) → neg (neg x) ≡ x
unfolding neg
neg_neg nan = refl
neg_neg (inf s) = ap inf (not-not s)
neg_neg (fin s m e) = ap (λ (b : Bool). fin b m e) (not-not s)

-- ---- the pattern of a finite double: the sign, and then that of its absolute value

unsigned_fits : (s : Bool) (m : ℕ) (e : ℤ) → T (fits binary64 (fin s m e)) → T (fits binary64 (fin false m e))
unfolding neg
unsigned_fits false m e f = f
unsigned_fits true m e f = neg-fits binary64 (fin true m e) f

unsigned_lt : (m : ℕ) (e : ℤ) → T (fits binary64 (fin false m e)) → to_bits binary64 (fin false m e) < 2 ^ 63
unsigned_lt m e f = leb-false (2 ^ 63) (to_bits binary64 (fin false m e)) (sym (value_fin false m e f).0)

signed : (s : Bool) (m : ℕ) (e : ℤ) → to_bits binary64 (fin false m e) < 2 ^ 63 → to_bits binary64 (fin s m e) % 2 ^ 63 ≡ to_bits binary64 (fin false m e)
unfolding to_bits
signed false m e l = omega arith
signed true m e l = omega arith

unsigned_inf : (s : Bool) → of_bits binary64 (to_bits binary64 (inf s) % 2 ^ 63) ≡ inf false
unfolding to_bits of_bits
unsigned_inf true = refl
unsigned_inf false = refl

pub abs_bits : (x : Float) → T (fits binary64 x) → T (not (is_nan x)) → of_bits binary64 (to_bits binary64 x % 2 ^ 63) ≡ abs x
unfolding abs is_nan
abs_bits nan f n = absurd n
abs_bits (inf s) f n = unsigned_inf s
abs_bits (fin s m e) f n =
    let g : T (fits binary64 (fin false m e)) = unsigned_fits s m e f in
    ap (of_bits binary64) (signed s m e (unsigned_lt m e g)) ∙ of_bits-to_bits binary64 (fin false m e) g
