-- A finite double is a whole number of units, of at most 53 binary digits with zeros after them. Assumes nothing.
use mathlib.Core.Path.{◌≡◌, refl, sym, ap, ◌∙◌, subst}
use mathlib.Core.Bool.{Bool, ◌&&◌}
use Prim.Native.Nat.{ℕ, zero, suc, ◌+◌, ◌-◌, ◌*◌, ◌/◌, ◌%◌, ◌^◌, ◌≤◌, ◌<◌}
use native.Mathlib.Nat.{mul_assoc, mul-one, mul-div_cancel, not-le_of_lt}
use native.Mathlib.Omega.{arith}
use lib.Dec.{T, leb, leb→le, ltb, ltb→lt, eqb}
use lib.Pow.{pow-add, pow-lt}
use lib.IntN.{ℤ, pos, negsuc}
use lib.Ieee.{fin, binary64, up, down, fits}
use lib.Ieee.Exact.{HasValue}
use lib.Ieee.Fits.{down_pos, and_l, and_r}
use Rattle.hypotenuse.specs.Hypot.{count}
use Rattle.hypotenuse.specs.Nearest.{Held}
use Rattle.hypotenuse.proofs.Order.{le_of_not_lt}

-- m * 2 ^ e in units: m, which is below 2 ^ 53, with j zeros after it
record Scaled (m : ℕ) (e : ℤ) : Type 0 where
  j : ℕ
  is : m * up e * 2 ^ 1074 ≡ m * 2 ^ j * down e
  small : m < 2 ^ 53

-- what `fits` says of a number other than 0: its digits, and its lowest place
fits_parts : (s : Bool) (m : ℕ) (e : ℤ) → T (fits binary64 (fin s (suc m) e)) → (suc m < 2 ^ 53) × (down e ≤ 2 ^ 1074)
unfolding fits
fits_parts s m e f =
    let a = eqb (suc m % 2) 1 in
    let b = ltb (suc m) (2 ^ 53) in
    let c = leb (down e) (2 ^ 1074) in
    let g = and_l (a && b && c) (ltb (suc m * up e) (2 ^ 1024 * down e)) f in
    (ltb→lt (suc m) (2 ^ 53) (and_r a b (and_l (a && b) c g)), leb→le (down e) (2 ^ 1074) (and_r (a && b) c g))

scaled : (s : Bool) (m : ℕ) (e : ℤ) → T (fits binary64 (fin s m e)) → Scaled m e
scaled s zero e f = record { j = 0; is = nothing (up e) (2 ^ 1074) (down e); small = omega arith }
  where
    nothing : (u p d : ℕ) → 0 * u * p ≡ 0 * 1 * d
    nothing u p d = omega arith
scaled s (suc m) (pos k) f = record {
  j = k + 1074;
  is = mul_assoc (suc m) (2 ^ k) (2 ^ 1074) ∙ ap (λ (x : ℕ). suc m * x) (sym (pow-add 2 k 1074)) ∙ sym (mul-one (suc m * 2 ^ (k + 1074)));
  small = (fits_parts s m (pos k) f).0;
}
scaled s (suc m) (negsuc k) f = record {
  j = 1074 - suc k;
  is = ap (λ (x : ℕ). x * 2 ^ 1074) (mul-one (suc m)) ∙ ap (λ (x : ℕ). suc m * x) (ap (λ (x : ℕ). 2 ^ x) (back k low) ∙ pow-add 2 (1074 - suc k) (suc k)) ∙ sym (mul_assoc (suc m) (2 ^ (1074 - suc k)) (2 ^ suc k));
  small = (fits_parts s m (negsuc k) f).0;
}
  where
    low : suc k ≤ 1074
    low = le_of_not_lt (λ (h : 1074 < suc k). not-le_of_lt (pow-lt h) (fits_parts s m (negsuc k) f).1)

    back : (k : ℕ) → suc k ≤ 1074 → 1074 ≡ 1074 - suc k + suc k
    back k h = omega arith

-- a size in units is the definition's count
pub count_of : (s t : Bool) (m : ℕ) (e : ℤ) (a : ℕ) → HasValue (fin s m e) t a (2 ^ 1074) → a ≡ count m e
count_of s t m e a h = sym (ap (λ (x : ℕ). x / down e) h.1 ∙ mul-div_cancel a (down_pos e))

count_is : (s : Bool) (m : ℕ) (e : ℤ) (f : T (fits binary64 (fin s m e))) → m * 2 ^ (scaled s m e f).j ≡ count m e
count_is s m e f = count_of s s m e (m * 2 ^ (scaled s m e f).j) (refl, (scaled s m e f).is)

-- the count is the size, with no remainder
pub count_exact : (s : Bool) (m : ℕ) (e : ℤ) → T (fits binary64 (fin s m e)) → HasValue (fin s m e) s (count m e) (2 ^ 1074)
count_exact s m e f = (refl, subst (λ (a : ℕ). m * up e * 2 ^ 1074 ≡ a * down e) (count_is s m e f) (scaled s m e f).is)

pub double_held : (s : Bool) (m : ℕ) (e : ℤ) → T (fits binary64 (fin s m e)) → Held (count m e)
double_held s m e f = (m, (scaled s m e f).j, (sym (count_is s m e f), omega (arith, (scaled s m e f).small)))
