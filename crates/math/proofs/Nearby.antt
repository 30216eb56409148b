-- How far a rounded fraction lies from the fraction: half a unit of its last place, which is 2 ^ -53 of it, or
-- half the smallest double. Assumes nothing.
use mathlib.Core.Path.{◌≡◌, refl, sym, ap, ◌∙◌}
use mathlib.Core.Bool.{not}
use Prim.Native.Nat.{ℕ, zero, suc, ◌+◌, ◌-◌, ◌*◌, ◌/◌, ◌%◌, ◌^◌, ◌≤◌, ◌<◌, compare, Ordering}
use native.Mathlib.Nat.{le_trans, le_of_eq, mul_assoc, mul_comm, mul-le-mul_right, div-add-mod', mod-lt, mul-pos, div-mul-le_self}
use native.Mathlib.Omega.{arith}
use lib.Dec.{T, is_le, compare_is_eq, leb→le, nleb→lt, eqb→eq}
use lib.Pow.{pow-add, pow_pos}
use lib.Ieee.{size, nearest}
use lib.Ieee.Digits.{size_reaches}
use lib.Ieee.Nearest.{closest}
use lib.Ieee.Order.{drop, kept}

-- x * u lies within half of u from n
record Within (x n u : ℕ) : Type 0 where
  above : 2 * (x * u) ≤ 2 * n + u
  below : 2 * n ≤ 2 * (x * u) + u

closest_near : (n u : ℕ) → 0 < u → Within (closest n u) n u
closest_near n u U = go (compare (n % u * 2) u) (leb→le (n % u * 2) u) (nleb→lt (n % u * 2) u) (eqb→eq (n % u * 2) u)
  where
    is : n / u * u + n % u ≡ n
    is = div-add-mod' n u

    lt : n % u < u
    lt = mod-lt n U

    tie : (q r m : ℕ) → q % 2 ≡ m → q * u + r ≡ n → r * 2 ≡ u → Within (q + m) n u
    tie q r zero w e h = record { above = omega arith; below = omega arith }
    tie q r (suc zero) w e h = record { above = omega arith; below = omega arith }
    tie q r (suc (suc m)) w e h = absurd (no q m w)
      where
        no : (q m : ℕ) → q % 2 ≡ suc (suc m) → ⊥
        no q m w = omega arith

    low : (q r : ℕ) → q * u + r ≡ n → r * 2 ≤ u → Within q n u
    low q r e h = record { above = omega arith; below = omega arith }

    high : (q r : ℕ) → q * u + r ≡ n → r < u → u < r * 2 → Within (suc q) n u
    high q r e l h = record { above = omega arith; below = omega arith }

    go : (o : Ordering) → (T (is_le o) → n % u * 2 ≤ u) → (T (not (is_le o)) → u < n % u * 2) → (T (compare_is_eq o) → n % u * 2 ≡ u) → Within (nearest (n / u) o) n u
    go Ordering.lt a b c = low (n / u) (n % u) is (a tt)
    go Ordering.eq a b c = tie (n / u) (n % u) (n / u % 2) refl is (c tt)
    go Ordering.gt a b c = high (n / u) (n % u) is lt (b tt)

-- the unit of the last place, 2 ^ drop, is 2 ^ -52 of the fraction at most, or 1
place_small : (w : ℕ) → 2 ^ 52 * 2 ^ (size w - 53) ≤ w + 2 ^ 52
place_small w = go (size w - 53) refl
  where
    go : (k : ℕ) → size w - 53 ≡ k → 2 ^ 52 * 2 ^ k ≤ w + 2 ^ 52
    go zero e = omega arith
    go (suc k) e = le_trans (le_of_eq (sym (pow-add 2 52 (suc k)))) (le_trans (size_reaches w (52 + suc k) (omega arith)) (omega arith))

-- v * den lies within 2 ^ -53 of n, and half of den, from n
pub record Near (v n den : ℕ) : Type 0 where
  pub above : 2 ^ 53 * (v * den) ≤ 2 ^ 53 * n + n + 2 ^ 52 * den
  pub below : 2 ^ 53 * n ≤ 2 ^ 53 * (v * den) + n + 2 ^ 52 * den

-- the fraction n / den rounded to 53 binary digits
pub grid_near : (n den : ℕ) → 0 < den → Near (kept 53 n den * 2 ^ drop 53 n den) n den
grid_near n den D =
    let k = drop 53 n den in
    let u = den * 2 ^ k in
    let w = closest_near n u (mul-pos D (pow_pos k)) in
    let q = kept 53 n den in
    let e : q * 2 ^ k * den ≡ q * u = mul_assoc q (2 ^ k) den ∙ ap (λ (x : ℕ). q * x) (mul_comm (2 ^ k) den) in
    let p : 2 ^ 52 * 2 ^ k * den ≤ (n / den + 2 ^ 52) * den = mul-le-mul_right den (place_small (n / den)) in
    let f = finish (q * 2 ^ k * den) (q * u) n u den (n / den) (2 ^ k) e refl w.above w.below p (div-mul-le_self n den) in
    record { above = f.0; below = f.1 }
  where
    finish : (v x n u den y K : ℕ) → v ≡ x → u ≡ den * K → 2 * x ≤ 2 * n + u → 2 * n ≤ 2 * x + u → 2 ^ 52 * K * den ≤ (y + 2 ^ 52) * den → y * den ≤ n
        → (2 ^ 53 * v ≤ 2 ^ 53 * n + n + 2 ^ 52 * den) × (2 ^ 53 * n ≤ 2 ^ 53 * v + n + 2 ^ 52 * den)
    finish v x n u den y K e f a b p q = (omega arith, omega arith)
