-- What a pattern says of the double it stands for, and the cases of `hypot`. Assumes nothing.
use mathlib.Core.Path.{◌≡◌, refl, sym, ap, ◌∙◌, subst}
use mathlib.Core.Logic.{◌⊎◌, inl, inr}
use mathlib.Core.Bool.{Bool, true, false, not, cond}
use Prim.Native.Nat.{ℕ, zero, suc, ◌+◌, ◌-◌, ◌*◌, ◌/◌, ◌%◌, ◌^◌, ◌≤◌, ◌<◌, min}
use native.Mathlib.Nat.{eq-or-lt_of_le, add_comm}
use native.Mathlib.Omega.{arith}
use lib.Dec.{T, leb, ltb, eqb, eqb→eq, not_T, nltb→le}
use lib.Pow.{mod-mod-pow}
use lib.IntN.{ℤ}
use lib.Ieee.{Float, nan, inf, fin, binary64, odd, of_fields, of_bits, to_bits, fits, is_nan, nan_bits, ne, div}
use lib.Ieee.Exact.{HasValue, odd_sign}
use lib.Ieee.Bits.{of_bits-to_bits, nan_bits_is, nan_bits_above, cond_no}
use lib.Ieee.Compare.{differs_from_itself}
use borrow.Author.Tests.{ltb-true, ltb-false}
use Rattle.hypotenuse.proofs.Units.{count_of}
use Rattle.hypotenuse.specs.Hypot.{hypot, round_root, count}
use Rattle.math.specs.Parts.{Larger, units_of}

-- ---- the fields of a pattern
fields_value : (s : Bool) (x t : ℕ) → x < 2047 → HasValue (of_fields binary64 s x t) s ((t + min x 1 * 2 ^ 52) * 2 ^ (x - 1)) (2 ^ 1074)
unfolding of_fields
fields_value s zero t h = subst (λ (q : ℕ). HasValue (odd 53 s t 0 1074) s (q * 2 ^ 0) (2 ^ 1074)) (plus t) (odd_sign 53 s t 0 1074)
  where
    plus : (t : ℕ) → t ≡ t + 0
    plus t = omega arith
fields_value s (suc x) t h =
    subst (λ (v : Float). HasValue v s ((t + min (suc x) 1 * 2 ^ 52) * 2 ^ (suc x - 1)) (2 ^ 1074))
    (sym (cond_no (eqb (suc x) 2047) (cond (eqb t 0) (inf s) nan) (odd 53 s (2 ^ 52 + t) x 1074) (not_T (eqb (suc x) 2047) (λ (y : T (eqb (suc x) 2047)). other (eqb→eq (suc x) 2047 y)))))
    (subst (λ (q : ℕ). HasValue (odd 53 s (2 ^ 52 + t) x 1074) s (q * 2 ^ (suc x - 1)) (2 ^ 1074)) (digits x t)
    (subst (λ (k : ℕ). HasValue (odd 53 s (2 ^ 52 + t) x 1074) s ((2 ^ 52 + t) * 2 ^ k) (2 ^ 1074)) (less x) (odd_sign 53 s (2 ^ 52 + t) x 1074)))
  where
    other : suc x ≡ 2047 → ⊥
    other e = omega arith

    digits : (x t : ℕ) → 2 ^ 52 + t ≡ t + min (suc x) 1 * 2 ^ 52
    digits x t = omega arith

    less : (x : ℕ) → x ≡ suc x - 1
    less x = omega arith

pub value_of : (b : ℕ) → b % 2 ^ 63 < 2047 * 2 ^ 52 → HasValue (of_bits binary64 b) (leb (2 ^ 63) b) (units_of (b % 2 ^ 63)) (2 ^ 1074)
unfolding of_bits units_of
value_of b h =
    subst (λ (t : ℕ). HasValue (of_fields binary64 (leb (2 ^ 63) b) (b % 2 ^ 63 / 2 ^ 52) (b % 2 ^ 52)) (leb (2 ^ 63) b) ((t + min (b % 2 ^ 63 / 2 ^ 52) 1 * 2 ^ 52) * 2 ^ (b % 2 ^ 63 / 2 ^ 52 - 1)) (2 ^ 1074))
    (sym (mod-mod-pow b 11 52))
    (fields_value (leb (2 ^ 63) b) (b % 2 ^ 63 / 2 ^ 52) (b % 2 ^ 52) (field (b % 2 ^ 63) h))
  where
    field : (c : ℕ) → c < 2047 * 2 ^ 52 → c / 2 ^ 52 < 2047
    field c h = omega arith

infinite_of : (b : ℕ) → b % 2 ^ 63 ≡ 2047 * 2 ^ 52 → of_bits binary64 b ≡ inf (leb (2 ^ 63) b)
unfolding of_bits of_fields
infinite_of b h =
    ap (λ (x : ℕ). of_fields binary64 (leb (2 ^ 63) b) (x / 2 ^ 52) (b % 2 ^ 52)) h
    ∙ ap (λ (t : ℕ). of_fields binary64 (leb (2 ^ 63) b) 2047 t) (sym (mod-mod-pow b 11 52) ∙ ap (λ (x : ℕ). x % 2 ^ 52) h)

-- ---- the magnitude of a double
pub magnitude_le : (v : Float) → T (fits binary64 v) → T (not (is_nan v)) → to_bits binary64 v % 2 ^ 63 ≤ 2047 * 2 ^ 52
magnitude_le v f n =
    nltb→le (2047 * 2 ^ 52) (to_bits binary64 v % 2 ^ 63)
    (subst (λ (b : Bool). T (not b)) (ap is_nan (sym (of_bits-to_bits binary64 v f)) ∙ sym (nan_bits_is binary64 (to_bits binary64 v)) ∙ nan_bits_above binary64 (to_bits binary64 v)) n)

pub magnitude_inf : (s : Bool) → to_bits binary64 (inf s) % 2 ^ 63 ≡ 2047 * 2 ^ 52
unfolding to_bits
magnitude_inf true = refl
magnitude_inf false = refl

isInf : Float → Bool
isInf nan = false
isInf (inf s) = true
isInf (fin s m e) = false

magnitude_lt : (s : Bool) (m : ℕ) (e : ℤ) → T (fits binary64 (fin s m e)) → to_bits binary64 (fin s m e) % 2 ^ 63 < 2047 * 2 ^ 52
unfolding is_nan isInf
magnitude_lt s m e f = go (eq-or-lt_of_le (magnitude_le (fin s m e) f tt))
  where
    b : ℕ
    b = to_bits binary64 (fin s m e)

    go : (b % 2 ^ 63 ≡ 2047 * 2 ^ 52) ⊎ (b % 2 ^ 63 < 2047 * 2 ^ 52) → b % 2 ^ 63 < 2047 * 2 ^ 52
    go (inl q) = absurd (subst T (sym (ap isInf (sym (of_bits-to_bits binary64 (fin s m e) f) ∙ infinite_of b q))) tt)
    go (inr l) = l

pub value_fin : (s : Bool) (m : ℕ) (e : ℤ) → T (fits binary64 (fin s m e))
    → HasValue (fin s m e) (leb (2 ^ 63) (to_bits binary64 (fin s m e))) (units_of (to_bits binary64 (fin s m e) % 2 ^ 63)) (2 ^ 1074)
value_fin s m e f = subst (λ (v : Float). HasValue v (leb (2 ^ 63) b) (units_of (b % 2 ^ 63)) (2 ^ 1074)) (of_bits-to_bits binary64 (fin s m e) f) (value_of b (magnitude_lt s m e f))
  where
    b : ℕ
    b = to_bits binary64 (fin s m e)

pub magnitude_fin : (s : Bool) (m : ℕ) (e : ℤ) → T (fits binary64 (fin s m e))
    → (to_bits binary64 (fin s m e) % 2 ^ 63 < 2047 * 2 ^ 52) × (units_of (to_bits binary64 (fin s m e) % 2 ^ 63) ≡ count m e)
magnitude_fin s m e f = (magnitude_lt s m e f, count_of s _ m e _ (value_fin s m e f))

-- ---- a pattern up to that of infinity is no NaN's
pub no_nan : (r : ℕ) → r ≤ 2047 * 2 ^ 52 → T (not (nan_bits binary64 r))
no_nan r h = subst (λ (b : Bool). T (not b)) (sym (nan_bits_above binary64 r)) (not_T (ltb (2047 * 2 ^ 52) (r % 2 ^ 63)) (λ (y : T (ltb (2047 * 2 ^ 52) (r % 2 ^ 63))). clash r h (lib.Dec.ltb→lt (2047 * 2 ^ 52) (r % 2 ^ 63) y)))
  where
    clash : (r : ℕ) → r ≤ 2047 * 2 ^ 52 → 2047 * 2 ^ 52 < r % 2 ^ 63 → ⊥
    clash r h l = omega arith

pub ofBits_inf : of_bits binary64 (2047 * 2 ^ 52) ≡ inf false
unfolding of_bits
ofBits_inf = refl

-- ---- a test `x != x`
pub same_no_nan : (x : Float) → ne x x ≡ false → T (not (is_nan x))
unfolding ne is_nan
same_no_nan nan h = subst T h tt
same_no_nan (inf s) h = tt
same_no_nan (fin s m e) h = tt

pub differs_nan : (x : Float) → ne x x ≡ true → x ≡ nan
differs_nan x h = differs_from_itself x (subst T (sym h) tt)

-- ---- the cases of `hypot`
pub hypot_swap : (x y : Float) → hypot x y ≡ hypot y x
unfolding hypot
hypot_swap nan nan = refl
hypot_swap nan (inf t) = refl
hypot_swap nan (fin t n d) = refl
hypot_swap (inf s) nan = refl
hypot_swap (inf s) (inf t) = refl
hypot_swap (inf s) (fin t n d) = refl
hypot_swap (fin s m e) nan = refl
hypot_swap (fin s m e) (inf t) = refl
hypot_swap (fin s m e) (fin t n d) = ap (round_root binary64) (add_comm (count m e * count m e) (count n d * count n d))

hypot_larger : (x y r : Float) → T (fits binary64 x) → T (fits binary64 y) → T (not (is_nan x)) → T (not (is_nan y))
    → to_bits binary64 y % 2 ^ 63 ≤ to_bits binary64 x % 2 ^ 63 → Larger (to_bits binary64 x % 2 ^ 63) (to_bits binary64 y % 2 ^ 63) r → r ≡ hypot x y
unfolding hypot is_nan
hypot_larger nan y r f g n k l w = absurd n
hypot_larger (inf s) nan r f g n k l w = absurd k
hypot_larger (inf s) (inf t) r f g n k l w = w.infinite (magnitude_inf s)
hypot_larger (inf s) (fin t j d) r f g n k l w = w.infinite (magnitude_inf s)
hypot_larger (fin s m e) nan r f g n k l w = absurd k
hypot_larger (fin s m e) (inf t) r f g n k l w = absurd (clash (magnitude_inf t) (magnitude_fin s m e f).0 l)
  where
    clash : {a b : ℕ} → b ≡ 2047 * 2 ^ 52 → a < 2047 * 2 ^ 52 → b ≤ a → ⊥
    clash p q r = omega arith
hypot_larger (fin s m e) (fin t j d) r f g n k l w =
    w.finite (magnitude_fin s m e f).0
    ∙ ap (λ (u : ℕ). round_root binary64 (u * u + units_of b * units_of b)) (magnitude_fin s m e f).1
    ∙ ap (λ (u : ℕ). round_root binary64 (count m e * count m e + u * u)) (magnitude_fin t j d g).1
  where
    b : ℕ
    b = to_bits binary64 (fin t j d) % 2 ^ 63

-- the magnitudes in order, as a test picks them
module _ (x y : Float) (a b : ℕ) (f : T (fits binary64 x)) (g : T (fits binary64 y)) (n : T (not (is_nan x))) (k : T (not (is_nan y))) (p : a ≡ to_bits binary64 x % 2 ^ 63) (q : b ≡ to_bits binary64 y % 2 ^ 63) where
  pub picked_order : (t : Bool) → ltb a b ≡ t → (cond t a b ≤ cond t b a) × (cond t b a ≤ 2047 * 2 ^ 52)
  picked_order true e = let l = ltb-true a b e in (omega arith, subst (λ (z : ℕ). z ≤ 2047 * 2 ^ 52) (sym q) (magnitude_le y g k))
  picked_order false e = (ltb-false a b e, subst (λ (z : ℕ). z ≤ 2047 * 2 ^ 52) (sym p) (magnitude_le x f n))

  pub picked_hypot : (t : Bool) (r : Float) → ltb a b ≡ t → Larger (cond t b a) (cond t a b) r → r ≡ hypot x y
  picked_hypot true r e w =
      let l : a ≤ b = (picked_order true e).0 in
      hypot_larger y x r g f k n (subst (λ (z : ℕ). z ≤ to_bits binary64 y % 2 ^ 63) p (subst (λ (z : ℕ). a ≤ z) q l))
      (subst (λ (z : ℕ). Larger (to_bits binary64 y % 2 ^ 63) z r) p (subst (λ (z : ℕ). Larger z a r) q w))
      ∙ hypot_swap y x
  picked_hypot false r e w =
      let l : b ≤ a = (picked_order false e).0 in
      hypot_larger x y r f g n k (subst (λ (z : ℕ). z ≤ to_bits binary64 x % 2 ^ 63) q (subst (λ (z : ℕ). b ≤ z) p l))
      (subst (λ (z : ℕ). Larger (to_bits binary64 x % 2 ^ 63) z r) q (subst (λ (z : ℕ). Larger z b r) p w))

pub hypot_nan_inf : (y : Float) → T (fits binary64 y) → T (not (is_nan y)) → to_bits binary64 y % 2 ^ 63 ≡ 2047 * 2 ^ 52 → inf false ≡ hypot nan y
unfolding hypot is_nan
hypot_nan_inf nan f n h = absurd n
hypot_nan_inf (inf s) f n h = refl
hypot_nan_inf (fin s m e) f n h = absurd (clash h (magnitude_fin s m e f).0)
  where
    clash : {a : ℕ} → a ≡ 2047 * 2 ^ 52 → a < 2047 * 2 ^ 52 → ⊥
    clash p q = omega arith

pub hypot_nan_fin : (y : Float) → T (not (is_nan y)) → (to_bits binary64 y % 2 ^ 63 ≡ 2047 * 2 ^ 52 → ⊥) → nan ≡ hypot nan y
unfolding hypot is_nan
hypot_nan_fin nan n h = refl
hypot_nan_fin (inf s) n h = absurd (h (magnitude_inf s))
hypot_nan_fin (fin s m e) n h = refl

pub hypot_nan_nan : (y : Float) → y ≡ nan → y ≡ hypot nan y
unfolding hypot
hypot_nan_nan y e = subst (λ (v : Float). v ≡ hypot nan v) (sym e) refl

pub hypot_nan_left : (x y : Float) → x ≡ nan → hypot nan y ≡ hypot x y
hypot_nan_left x y e = ap (λ (v : Float). hypot v y) (sym e)

pub zero_by_zero : div binary64 (of_bits binary64 0) (of_bits binary64 0) ≡ nan
unfolding div of_bits
zero_by_zero = refl
