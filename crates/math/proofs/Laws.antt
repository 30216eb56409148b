-- Laws of `hypot` for other crates: it is at least each operand's magnitude, has no sign, goes by the magnitudes alone, and is NaN only beside a NaN.
-- Assumes nothing.
use mathlib.Core.Path.{◌≡◌, refl, sym, ap, ◌∙◌, subst}
use mathlib.Core.Bool.{Bool, true, false, true≢false, ◌&&◌, ◌||◌}
use Prim.Native.Nat.{ℕ, ◌+◌, ◌*◌, ◌^◌, ◌≤◌, ◌<◌}
use native.Mathlib.Nat.{le_trans, le_of_lt, le_of_eq, not-le_of_lt, mul-le-mul_right, le-add_right}
use native.Mathlib.Omega.{arith}
use lib.Dec.{T, ltb, eqb}
use lib.Pow.{pow_pos}
use lib.Ieee.{Float, nan, inf, fin, binary64, up, down, lt, le, eq, neg, fits, is_nan}
use lib.Ieee.Exact.{HasValue}
use lib.Ieee.Fits.{down_pos}
use lib.Ieee.Bits.{is_true}
use lib.Ieee.Order.{le_of_values}
use lib.Ieee.Positive.{through}
use borrow.Author.Tests.{ltb-true, ltb-false, le-ltb, eqb-true}
use Rattle.math.specs.Number.{abs}
use Rattle.hypotenuse.specs.Hypot.{hypot, count}
use Rattle.hypotenuse.specs.Nearest.{Held, NearestRoot, Rounds, past, near}
use Rattle.hypotenuse.proofs.Poly.{poly}
use Rattle.hypotenuse.proofs.Order.{sq_mono, le_of_not_lt}
use Rattle.math.proofs.Values.{hypot_swap}
use Rattle.hypotenuse.proofs.Units.{count_exact, double_held}
use Rattle.hypotenuse.proofs.Overflow.{round_root_rounds}

-- ---- what a rounded root is: a double whose square is at most s is at most the rounded root of s
pub root_reaches : {s q k : ℕ} (Z : ℕ) → Held Z → Z * Z ≤ s → NearestRoot s q k → Z ≤ q * 2 ^ k
root_reaches {s} {q} {k} Z h l n = le_of_not_lt (λ (g : q * 2 ^ k < Z). not-le_of_lt (sq_mono (plus Z g)) (le_trans (four Z l) (n.above Z h g)))
  where
    plus : (c : ℕ) {a b : ℕ} → a < b → a + c < b + c
    plus c h = omega arith

    four : (Z : ℕ) → Z * Z ≤ s → (Z + Z) * (Z + Z) ≤ 4 * s
    four Z h = simp poly (omega arith)

below_infinity : (z : Float) (c : ℕ) → HasValue z false c (2 ^ 1074) → le z (inf false) ≡ true
unfolding le lt
below_infinity nan c v = absurd v
below_infinity (inf s) c v = absurd v
below_infinity (fin s m e) c v = refl

rounds_reach : (z r : Float) (c : ℕ) {s : ℕ} → HasValue z false c (2 ^ 1074) → Held c → c * c ≤ s → Rounds s r → le z r ≡ true
rounds_reach z r c v h l (past _ e) = ap (le z) e ∙ below_infinity z c v
rounds_reach z r c v h l (near q k _ w n) =
    is_true (le z r) (le_of_values z r c (2 ^ 1074) (q * 2 ^ k) (2 ^ 1074) (pow_pos 1074) (pow_pos 1074) v w (mul-le-mul_right (2 ^ 1074) (root_reaches c h l n)))

rounds_number : {s : ℕ} (r : Float) → Rounds s r → (is_nan r ≡ false) × (abs r ≡ r)
unfolding is_nan abs
rounds_number r (past _ e) = (ap is_nan e, ap abs e ∙ sym e)
rounds_number r (near q k _ v n) = valued r (q * 2 ^ k) v
  where
    valued : (r : Float) (a : ℕ) → HasValue r false a (2 ^ 1074) → (is_nan r ≡ false) × (abs r ≡ r)
    valued nan a v = absurd v
    valued (inf s) a v = absurd v
    valued (fin s m e) a v = (refl, ap (λ (t : Bool). fin t m e) (sym v.0))

-- ---- the operands' order, signs and NaNs
pub hypot_abs : (x y : Float) → hypot (abs x) y ≡ hypot x y
unfolding hypot abs
hypot_abs nan y = refl
hypot_abs (inf s) y = refl
hypot_abs (fin s m e) nan = refl
hypot_abs (fin s m e) (inf t) = refl
hypot_abs (fin s m e) (fin t n d) = refl

pub hypot_neg : (x y : Float) → hypot (neg x) y ≡ hypot x y
unfolding hypot neg
hypot_neg nan y = refl
hypot_neg (inf s) y = refl
hypot_neg (fin s m e) nan = refl
hypot_neg (fin s m e) (inf t) = refl
hypot_neg (fin s m e) (fin t n d) = refl

pub hypot_number : (x y : Float) → is_nan x ≡ false → is_nan y ≡ false → is_nan (hypot x y) ≡ false
unfolding hypot is_nan
hypot_number nan y f g = absurd (true≢false f)
hypot_number (inf s) y f g = refl
hypot_number (fin s m e) nan f g = absurd (true≢false g)
hypot_number (fin s m e) (inf t) f g = refl
hypot_number (fin s m e) (fin t n d) f g = (rounds_number _ (round_root_rounds (count m e * count m e + count n d * count n d))).0

pub hypot_unsigned : (x y : Float) → abs (hypot x y) ≡ hypot x y
unfolding hypot abs
hypot_unsigned nan nan = refl
hypot_unsigned nan (inf t) = refl
hypot_unsigned nan (fin t n d) = refl
hypot_unsigned (inf s) y = refl
hypot_unsigned (fin s m e) nan = refl
hypot_unsigned (fin s m e) (inf t) = refl
hypot_unsigned (fin s m e) (fin t n d) = (rounds_number _ (round_root_rounds (count m e * count m e + count n d * count n d))).1

-- ---- at least each operand's magnitude
pub hypot_left : (x y : Float) → T (fits binary64 x) → is_nan x ≡ false → is_nan y ≡ false → le (abs x) (hypot x y) ≡ true
unfolding hypot abs is_nan le lt eq
hypot_left nan y f p q = absurd (true≢false p)
hypot_left (inf s) y f p q = refl
hypot_left (fin s m e) nan f p q = absurd (true≢false q)
hypot_left (fin s m e) (inf t) f p q = refl
hypot_left (fin s m e) (fin t n d) f p q =
    rounds_reach (fin false m e) _ (count m e) (refl, (count_exact s m e f).1) (double_held s m e f) (le-add_right (count m e * count m e) (count n d * count n d)) (round_root_rounds (count m e * count m e + count n d * count n d))

pub hypot_right : (x y : Float) → T (fits binary64 y) → is_nan x ≡ false → is_nan y ≡ false → le (abs y) (hypot x y) ≡ true
hypot_right x y f p q = ap (le (abs y)) (hypot_swap x y) ∙ hypot_left y x f q p

-- ---- so where a magnitude is not below b, the hypot is not below b
pub lt_infinity : (b : Float) → lt (inf false) b ≡ false
unfolding lt
lt_infinity nan = refl
lt_infinity (inf t) = refl
lt_infinity (fin t n d) = refl

pub or_le : (a b : ℕ) → (ltb a b || (eqb a b && true)) ≡ true → a ≤ b
or_le a b h = go (ltb a b) (eqb a b) refl refl h
  where
    go : (p q : Bool) → ltb a b ≡ p → eqb a b ≡ q → (p || (q && true)) ≡ true → a ≤ b
    go true q e d h = le_of_lt (ltb-true a b e)
    go false true e d h = le_of_eq (eqb-true a b d)
    go false false e d h = absurd (true≢false (sym h))

not_below : (v h b : Float) → le (abs v) (abs h) ≡ true → lt (abs v) b ≡ false → lt (abs h) b ≡ false
unfolding abs le lt eq
not_below v nan b l g = refl
not_below v (inf s) b l g = lt_infinity b
not_below nan (fin t n d) b l g = absurd (true≢false (sym l))
not_below (inf s) (fin t n d) b l g = absurd (true≢false (sym l))
not_below (fin s m e) (fin t n d) nan l g = refl
not_below (fin s m e) (fin t n d) (inf u) l g = g
not_below (fin s m e) (fin t n d) (fin true k c) l g = refl
not_below (fin s m e) (fin t n d) (fin false k c) l g =
    le-ltb (n * up d * down c) (k * up c * down d)
    (through (k * up c) (m * up e) (n * up d) (down c) (down e) (down d) (down_pos e) (ltb-false (m * up e * down c) (k * up c * down e) g) (or_le (m * up e * down d) (n * up d * down e) l))

numbers_not_below : (x y b : Float) → T (fits binary64 x) → is_nan x ≡ false → is_nan y ≡ false → lt (abs x) b ≡ false → lt (hypot x y) b ≡ false
numbers_not_below x y b f p q g =
    subst (λ (h : Float). lt h b ≡ false) (hypot_unsigned x y) (not_below x (hypot x y) b (ap (le (abs x)) (hypot_unsigned x y) ∙ hypot_left x y f p q) g)

pub hypot_not_below : (x y b : Float) → T (fits binary64 x) → lt (abs x) b ≡ false → lt (hypot x y) b ≡ false
unfolding hypot lt is_nan
hypot_not_below nan nan b f g = refl
hypot_not_below nan (inf t) b f g = lt_infinity b
hypot_not_below nan (fin t n d) b f g = refl
hypot_not_below (inf s) y b f g = lt_infinity b
hypot_not_below (fin s m e) nan b f g = refl
hypot_not_below (fin s m e) (inf t) b f g = lt_infinity b
hypot_not_below (fin s m e) (fin t n d) b f g = numbers_not_below (fin s m e) (fin t n d) b f refl refl g
