-- The direction of a line through two points is small: a length is at least half of each of its sides.
use lib.Ieee
use mathlib.Core.Path.{◌≡◌, refl, sym, ap, ◌∙◌, subst}
use mathlib.Core.Logic.{◌≢◌}
use mathlib.Core.Bool.{Bool, true, false, cond, ◌&&◌, ◌||◌, beq, true≢false}
use mathlib.Mathlib.Data.Bool.Basic.{or_inr, and_intro}
use Prim.Native.Nat.{ℕ, zero, suc, ◌+◌, ◌-◌, ◌*◌, ◌/◌, ◌^◌, ◌≤◌, ◌<◌, compare, Ordering}
use native.Mathlib.Omega.{arith}
use native.Mathlib.Nat.{le_trans, le_of_eq, lt_of_lt_of_le, mul-le-mul, mul-le-mul_right, mul-pos, le_of_mul-le-mul_right, mul_right_comm, not-le_of_lt, div-lt_iff_lt-mul}
use native.Mathlib.Decide.{dec_le}
use lib.Dec.{leb, ltb, eqb}
use lib.IntN.{ℤ}
use lib.Pow.{pow_pos, pow_mono, pow-add}
use borrow.Author.Tests.{leb-false, eq-eqb, ne_eqb}
use lib.Ieee.{Float, nan, inf, fin, binary64, lt, le, eq, up, down, size, nearest, units, round, unlike}
use lib.Ieee.Digits.{size-lt}
use lib.Ieee.Fits.{up_pos, down_pos}
use lib.Ieee.Exact.{HasValue, odd_sign}
use lib.Ieee.Nearest.{nearest-ge}
use Rattle.math.specs.Number.{div, zero_float}
use Rattle.hypotenuse.specs.Hypot.{whole_root, dropped, kept, round_root, count, hypot}
use Rattle.hypotenuse.proofs.Whole.{four}
use Rattle.front.proofs.Demand.Small.{Small, round_small}

-- ---- the whole root: n is below the square of the next number

next_digit : (n r : ℕ) → n < (r + 1 + 1) * (r + 1 + 1) → n < suc (cond (leb ((r + 1) * (r + 1)) n) (r + 1) r) * suc (cond (leb ((r + 1) * (r + 1)) n) (r + 1) r)
next_digit n r h = go (leb ((r + 1) * (r + 1)) n) refl
  where
    go : (b : Bool) → leb ((r + 1) * (r + 1)) n ≡ b → n < suc (cond b (r + 1) r) * suc (cond b (r + 1) r)
    go true q = omega arith
    go false q = omega (arith, leb-false ((r + 1) * (r + 1)) n q)

root_above : (k n : ℕ) → n < 2 ^ (2 * k) → n < suc (whole_root k n) * suc (whole_root k n)
unfolding whole_root
root_above zero n h = omega arith
root_above (suc k) n h =
    let r : ℕ = 2 * whole_root k (n / 4) in
    let e : 2 ^ (2 * suc k) ≡ 4 * 2 ^ (2 * k) = four k in
    let i : n / 4 < suc (whole_root k (n / 4)) * suc (whole_root k (n / 4)) = root_above k (n / 4) (omega arith) in
    next_digit n r (next n (n / 4) (whole_root k (n / 4)) (omega arith) i)
  where
    next : (n q r : ℕ) → n < 4 * q + 4 → q < suc r * suc r → n < (2 * r + 1 + 1) * (2 * r + 1 + 1)
    next n q r a b = omega arith

-- ---- the root, rounded, in units

-- the places dropped leave 53 digits of the root
half_size : (z k : ℕ) → k ≡ (z + 1) / 2 - 53 → z ≤ 2 * (53 + k)
half_size z k q = omega arith

twice_sum : (k : ℕ) → 2 * (53 + k) ≡ 2 * 53 + 2 * k
twice_sum k = omega arith

kept_digits : (s : ℕ) → s / 2 ^ (2 * dropped binary64 s) < 2 ^ (2 * 53)
unfolding dropped
kept_digits s =
    let k : ℕ = (size s + 1) / 2 - 53 in
    (div-lt_iff_lt-mul (pow_pos (2 * k))).1
    (lt_of_lt_of_le (size-lt s) (le_trans (pow_mono (half_size (size s) k refl)) (le_of_eq (ap (λ (x : ℕ). 2 ^ x) (twice_sum k) ∙ pow-add 2 (2 * 53) (2 * k)))))

-- a side is less than the next root, in the root's own unit
side_below : (x s k q : ℕ) → x * x ≤ s → s / 2 ^ (2 * k) < suc q * suc q → x < suc q * 2 ^ k
side_below x s k q h i = go (dec_le (suc q * 2 ^ k) x)
  where
    two : (j : ℕ) → 2 * j ≡ j + j
    two j = omega arith

    square : (a b : ℕ) → a * a * (b * b) ≡ a * b * (a * b)
    square a b = omega arith

    under : s < suc q * 2 ^ k * (suc q * 2 ^ k)
    under = subst (λ (y : ℕ). s < y) (ap (λ (y : ℕ). suc q * suc q * y) (ap (λ (y : ℕ). 2 ^ y) (two k) ∙ pow-add 2 k k) ∙ square (suc q) (2 ^ k))
        ((div-lt_iff_lt-mul (pow_pos (2 * k))).0 i)

    go : Dec (suc q * 2 ^ k ≤ x) → x < suc q * 2 ^ k
    go (yes l) = absurd (not-le_of_lt under (le_trans (mul-le-mul l l) h))
    go (no l) = omega arith

-- the rounded root is infinite, or a number of units that is at least half of a side and a bit
abbrev pub LongEnough : ℕ → Float → Type 0
LongEnough x nan = ⊥
LongEnough x (inf s) = Unit {0}
LongEnough x (fin s n d) = (v : ℕ) × (n * up d * 2 ^ 1074 ≡ v * down d) × (0 < v → suc x ≤ v + v)

enough : (n q p x : ℕ) → q ≤ n → 0 < n * p → x < suc q * p → suc x ≤ n * p + n * p
enough zero q p x h i l = absurd (omega arith)
enough (suc n) q p x h i l = omega (arith, mul-le-mul_right p h)

of_value : (x v : ℕ) (z : Float) → HasValue z false v (2 ^ 1074) → (0 < v → suc x ≤ v + v) → LongEnough x z
of_value x v nan p h = absurd p
of_value x v (inf s) p h = absurd p
of_value x v (fin s m e) p h = (v, p.1, h)

units_long : (n k x : ℕ) → (0 < n * 2 ^ k → suc x ≤ n * 2 ^ k + n * 2 ^ k) → LongEnough x (units binary64 false n k)
unfolding units
units_long n k x h = go (ltb (n * 2 ^ k) (2 ^ (lib.Ieee.low binary64 + suc (lib.Ieee.emax binary64))))
  where
    go : (b : Bool) → LongEnough x (cond b (lib.Ieee.odd (suc (lib.Ieee.prec binary64)) false n k (lib.Ieee.low binary64)) (inf false))
    go true = of_value x (n * 2 ^ k) (lib.Ieee.odd (suc (lib.Ieee.prec binary64)) false n k (lib.Ieee.low binary64)) (odd_sign (suc (lib.Ieee.prec binary64)) false n k (lib.Ieee.low binary64)) h
    go false = tt

root_long : (x s : ℕ) → x * x ≤ s → LongEnough x (round_root binary64 s)
unfolding round_root kept
root_long x s h =
    let k : ℕ = dropped binary64 s in
    let q : ℕ = whole_root 53 (s / 2 ^ (2 * k)) in
    let o : Ordering = compare (4 * s) ((2 * q + 1) * (2 * q + 1) * 2 ^ (2 * k)) in
    units_long (nearest q o) k x (λ z. enough (nearest q o) q (2 ^ k) x (nearest-ge q o) z (side_below x s k q h (root_above 53 (s / 2 ^ (2 * k)) (kept_digits s))))

pub hypot_east : (s : Bool) (m : ℕ) (e : ℤ) (t : Bool) (n : ℕ) (d : ℤ) → LongEnough (count m e) (hypot (fin s m e) (fin t n d))
unfolding hypot
hypot_east s m e t n d = root_long (count m e) (count m e * count m e + count n d * count n d) (omega arith)

pub hypot_north : (s : Bool) (m : ℕ) (e : ℤ) (t : Bool) (n : ℕ) (d : ℤ) → LongEnough (count n d) (hypot (fin s m e) (fin t n d))
unfolding hypot
hypot_north s m e t n d = root_long (count n d) (count m e * count m e + count n d * count n d) (omega arith)

-- ---- a side over the length

ratio : (a d n e l v x : ℕ) → 0 < l → a * l < suc x * e → suc x ≤ v + v → n * l ≡ v * d → a * d ≤ 2 * (n * e)
ratio a d n e l v x p h i q =
    le_of_mul-le-mul_right {k = l}
    (le_trans (le_of_eq (mul_right_comm a d l))
    (le_trans (mul-le-mul_right d (le_trans (lower (a * l) (suc x * e) h) (mul-le-mul_right e i)))
    (le_of_eq (stage v e d ∙ ap (λ (y : ℕ). 2 * (y * e)) (sym q) ∙ back n l e))))
    p
  where
    lower : (y z : ℕ) → y < z → y ≤ z
    lower y z g = omega arith

    stage : (v e d : ℕ) → (v + v) * e * d ≡ 2 * (v * d * e)
    stage v e d = omega arith

    back : (n l e : ℕ) → 2 * (n * l * e) ≡ 2 * (n * e) * l
    back n l e = omega arith

-- the whole part of a side, in units
side_floor : (m : ℕ) (e : ℤ) → m * up e * 2 ^ 1074 < suc (count m e) * down e
side_floor m e = (div-lt_iff_lt-mul (down_pos e)).0 (omega arith)

above_zero : (t : Bool) (n : ℕ) (d : ℤ) → le (fin t n d) zero_float ≡ false → n ≢ 0
unfolding le lt eq lib.Ieee.of_bits
above_zero t n d q z = true≢false (sym all ∙ q)
  where
    a : ℕ
    a = n * up d * 1

    b : ℕ
    b = 0 * 1 * down d

    none : a ≡ 0
    none = ap (λ (x : ℕ). x * up d * 1) z ∙ omega arith

    nil : b ≡ 0
    nil = omega arith

    all : (lib.Ieee.below t a false b || (eqb a b && (beq t false || eqb a 0))) ≡ true
    all = or_inr (lib.Ieee.below t a false b) (eqb a b && (beq t false || eqb a 0))
        (and_intro (eq-eqb a b (none ∙ sym nil)) (or_inr (beq t false) (eqb a 0) (eq-eqb a 0 none)))

some_units : (v d n : ℕ) → n ≡ v * d → 0 < n → 0 < v
some_units zero d n q h = absurd (omega arith)
some_units (suc v) d n q h = omega arith

pub div_long : (s : Bool) (m : ℕ) (e : ℤ) (z : Float) → LongEnough (count m e) z → le z zero_float ≡ false → Small 1 (div (fin s m e) z)
unfolding lib.Ieee.div
div_long s m e nan h q = absurd h
div_long s m e (inf t) h q = omega arith
div_long s m e (fin t n d) h q =
    subst (λ (b : Bool). Small 1 (cond b (cond (eqb m 0) nan (inf (unlike s t))) r)) (sym (ne_eqb n 0 some))
    (round_small 1 (unlike s t) (m * up e * down d) (n * up d * down e) (omega arith) (mul-pos (mul-pos (omega (arith, some)) (up_pos d)) (down_pos e))
    (ratio (m * up e) (down d) (n * up d) (down e) (2 ^ 1074) h.0 (count m e) (pow_pos 1074) (side_floor m e) (h.2 v_pos) h.1))
  where
    r : Float
    r = round binary64 (unlike s t) (m * up e * down d) (n * up d * down e)

    some : n ≢ 0
    some = above_zero t n d q

    v_pos : 0 < h.0
    v_pos = some_units h.0 (down d) (n * up d * 2 ^ 1074) h.1 (mul-pos (mul-pos (omega (arith, some)) (up_pos d)) (pow_pos 1074))
