-- The clamp of a finite number is that number held between 0 and 1. Assumes nothing.
use mathlib.Core.Path.{◌≡◌, refl, sym, ap, ◌∙◌, subst}
use mathlib.Core.Bool.{Bool, true, false, not, cond, true≢false, false≢true}
use Prim.Native.Nat.{ℕ, ◌+◌, ◌*◌, ◌^◌, ◌≤◌, ◌<◌, zero-le}
use native.Mathlib.Nat.{le_refl, le_trans, le_of_eq, le_of_lt, mul-le-mul_right, le_of_mul-le-mul_right, mul_comm, zero-mul}
use native.Mathlib.Omega.{arith}
use lib.Dec.{T, ltb, ltb→lt, nltb→le}
use lib.IntN.{ℤ, pos}
use lib.Ieee.{Float, nan, inf, fin, up, down, lt, of_bits}
use lib.Ieee.Fits.{down_pos}
use lib.Ieee.Exact.{HasValue}
use Rattle.math.specs.Number.{zero_float, one, raised, lowered, clamp}
use Rattle.math.proofs.Signed.{Signed, ◌⊖◌}
use Rattle.math.proofs.Operations.{unit, signed, Is, upward, by_sign}

-- the constants, as the logic computes with them
abbrev zero_number : Float
zero_number = fin false 0 (pos 0)

abbrev one_number : Float
one_number = fin false 1 (pos 0)

zero_same : zero_float ≡ zero_number
unfolding of_bits
zero_same = refl

one_same : one ≡ one_number
unfolding of_bits
one_same = refl

-- 0 and 1 in units
pub zero_is : Is zero_float (0 ⊖ 0)
zero_is = subst (λ (x : Float). Is x (0 ⊖ 0)) (sym zero_same) (upward zero_number 0 (refl, refl))

pub one_is : Is one (unit ⊖ 0)
one_is = subst (λ (x : Float). Is x (unit ⊖ 0)) (sym one_same) (upward one_number unit (refl, refl))

-- t is s held between 0 and u
pub data Held (s : Signed) (u t : ℕ) : Type 0 where
  inside : t ≡ s.plus → s.minus ≡ 0 → s.plus ≤ u → Held s u t
  below : t ≡ 0 → s.plus ≡ 0 → Held s u t
  above : t ≡ u → s.minus ≡ 0 → u ≤ s.plus → Held s u t

-- what is found: the fraction in units
pub record Fraction (z : Float) (s : Signed) : Type 0 where
  pub t : ℕ
  pub is : Is z (t ⊖ 0)
  pub held : Held s unit t
  pub at_most : t ≤ unit

-- a against d, as P units against u
unit_le : (a d P u : ℕ) → 0 < d → a * u ≡ P * d → d < a → u ≤ P
unit_le a d P u D e h = le_of_mul-le-mul_right {k = d} (le_trans (le_of_eq (mul_comm u d)) (le_trans (mul-le-mul_right u (le_of_lt h)) (le_of_eq e))) D

unit_ge : (a d P u : ℕ) → 0 < d → a * u ≡ P * d → a ≤ d → P ≤ u
unit_ge a d P u D e h = le_of_mul-le-mul_right {k = d} (le_trans (le_of_eq (sym e)) (le_trans (mul-le-mul_right u h) (le_of_eq (mul_comm d u)))) D

lowered_plus : (m : ℕ) (e : ℤ) (P : ℕ) → m * up e * unit ≡ P * down e → Fraction (lowered (fin false m e)) (P ⊖ 0)
unfolding lt lowered of_bits
lowered_plus m e P v = go (ltb (1 * 1 * down e) (m * up e * 1)) (ltb→lt (1 * 1 * down e) (m * up e * 1)) (nltb→le (1 * 1 * down e) (m * up e * 1))
  where
    go : (b : Bool) → (T b → 1 * 1 * down e < m * up e * 1) → (T (not b) → m * up e * 1 ≤ 1 * 1 * down e) → Fraction (cond b one_number (fin false m e)) (P ⊖ 0)
    go true l g =
        let h = unit_le (m * up e) (down e) P unit (down_pos e) v (plain (down e) (m * up e) (l tt)) in
        record { t = unit; is = upward one_number unit (refl, refl); held = above refl refl h; at_most = le_refl unit }
      where
        plain : (a b : ℕ) → 1 * 1 * a < b * 1 → a < b
        plain a b h = omega arith
    go false l g =
        let h = unit_ge (m * up e) (down e) P unit (down_pos e) v (plain (down e) (m * up e) (g tt)) in
        record { t = P; is = upward (fin false m e) P (refl, v); held = inside refl refl h; at_most = h }
      where
        plain : (a b : ℕ) → b * 1 ≤ 1 * 1 * a → b ≤ a
        plain a b h = omega arith

-- below 0
raised_minus : (m : ℕ) (e : ℤ) (s : Signed) → s.plus ≡ 0 → Fraction (clamp (fin true m e)) s
unfolding lt clamp raised lowered of_bits
raised_minus m e s z = go (ltb 0 (m * up e * 1 + 0 * 1 * down e)) (nltb→le 0 (m * up e * 1 + 0 * 1 * down e))
  where
    go : (b : Bool) → (T (not b) → m * up e * 1 + 0 * 1 * down e ≤ 0) → Fraction (lowered (cond b zero_number (fin true m e))) s
    go true l = record { t = 0; is = upward zero_number 0 (refl, refl); held = below refl z; at_most = zero-le }
    go false l = record {
      t = 0;
      is = record { sign = true; size = 0; value = (refl, nothing (m * up e) (down e) (l tt)); same = refl };
      held = below refl z;
      at_most = zero-le;
    }
      where
        nothing : (a d : ℕ) → a * 1 + 0 * 1 * d ≤ 0 → a * unit ≡ 0 * d
        nothing a d h = ap (λ (x : ℕ). x * unit) (none a d h) ∙ zero-mul unit ∙ sym (zero-mul d)
          where
            none : (a d : ℕ) → a * 1 + 0 * 1 * d ≤ 0 → a ≡ 0
            none a d h = omega arith

clamp_plus : (m : ℕ) (e : ℤ) (P : ℕ) → m * up e * unit ≡ P * down e → Fraction (clamp (fin false m e)) (P ⊖ 0)
unfolding lt clamp raised of_bits
clamp_plus m e P v = go (ltb (m * up e * 1) (0 * 1 * down e)) (ltb→lt (m * up e * 1) (0 * 1 * down e))
  where
    go : (b : Bool) → (T b → m * up e * 1 < 0 * 1 * down e) → Fraction (lowered (cond b zero_number (fin false m e))) (P ⊖ 0)
    go true l = absurd (no (m * up e * 1) (down e) (l tt))
      where
        no : (x y : ℕ) → x < 0 * 1 * y → ⊥
        no x y h = omega arith
    go false l = lowered_plus m e P v

clamp_value : (x : Float) (b : Bool) (n : ℕ) → HasValue x b n (2 ^ 1074) → Fraction (clamp x) (signed b n)
clamp_value nan b n v = absurd v
clamp_value (inf _) b n v = absurd v
clamp_value (fin false m e) false n v = clamp_plus m e n v.1
clamp_value (fin false m e) true n v = absurd (false≢true v.0)
clamp_value (fin true m e) false n v = absurd (true≢false v.0)
clamp_value (fin true m e) true n v = raised_minus m e (0 ⊖ n) refl

-- the clamp of a finite number
pub clamp_fraction : {x : Float} {s : Signed} → Is x s → Fraction (clamp x) s
clamp_fraction {x} i = by_sign (λ (s : Signed). Fraction (clamp x) s) i (clamp_value x)
