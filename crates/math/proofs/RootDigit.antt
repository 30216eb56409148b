-- One digit of a root from two digits of the number under it. Assumes nothing.
use mathlib.Core.Path.{◌≡◌, sym, ap, ◌∙◌, subst}
use Prim.Native.Nat.{ℕ, ◌+◌, ◌-◌, ◌*◌, ◌/◌, ◌%◌, ◌^◌, ◌≤◌, ◌<◌}
use native.Mathlib.Nat.{mod-eq_of_lt, mod-lt, le_trans, mul-le-mul, le-mul_of_pos_right, mod-one}
use native.Mathlib.Omega.{arith}
use lib.Pow.{pow-add, pow_pos, pow_mono, mod-pow-add}
use Rattle.math.specs.Parts.{RootOf}
use Rattle.hypotenuse.proofs.Poly.{poly}

-- The walk over the digits of `word`, with `left` pairs still to come: root and rest are of a and b followed by the pairs that were taken.
pub record Walk (word pairs a b root rest left : ℕ) : Type 0 where
  pub is : (root * root + rest) * 2 ^ (2 * left) + word % 2 ^ (2 * left) ≡ (a * a + b) * 2 ^ (2 * pairs) + word
  pub under : rest ≤ 2 * root
  pub small : (root + 1) * 2 ^ left ≤ 2 ^ 56
  pub short : left ≤ 28

pub root_small : {word pairs a b root rest left : ℕ} → Walk word pairs a b root rest left → root + 1 ≤ 2 ^ 56
root_small {root = root} {left = left} w = le_trans (le-mul_of_pos_right (root + 1) (pow_pos left)) w.small

pub walk_start : (word pairs a b : ℕ) → a < 2 ^ 28 → b ≤ 2 * a → pairs ≤ 28 → word < 2 ^ (2 * pairs) → Walk word pairs a b a b pairs
walk_start word pairs a b h u p l = record {
  is = ap (λ (x : ℕ). (a * a + b) * 2 ^ (2 * pairs) + x) (mod-eq_of_lt l);
  under = u;
  small = mul-le-mul (first a h) (pow_mono p);
  short = p;
}
  where
    first : (a : ℕ) → a < 2 ^ 28 → a + 1 ≤ 2 ^ 28
    first a h = omega arith

four : (l : ℕ) → 1 ≤ l → 2 ^ (2 * l) ≡ 4 * 2 ^ (2 * (l - 1))
four l h = ap (λ (x : ℕ). 2 ^ x) (is l h) ∙ pow-add 2 2 (2 * (l - 1))
  where
    is : (l : ℕ) → 1 ≤ l → 2 * l ≡ 2 + 2 * (l - 1)
    is l h = omega arith

double : (l : ℕ) → 1 ≤ l → 2 ^ l ≡ 2 * 2 ^ (l - 1)
double l h = ap (λ (x : ℕ). 2 ^ x) (is l h) ∙ pow-add 2 1 (l - 1)
  where
    is : (l : ℕ) → 1 ≤ l → l ≡ 1 + (l - 1)
    is l h = omega arith

pair : (word l : ℕ) → 1 ≤ l → word % 2 ^ (2 * l) ≡ word / 2 ^ (2 * (l - 1)) % 4 * 2 ^ (2 * (l - 1)) + word % 2 ^ (2 * (l - 1))
pair word l h = ap (λ (x : ℕ). word % 2 ^ x) (is l h) ∙ mod-pow-add word 2 (2 * (l - 1))
  where
    is : (l : ℕ) → 1 ≤ l → 2 * l ≡ 2 + 2 * (l - 1)
    is l h = omega arith

zero_digit : (q r d w P t : ℕ) → (q * q + r) * (4 * P) + (d * P + w) ≡ t → ((q * 2) * (q * 2) + (r * 4 + d)) * P + w ≡ t
zero_digit q r d w P t h = simp poly (omega (arith, simp poly at h))

one_digit : (q r d w P t y : ℕ) → r * 4 + d ≡ y + (q * 4 + 1) → (q * q + r) * (4 * P) + (d * P + w) ≡ t → ((q * 2 + 1) * (q * 2 + 1) + y) * P + w ≡ t
one_digit q r d w P t y e h =
    let e' : (r * 4 + d) * P ≡ (y + (q * 4 + 1)) * P = ap (λ (z : ℕ). z * P) e in
    simp poly (omega (arith, simp poly at e', simp poly at h))

module _ (word pairs a b root rest left : ℕ) (some : 1 ≤ left) (w : Walk word pairs a b root rest left) where
  before : (root * root + rest) * (4 * 2 ^ (2 * (left - 1))) + (word / 2 ^ (2 * (left - 1)) % 4 * 2 ^ (2 * (left - 1)) + word % 2 ^ (2 * (left - 1))) ≡ (a * a + b) * 2 ^ (2 * pairs) + word
  before = sym (ap (λ (x : ℕ). (root * root + rest) * x + word % 2 ^ (2 * left)) (four left some) ∙ ap (λ (x : ℕ). (root * root + rest) * (4 * 2 ^ (2 * (left - 1))) + x) (pair word left some)) ∙ w.is

  digit_lt : word / 2 ^ (2 * (left - 1)) % 4 < 4
  digit_lt = mod-lt (word / 2 ^ (2 * (left - 1))) (lit 4)
    where
      lit : (x : ℕ) → 0 < 4
      lit x = omega arith

  pub walk_zero : rest * 4 + word / 2 ^ (2 * (left - 1)) % 4 < root * 4 + 1 → Walk word pairs a b (root * 2) (rest * 4 + word / 2 ^ (2 * (left - 1)) % 4) (left - 1)
  walk_zero h = record {
    is = zero_digit root rest (word / 2 ^ (2 * (left - 1)) % 4) (word % 2 ^ (2 * (left - 1))) (2 ^ (2 * (left - 1))) ((a * a + b) * 2 ^ (2 * pairs) + word) before;
    under = omega arith;
    small = le_trans (lower root (2 ^ (left - 1))) (subst (λ (x : ℕ). (root + 1) * x ≤ 2 ^ 56) (double left some) w.small);
    short = less left w.short;
  }
    where
      lower : (q P : ℕ) → (q * 2 + 1) * P ≤ (q + 1) * (2 * P)
      lower q P = simp poly (omega arith)

      less : (l : ℕ) → l ≤ 28 → l - 1 ≤ 28
      less l h = omega arith

  pub walk_one : root * 4 + 1 ≤ rest * 4 + word / 2 ^ (2 * (left - 1)) % 4 → Walk word pairs a b (root * 2 + 1) (rest * 4 + word / 2 ^ (2 * (left - 1)) % 4 - (root * 4 + 1)) (left - 1)
  walk_one h = record {
    is = one_digit root rest (word / 2 ^ (2 * (left - 1)) % 4) (word % 2 ^ (2 * (left - 1))) (2 ^ (2 * (left - 1))) ((a * a + b) * 2 ^ (2 * pairs) + word) (rest * 4 + word / 2 ^ (2 * (left - 1)) % 4 - (root * 4 + 1)) (omega arith) before;
    under = omega (arith, w.under, digit_lt);
    small = le_trans (lower root (2 ^ (left - 1))) (subst (λ (x : ℕ). (root + 1) * x ≤ 2 ^ 56) (double left some) w.small);
    short = less left w.short;
  }
    where
      lower : (q P : ℕ) → (q * 2 + 1 + 1) * P ≤ (q + 1) * (2 * P)
      lower q P = simp poly (omega arith)

      less : (l : ℕ) → l ≤ 28 → l - 1 ≤ 28
      less l h = omega arith

pub walk_end : {word pairs a b root rest : ℕ} (left : ℕ) → left ≡ 0 → Walk word pairs a b root rest left → RootOf ((a * a + b) * 2 ^ (2 * pairs) + word) root rest
walk_end {word} {pairs} {a} {b} {root} {rest} left z w =
    let e : (root * root + rest) * 2 ^ (2 * 0) + word % 2 ^ (2 * 0) ≡ (a * a + b) * 2 ^ (2 * pairs) + word = subst
    (λ (x : ℕ). (root * root + rest) * 2 ^ (2 * x) + word % 2 ^ (2 * x) ≡ (a * a + b) * 2 ^ (2 * pairs) + word) z w.is in
    record { is = omega (arith, e, mod-one word); under = w.under }
