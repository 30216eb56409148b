-- From significands to units, and what a large gap between the exponents leaves. Assumes nothing.
use mathlib.Core.Path.{◌≡◌, sym, ap, ◌∙◌, subst}
use Prim.Native.Nat.{ℕ, ◌+◌, ◌-◌, ◌*◌, ◌/◌, ◌%◌, ◌^◌, ◌≤◌, ◌<◌}
use native.Mathlib.Nat.{mul-le-mul, mul-le-mul_right, mul-lt-mul_of_pos_right, lt_of_le_of_lt, mul-pos, lt_of_mul-lt-mul_right, mul_assoc}
use native.Mathlib.Omega.{arith}
use lib.Pow.{pow_pos, pow_mono, pow-add}
use lib.Ieee.{binary64, of_bits}
use Rattle.hypotenuse.specs.Hypot.{round_root}
use Rattle.math.specs.Parts.{Twice, Fourth, Parts, exponent_of, significand_of, units_of}
use Rattle.hypotenuse.proofs.Poly.{poly}
use Rattle.hypotenuse.proofs.Order.{sq_lt}
use Rattle.hypotenuse.proofs.Nearest.{square_power}
use Rattle.math.proofs.Rounding.{near_one, round_root_is}
use Rattle.math.proofs.Pattern.{finite_is}

-- ---- the same root in a smaller unit
larger : (s k j root rest J : ℕ) → 0 < J → 2 ^ j ≡ 2 ^ k * J → Twice s k root rest → Twice (s * J) j root rest
larger s k j root rest J p e w = record {
  from = subst (λ (x : ℕ). root * root * x ≤ 4 * (s * J)) (sym e) (le (root * root) (2 ^ k) w.from);
  below = subst (λ (x : ℕ). 4 * (s * J) < (root + 1) * (root + 1) * x) (sym e) (lt ((root + 1) * (root + 1)) (2 ^ k) w.below);
  exact = λ (z : rest ≡ 0). subst (λ (x : ℕ). root * root * x ≡ 4 * (s * J)) (sym e) (eq (root * root) (2 ^ k) (w.exact z));
  more = λ (z : 0 < rest). subst (λ (x : ℕ). root * root * x < 4 * (s * J)) (sym e) (gt (root * root) (2 ^ k) (w.more z));
}
  where
    le : (a P : ℕ) → a * P ≤ 4 * s → a * (P * J) ≤ 4 * (s * J)
    le a P h = let g : a * P * J ≤ 4 * s * J = mul-le-mul_right J h in simp poly (simp poly at g)

    lt : (a P : ℕ) → 4 * s < a * P → 4 * (s * J) < a * (P * J)
    lt a P h = let g : 4 * s * J < a * P * J = mul-lt-mul_of_pos_right h p in simp poly (simp poly at g)

    eq : (a P : ℕ) → a * P ≡ 4 * s → a * (P * J) ≡ 4 * (s * J)
    eq a P h = sym (mul_assoc a P J) ∙ ap (λ (x : ℕ). x * J) h ∙ mul_assoc 4 s J

    gt : (a P : ℕ) → a * P < 4 * s → a * (P * J) < 4 * (s * J)
    gt a P h = let g : a * P * J < 4 * s * J = mul-lt-mul_of_pos_right h p in simp poly (simp poly at g)

pub in_units : (m n d x y root rest : ℕ) → x ≡ d + y → Twice (m * m * 2 ^ (2 * d) + n * n) (2 * d) root rest
    → Twice (m * 2 ^ x * (m * 2 ^ x) + n * 2 ^ y * (n * 2 ^ y)) (2 * x) root rest
in_units m n d x y root rest e w =
    subst (λ (s : ℕ). Twice s (2 * x) root rest) same
    (larger (m * m * 2 ^ (2 * d) + n * n) (2 * d) (2 * x) root rest (2 ^ (2 * y)) (pow_pos (2 * y)) (ap (λ (z : ℕ). 2 ^ z) (twice x d y e) ∙ pow-add 2 (2 * d) (2 * y)) w)
  where
    twice : (x d y : ℕ) → x ≡ d + y → 2 * x ≡ 2 * d + 2 * y
    twice x d y e = omega arith

    product : (m n D Y : ℕ) → (m * m * (D * D) + n * n) * (Y * Y) ≡ m * (D * Y) * (m * (D * Y)) + n * Y * (n * Y)
    product m n D Y = simp poly (omega arith)

    same : (m * m * 2 ^ (2 * d) + n * n) * 2 ^ (2 * y) ≡ m * 2 ^ x * (m * 2 ^ x) + n * 2 ^ y * (n * 2 ^ y)
    same =
        ap (λ (z : ℕ). (m * m * z + n * n) * 2 ^ (2 * y)) (square_power d)
        ∙ ap (λ (z : ℕ). (m * m * (2 ^ d * 2 ^ d) + n * n) * z) (square_power y)
        ∙ product m n (2 ^ d) (2 ^ y)
        ∙ ap (λ (z : ℕ). m * z * (m * z) + n * 2 ^ y * (n * 2 ^ y)) (sym (ap (λ (z : ℕ). 2 ^ z) e ∙ pow-add 2 d y))

-- ---- the bounds that `rounded` asks
pub root_small : (m n k root rest : ℕ) → m < 2 ^ 53 → n < 2 ^ 53 → Twice (m * m * 2 ^ k + n * n) k root rest → root < 2 ^ 55
root_small m n k root rest a b w = sq_lt root (2 ^ 55) (lt_of_mul-lt-mul_right (2 ^ k) (lt_of_le_of_lt w.from bound))
  where
    mm : m * m ≤ 2 ^ 106
    mm = mul-le-mul {n₂ = 2 ^ 53} {m₂ = 2 ^ 53} (omega arith) (omega arith)

    nn : n * n ≤ 2 ^ 106
    nn = mul-le-mul {n₂ = 2 ^ 53} {m₂ = 2 ^ 53} (omega arith) (omega arith)

    bound : 4 * (m * m * 2 ^ k + n * n) < 2 ^ 55 * 2 ^ 55 * 2 ^ k
    bound =
        let p : 1 ≤ 2 ^ k = pow_pos k in
        let q : m * m * 2 ^ k ≤ 2 ^ 106 * 2 ^ k = mul-le-mul_right (2 ^ k) mm in
        omega (arith, nn)

pub root_large : (m n k root rest : ℕ) → 2 ^ 52 ≤ m → Twice (m * m * 2 ^ k + n * n) k root rest → 2 ^ 53 ≤ root
root_large m n k root rest a w = last (sq_lt (2 * m) (root + 1) (lt_of_mul-lt-mul_right (2 ^ k) (lt_of_le_of_lt part w.below)))
  where
    part : 2 * m * (2 * m) * 2 ^ k ≤ 4 * (m * m * 2 ^ k + n * n)
    part = simp poly (omega arith)

    last : 2 * m < root + 1 → 2 ^ 53 ≤ root
    last h = omega arith

-- ---- a gap of 28 or more: the smaller operand is less than half a unit of the larger
gap : (m n k : ℕ) → 2 ^ 52 ≤ m → n < 2 ^ 53 → 56 ≤ k → Twice (m * m * 2 ^ k + n * n) k (m * 2) n
gap m n k a b c = record {
  from = simp poly (omega arith);
  below = below (2 ^ k) (pow_mono c);
  exact = λ (z : n ≡ 0). let zz : n * n ≡ 0 = ap (λ (x : ℕ). x * x) z in expand m (2 ^ k) ∙ add (m * m * 2 ^ k) (n * n) zz;
  more = λ (z : 0 < n). subst (λ (x : ℕ). x < 4 * (m * m * 2 ^ k + n * n)) (sym (expand m (2 ^ k))) (lt (m * m * 2 ^ k) (n * n) (mul-pos z z));
}
  where
    expand : (m P : ℕ) → m * 2 * (m * 2) * P ≡ 4 * (m * m * P)
    expand m P = simp poly (omega arith)

    add : (x y : ℕ) → y ≡ 0 → 4 * x ≡ 4 * (x + y)
    add x y z = omega arith

    lt : (x y : ℕ) → 0 < y → 4 * x < 4 * (x + y)
    lt x y z = omega arith

    below : (P : ℕ) → 2 ^ 56 ≤ P → 4 * (m * m * P + n * n) < (m * 2 + 1) * (m * 2 + 1) * P
    below P h =
        let nn : n * n ≤ 2 ^ 106 = mul-le-mul {n₂ = 2 ^ 53} {m₂ = 2 ^ 53} (omega arith) (omega arith) in
        let mp : 2 ^ 52 * 2 ^ 56 ≤ m * P = mul-le-mul a h in
        simp poly (omega arith)

pub far : (a b : ℕ) → a < 2047 * 2 ^ 52 → 27 < exponent_of a - exponent_of b → of_bits binary64 a ≡ round_root binary64 (units_of a * units_of a + units_of b * units_of b)
unfolding units_of
far a b h g =
    let m = significand_of a in
    let n = significand_of b in
    let x = exponent_of a in
    let y = exponent_of b in
    let m_ge : 2 ^ 52 ≤ m = omega arith in
    let m_lt : m < 2 ^ 53 = omega arith in
    let n_lt : n < 2 ^ 53 = omega arith in
    let w = in_units m n (x - y) x y (m * 2) n (omega arith) (gap m n (2 * (x - y)) m_ge n_lt (omega arith)) in
    let f : Fourth (m * 2 * 2) n m = record {
      down = λ _. exact m;
      tie = λ (z : m * 2 * 2 % 4 ≡ 2). absurd (not_two m z);
      past = λ
          (z : m * 2 * 2 % 4 ≡ 2). absurd (not_two m z);
      up = λ (z : 2 < m * 2 * 2 % 4). absurd (not_three m z);
    } in
    let p : Parts m x = record { q_le = omega arith; full = λ _. m_ge } in
    ap (of_bits binary64) (whole x m)
    ∙ finite_is m x p (subst (λ (z : ℕ). z < 2047 * 2 ^ 52) (whole x m) h)
    ∙ sym (round_root_is (near_one x w) (omega arith) (λ _. omega arith) f)
  where
    exact : (m : ℕ) → m ≡ m * 2 * 2 / 4
    exact m = omega arith

    not_two : (m : ℕ) → m * 2 * 2 % 4 ≡ 2 → ⊥
    not_two m h = omega arith

    not_three : (m : ℕ) → 2 < m * 2 * 2 % 4 → ⊥
    not_three m h = omega arith

    whole : (x m : ℕ) → a ≡ exponent_of a * 2 ^ 52 + significand_of a
    whole x m = omega arith

pub near : (a b m n x y root rest : ℕ) → m ≡ significand_of a → n ≡ significand_of b → x ≡ exponent_of a → y ≡ exponent_of b → y ≤ x
    → Twice (m * m * 2 ^ (2 * (x - y)) + n * n) (2 * (x - y)) root rest → Twice (units_of a * units_of a + units_of b * units_of b) (2 * x) root rest
unfolding units_of
near a b m n x y root rest p q i j l w =
    subst (λ (s : ℕ). Twice s (2 * x) root rest) (same_sum (same p i) (same q j)) (in_units m n (x - y) x y root rest (omega arith) w)
  where
    same : {m x m' x' : ℕ} → m ≡ m' → x ≡ x' → m * 2 ^ x ≡ m' * 2 ^ x'
    same {m} {x} {m'} {x'} e f = ap (λ (z : ℕ). z * 2 ^ x) e ∙ ap (λ (z : ℕ). m' * 2 ^ z) f

    same_sum : {u v u' v' : ℕ} → u ≡ u' → v ≡ v' → u * u + v * v ≡ u' * u' + v' * v'
    same_sum {u} {v} {u'} {v'} e f = ap (λ (z : ℕ). z * z + v * v) e ∙ ap (λ (z : ℕ). u' * u' + z * z) f
