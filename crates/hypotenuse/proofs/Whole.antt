-- What the definitions of `specs/Hypot.antt` come to. Assumes nothing.
use mathlib.Core.Path.{◌≡◌, refl, sym, ap, ◌∙◌, subst}
use mathlib.Core.Bool.{Bool, true, false, not, cond}
use Prim.Native.Nat.{ℕ, zero, suc, ◌+◌, ◌*◌, ◌/◌, ◌%◌, ◌^◌, ◌≤◌, ◌<◌, compare, Ordering}
use native.Mathlib.Nat.{mul-le-mul, mul-le-mul_right, lt_of_lt_of_le, lt_of_le_of_lt, le_trans, le-div_iff_mul-le, div-lt_iff_lt-mul, lt_of_not-le, not-le_of_lt}
use native.Mathlib.Omega.{arith}
use lib.Dec.{T, leb, leb→le, nleb→lt, is_le, compare_is_eq, eqb, eqb→eq, eqb_refl}
use lib.Pow.{pow_pos, pow_mono, pow-add}
use lib.Ieee.{binary64, size, nearest}
use lib.Ieee.Digits.{size-lt, size-le}
use Rattle.hypotenuse.specs.Hypot.{whole_root, dropped, kept}
use Rattle.hypotenuse.proofs.Poly.{poly}
use Rattle.hypotenuse.proofs.Order.{sq_lt}

-- each place of a root has two of its square
pub four : (d : ℕ) → 2 ^ (2 * suc d) ≡ 4 * 2 ^ (2 * d)
four d = ap (λ (x : ℕ). 2 ^ x) (is d) ∙ pow-add 2 2 (2 * d)
  where
    is : (d : ℕ) → 2 * suc d ≡ 2 + 2 * d
    is d = omega arith

pub whole_root_in : (d n : ℕ) → n < 2 ^ (2 * d) → (whole_root d n * whole_root d n ≤ n) × (n < (whole_root d n + 1) * (whole_root d n + 1))
unfolding whole_root
whole_root_in zero n h = (omega arith, h)
whole_root_in (suc d) n h =
    let w = whole_root d (n / 4) in
    let i = whole_root_in d (n / 4) (fourth (2 ^ (2 * d)) (subst (λ (x : ℕ). n < x) (four d) h)) in
    go (2 * w) (low w i.0) (high w i.1) (leb ((2 * w + 1) * (2 * w + 1)) n) (leb→le ((2 * w + 1) * (2 * w + 1)) n) (nleb→lt ((2 * w + 1) * (2 * w + 1)) n)
  where
    fourth : (p : ℕ) → n < 4 * p → n / 4 < p
    fourth p k = omega arith

    low : (w : ℕ) → w * w ≤ n / 4 → 2 * w * (2 * w) ≤ n
    low w k = simp poly (omega arith)

    high : (w : ℕ) → n / 4 < (w + 1) * (w + 1) → n < (2 * w + 2) * (2 * w + 2)
    high w k = simp poly (omega (arith, simp poly at k))

    go : (r : ℕ) → r * r ≤ n → n < (r + 2) * (r + 2) → (b : Bool) → (T b → (r + 1) * (r + 1) ≤ n) → (T (not b) → n < (r + 1) * (r + 1))
        → (cond b (r + 1) r * cond b (r + 1) r ≤ n) × (n < (cond b (r + 1) r + 1) * (cond b (r + 1) r + 1))
    go r l u true y x = (y tt, simp poly (omega (arith, simp poly at u)))
    go r l u false y x = (l, x tt)

pub whole_root_is : (d n w : ℕ) → n < 2 ^ (2 * d) → w * w ≤ n → n < (w + 1) * (w + 1) → whole_root d n ≡ w
whole_root_is d n w h l u =
    let i = whole_root_in d n h in
    same (whole_root d n) (sq_lt (whole_root d n) (w + 1) (lt_of_le_of_lt i.0 u)) (sq_lt w (whole_root d n + 1) (lt_of_le_of_lt l i.1))
  where
    same : (r : ℕ) → r < w + 1 → w < r + 1 → r ≡ w
    same r a b = omega arith

-- w is the whole part of the root of s in units of 2 ^ k, and k is as the format wants it
pub record Digits (s k w : ℕ) : Type 0 where
  pub low : w * w * 2 ^ (2 * k) ≤ s
  pub high : s < (w + 1) * (w + 1) * 2 ^ (2 * k)
  pub small : w < 2 ^ 53
  pub full : 0 < k → 2 ^ 52 ≤ w

module _ {s k w : ℕ} (d : Digits s k w) where
  next_small : (w + 1) * (w + 1) ≤ 2 ^ 106
  next_small = mul-le-mul {n₂ = 2 ^ 53} {m₂ = 2 ^ 53} (omega (arith, d.small)) (omega (arith, d.small))

  under : s < 2 ^ (106 + 2 * k)
  under = lt_of_lt_of_le d.high (subst (λ (x : ℕ). (w + 1) * (w + 1) * 2 ^ (2 * k) ≤ x) (sym (pow-add 2 106 (2 * k))) (mul-le-mul_right (2 ^ (2 * k)) next_small))

  size_at_most : size s ≤ 106 + 2 * k
  size_at_most = size-le s (106 + 2 * k) under

  over : 0 < k → 2 ^ (104 + 2 * k) ≤ s
  over p = le_trans (subst (λ (x : ℕ). x ≤ w * w * 2 ^ (2 * k)) (sym (pow-add 2 104 (2 * k))) (mul-le-mul_right (2 ^ (2 * k)) (mul-le-mul (d.full p) (d.full p)))) d.low

  size_at_least : 0 < k → 104 + 2 * k < size s
  size_at_least p = lt_of_not-le (λ (g : size s ≤ 104 + 2 * k). not-le_of_lt (lt_of_le_of_lt (over p) (size-lt s)) (pow_mono g))

  pub dropped_is : dropped binary64 s ≡ k
  unfolding dropped
  dropped_is = go k size_at_most size_at_least
    where
      go : (k : ℕ) → size s ≤ 106 + 2 * k → (0 < k → 104 + 2 * k < size s) → dropped binary64 s ≡ k
      go zero a b = omega arith
      go (suc k) a b = let c = b (omega arith) in omega arith

  pub kept_is : kept binary64 s k ≡ nearest w (compare (4 * s) ((2 * w + 1) * (2 * w + 1) * 2 ^ (2 * k)))
  unfolding kept
  kept_is =
      let P = 2 ^ (2 * k) in
      let n = s / P in
      let u : n < (w + 1) * (w + 1) = (div-lt_iff_lt-mul (pow_pos (2 * k))).1 d.high in
      ap (λ (q : ℕ). nearest q (compare (4 * s) ((2 * q + 1) * (2 * q + 1) * P)))
      (whole_root_is 53 n w (lt_of_lt_of_le u next_small) ((le-div_iff_mul-le (pow_pos (2 * k))).1 d.low) u)

-- ---- what `compare` says
cmp_cases : (a b : ℕ) (o : Ordering) → (T (is_le o) → a ≤ b) → (T (not (is_le o)) → b < a) → (T (compare_is_eq o) → a ≡ b) → (a ≡ b → T (compare_is_eq o))
    → ((a < b → o ≡ Ordering.lt) × (a ≡ b → o ≡ Ordering.eq) × (b < a → o ≡ Ordering.gt))
cmp_cases a b Ordering.lt l g e n = (λ h. refl, λ h. absurd (n h), λ (h : b < a). let k = l tt in absurd (omega arith))
cmp_cases a b Ordering.eq l g e n = (λ (h : a < b). let k = e tt in absurd (omega arith), λ h. refl, λ (h : b < a). let k = e tt in absurd (omega arith))
cmp_cases a b Ordering.gt l g e n = (λ (h : a < b). let k = g tt in absurd (omega arith), λ h. absurd (n h), λ h. refl)

cmp : (a b : ℕ) → ((a < b → compare a b ≡ Ordering.lt) × (a ≡ b → compare a b ≡ Ordering.eq) × (b < a → compare a b ≡ Ordering.gt))
cmp a b = cmp_cases a b (compare a b) (leb→le a b) (nleb→lt a b) (eqb→eq a b) (λ (e : a ≡ b). subst (λ (x : ℕ). T (eqb a x)) e (eqb_refl a))

pub nearest_lt : (q a b : ℕ) → a < b → nearest q (compare a b) ≡ q
nearest_lt q a b h = ap (nearest q) ((cmp a b).0 h)

pub nearest_eq : (q a b : ℕ) → a ≡ b → nearest q (compare a b) ≡ q + q % 2
nearest_eq q a b h = ap (nearest q) ((cmp a b).1 h)

pub nearest_gt : (q a b : ℕ) → b < a → nearest q (compare a b) ≡ suc q
nearest_gt q a b h = ap (nearest q) ((cmp a b).2 h)
