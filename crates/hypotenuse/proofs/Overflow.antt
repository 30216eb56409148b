-- Where the rounded root is infinity: exactly where the root reaches the middle between the largest double and the next number up.
-- Assumes nothing.
use mathlib.Core.Path.{◌≡◌, refl, sym, ap, ◌∙◌, subst}
use mathlib.Core.Logic.{◌⊎◌, inl, inr}
use mathlib.Core.Bool.{false}
use Prim.Native.Nat.{ℕ, zero, suc, ◌+◌, ◌-◌, ◌*◌, ◌%◌, ◌^◌, ◌≤◌, ◌<◌}
use native.Mathlib.Nat.{mul-le-mul, mul-le-mul_right, lt_of_le_of_lt, le_trans, lt_of_not-le, not-le_of_lt, lt_of_mul-lt-mul_right, eq_of_mul-eq-mul_right, eq-or-lt_of_le}
use native.Mathlib.Omega.{arith}
use lib.Dec.{ltb, lit≤}
use lib.Arith.{le→nltb}
use lib.Pow.{pow_pos, pow_mono, pow-add}
use lib.Ieee.{inf, binary64, odd, units}
use lib.Ieee.Exact.{HasValue, units_val}
use lib.Ieee.Bits.{cond_no}
use Rattle.hypotenuse.specs.Hypot.{dropped, kept, round_root}
use Rattle.hypotenuse.specs.Nearest.{Held, NearestRoot, edge, Rounds, past, near}
use Rattle.hypotenuse.proofs.Order.{le_or_lt, sq_le, sq_mono}
use Rattle.hypotenuse.proofs.Nearest.{nearest_root}

-- ---- the value
pub finite_value : (s : ℕ) → kept binary64 s (dropped binary64 s) * 2 ^ dropped binary64 s < 2 ^ 2098
    → HasValue (round_root binary64 s) false (kept binary64 s (dropped binary64 s) * 2 ^ dropped binary64 s) (2 ^ 1074)
unfolding round_root
finite_value s h = units_val binary64 false (kept binary64 s (dropped binary64 s)) (dropped binary64 s) h

pub infinite_value : (s : ℕ) → 2 ^ 2098 ≤ kept binary64 s (dropped binary64 s) * 2 ^ dropped binary64 s → round_root binary64 s ≡ inf false
unfolding round_root units
infinite_value s h =
    let q = kept binary64 s (dropped binary64 s) in
    let k = dropped binary64 s in
    cond_no (ltb (q * 2 ^ k) (2 ^ 2098)) (odd 54 false q k 1074) (inf false) (le→nltb (q * 2 ^ k) (2 ^ 2098) h)

-- ---- the edge
three : (k : ℕ) → (k ≤ 2044) ⊎ ((k ≡ 2045) ⊎ (2046 ≤ k))
three k = go (k - 2044) refl
  where
    go : (d : ℕ) → k - 2044 ≡ d → (k ≤ 2044) ⊎ ((k ≡ 2045) ⊎ (2046 ≤ k))
    go zero e = inl (omega arith)
    go (suc zero) e = inr (inl (omega arith))
    go (suc (suc d)) e = inr (inr (omega arith))

-- U stands for 2 ^ 2045, the unit of the largest doubles, and E for the edge
module _ (s q k U E : ℕ) (v : U ≡ 2 ^ 2045) (w : E ≡ (2 ^ 53 - 1) * U + 2 ^ 53 * U) (n : NearestRoot s q k) where
  largest : Held ((2 ^ 53 - 1) * U)
  largest = (2 ^ 53 - 1, 2045, (ap (λ (x : ℕ). (2 ^ 53 - 1) * x) v, omega arith))

  next : Held (2 ^ 53 * U)
  next = (1, 2098, (ap (λ (x : ℕ). 2 ^ 53 * x) v ∙ sym (one (2 ^ 2098) ∙ pow-add 2 53 2045), omega arith))
    where
      one : (x : ℕ) → 1 * x ≡ x
      one x = omega arith

  U_pos : 0 < U
  U_pos = subst (λ (x : ℕ). 0 < x) (sym v) (pow_pos 2045)

  -- a number past the edge
  reach : 2 ^ 53 * U ≤ q * 2 ^ k → E * E ≤ 4 * s
  reach h = le_trans (sq_le (sum U (q * 2 ^ k) w h)) (n.below ((2 ^ 53 - 1) * U) largest (less U (q * 2 ^ k) U_pos h))
    where
      sum : (U R : ℕ) → E ≡ (2 ^ 53 - 1) * U + 2 ^ 53 * U → 2 ^ 53 * U ≤ R → E ≤ R + (2 ^ 53 - 1) * U
      sum U R w h = omega arith

      less : (U R : ℕ) → 0 < U → 2 ^ 53 * U ≤ R → (2 ^ 53 - 1) * U < R
      less U R p h = omega arith

  -- below it R is the largest double at most, and is it only with k = 2045
  large : 2046 ≤ k → 2 ^ 53 * U ≤ q * 2 ^ k
  large h =
      le_trans (double U (subst (λ (x : ℕ). x ≤ 2 ^ k) (pow-add 2 1 2045 ∙ ap (λ (x : ℕ). 2 * x) (sym v)) (pow_mono h)))
      (mul-le-mul_right (2 ^ k) (n.full (some k h)))
    where
      double : (U : ℕ) → 2 * U ≤ 2 ^ k → 2 ^ 53 * U ≤ 2 ^ 52 * 2 ^ k
      double U h = omega arith

      some : (k : ℕ) → 2046 ≤ k → 0 < k
      some k h = omega arith

  small : k ≤ 2044 → q * 2 ^ k ≤ 2 ^ 52 * U
  small h =
      le_trans (mul-le-mul_right (2 ^ k) n.q_le)
      (halve U (subst (λ (x : ℕ). 2 * 2 ^ k ≤ x) (sym (pow-add 2 1 2044) ∙ sym v) (mul-le-mul (lit≤ {m = 2} {n = 2} tt) (pow_mono h))))
    where
      halve : (U : ℕ) → 2 * 2 ^ k ≤ U → 2 ^ 53 * 2 ^ k ≤ 2 ^ 52 * U
      halve U h = omega arith

  at : k ≡ 2045 → q * 2 ^ k ≡ q * U
  at e = ap (λ (x : ℕ). q * x) (ap (λ (x : ℕ). 2 ^ x) e ∙ sym v)

  under : q * 2 ^ k < 2 ^ 53 * U → (q * 2 ^ k ≤ (2 ^ 53 - 1) * U) × (q * 2 ^ k ≡ (2 ^ 53 - 1) * U → q ≡ 2 ^ 53 - 1)
  under h = go (three k)
    where
      few : (U R : ℕ) → 0 < U → R ≤ 2 ^ 52 * U → (R ≤ (2 ^ 53 - 1) * U) × (R ≡ (2 ^ 53 - 1) * U → q ≡ 2 ^ 53 - 1)
      few U R p l = (omega arith, λ (e : R ≡ (2 ^ 53 - 1) * U). absurd (omega arith))

      last : q < 2 ^ 53 → q ≤ 2 ^ 53 - 1
      last l = omega arith

      go : (k ≤ 2044) ⊎ ((k ≡ 2045) ⊎ (2046 ≤ k)) → (q * 2 ^ k ≤ (2 ^ 53 - 1) * U) × (q * 2 ^ k ≡ (2 ^ 53 - 1) * U → q ≡ 2 ^ 53 - 1)
      go (inl a) = few U (q * 2 ^ k) U_pos (small a)
      go (inr (inl e)) = (
        subst (λ (x : ℕ). x ≤ (2 ^ 53 - 1) * U) (sym (at e)) (mul-le-mul_right U (last (lt_of_mul-lt-mul_right U (subst (λ (x : ℕ). x < 2 ^ 53 * U) (at e) h)))),
        λ (g : q * 2 ^ k ≡ (2 ^ 53 - 1) * U). eq_of_mul-eq-mul_right U U_pos q (2 ^ 53 - 1) (sym (at e) ∙ g),
      )
      go (inr (inr b)) = absurd (not-le_of_lt h (large b))

  short : q * 2 ^ k < 2 ^ 53 * U → 4 * s < E * E
  short h = go (eq-or-lt_of_le (under h).0)
    where
      top : 4 * s ≤ (q * 2 ^ k + 2 ^ 53 * U) * (q * 2 ^ k + 2 ^ 53 * U)
      top = n.above (2 ^ 53 * U) next h

      odd_one : q ≡ 2 ^ 53 - 1 → q % 2 ≡ 0 → ⊥
      odd_one e z = omega arith

      other : (R Z : ℕ) → R < Z → Z ≡ R → ⊥
      other R Z l e = omega arith

      go : (q * 2 ^ k ≡ (2 ^ 53 - 1) * U) ⊎ (q * 2 ^ k < (2 ^ 53 - 1) * U) → 4 * s < E * E
      go (inl e) = subst (λ (x : ℕ). 4 * s < x * x) (ap (λ (x : ℕ). x + 2 ^ 53 * U) e ∙ sym w) (strict (eq-or-lt_of_le top))
        where
          strict : (4 * s ≡ (q * 2 ^ k + 2 ^ 53 * U) * (q * 2 ^ k + 2 ^ 53 * U)) ⊎ (4 * s < (q * 2 ^ k + 2 ^ 53 * U) * (q * 2 ^ k + 2 ^ 53 * U)) → 4 * s < (q * 2 ^ k + 2 ^ 53 * U) * (q * 2 ^ k + 2 ^ 53 * U)
          strict (inl t) = absurd (odd_one ((under h).1 e) (n.tie (2 ^ 53 * U) next (other (q * 2 ^ k) (2 ^ 53 * U) h) (sym t)))
          strict (inr l) = l
      go (inr l) = lt_of_le_of_lt top (sq_mono (subst (λ (x : ℕ). q * 2 ^ k + 2 ^ 53 * U < x) (sym w) (plus (2 ^ 53 * U) l)))
        where
          plus : {a b : ℕ} (c : ℕ) → a < b → a + c < b + c
          plus c h = omega arith

edge_is : edge ≡ (2 ^ 53 - 1) * 2 ^ 2045 + 2 ^ 53 * 2 ^ 2045
edge_is = refl

-- the rounded root is infinity where 4 * s is edge² or more, and a number below it everywhere else
pub overflows : (s : ℕ) → edge * edge ≤ 4 * s → round_root binary64 s ≡ inf false
overflows s h =
    let q = kept binary64 s (dropped binary64 s) in
    let k = dropped binary64 s in
    infinite_value s (not_less (λ (l : q * 2 ^ k < 2 ^ 53 * 2 ^ 2045). not-le_of_lt (short s q k (2 ^ 2045) edge refl edge_is (nearest_root s) l) h))
  where
    not_less : {a b : ℕ} → (a < b → ⊥) → b ≤ a
    not_less n = omega arith

pub stays : (s : ℕ) → 4 * s < edge * edge
    → HasValue (round_root binary64 s) false (kept binary64 s (dropped binary64 s) * 2 ^ dropped binary64 s) (2 ^ 1074)
stays s h =
    let q = kept binary64 s (dropped binary64 s) in
    let k = dropped binary64 s in
    finite_value s (lt_of_not-le (λ (l : 2 ^ 53 * 2 ^ 2045 ≤ q * 2 ^ k). not-le_of_lt h (reach s q k (2 ^ 2045) edge refl edge_is (nearest_root s) l)))

pub round_root_rounds : (s : ℕ) → Rounds s (round_root binary64 s)
round_root_rounds s = go (le_or_lt (edge * edge) (4 * s))
  where
    go : (edge * edge ≤ 4 * s) ⊎ (4 * s < edge * edge) → Rounds s (round_root binary64 s)
    go (inl h) = past h (overflows s h)
    go (inr h) = near (kept binary64 s (dropped binary64 s)) (dropped binary64 s) h (stays s h) (nearest_root s)
