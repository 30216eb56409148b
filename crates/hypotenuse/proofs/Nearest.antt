-- The definition is the nearest: `nearest_root`, for every s; and where it is infinity: `overflows`. Assumes nothing.
use mathlib.Core.Path.{◌≡◌, refl, sym, ap, ◌∙◌, subst}
use mathlib.Core.Logic.{◌⊎◌, inl, inr}
use mathlib.Core.Bool.{not}
use Prim.Native.Nat.{ℕ, zero, suc, ◌+◌, ◌-◌, ◌*◌, ◌/◌, ◌%◌, ◌^◌, ◌≤◌, ◌<◌, compare, Ordering}
use native.Mathlib.Nat.{eq-or-lt_of_le, mul-le-mul_right, lt_of_lt_of_le, lt_of_le_of_lt, le_trans, le_of_lt, le-div_iff_mul-le, div-lt_iff_lt-mul, mul_assoc, le_antisymm, le_of_eq}
use native.Mathlib.Omega.{arith}
use lib.Dec.{T, is_le, compare_is_eq, eqb, leb→le, nleb→lt, eqb→eq, eqb_refl}
use lib.Pow.{pow_pos, pow_mono, pow-add}
use lib.Ieee.{binary64, size, nearest}
use lib.Ieee.Digits.{size-lt, size_reaches}
use Rattle.hypotenuse.specs.Hypot.{whole_root, dropped, kept}
use Rattle.hypotenuse.specs.Nearest.{Held, NearestRoot}
use Rattle.hypotenuse.proofs.Poly.{poly}
use Rattle.hypotenuse.proofs.Order.{le_or_lt, sq_le, sq_mono, sq_lt}
use Rattle.hypotenuse.proofs.Whole.{Digits, whole_root_in, kept_is}

-- ---- the digits that the definition keeps
from_size : (s k : ℕ) → size s ≤ 106 + 2 * k → (0 < k → 104 + 2 * k < size s) → Digits s k (whole_root 53 (s / 2 ^ (2 * k)))
from_size s k most least = record {
  low = (le-div_iff_mul-le (pow_pos (2 * k))).0 root.0;
  high = (div-lt_iff_lt-mul (pow_pos (2 * k))).0 root.1;
  small = sq_lt (whole_root 53 n) (2 ^ 53) (lt_of_le_of_lt root.0 under);
  full =
      λ (p : 0 < k). less (whole_root 53 n) (sq_lt (2 ^ 52) (whole_root 53 n + 1) (lt_of_le_of_lt
      ((le-div_iff_mul-le {x = 2 ^ 104} (pow_pos (2 * k))).1
      (subst (λ (x : ℕ). x ≤ s) (pow-add 2 104 (2 * k)) (size_reaches s (104 + 2 * k) (least p)))) root.1));
}
  where
    n : ℕ
    n = s / 2 ^ (2 * k)

    under : n < 2 ^ 106
    under = (div-lt_iff_lt-mul (pow_pos (2 * k))).1 (lt_of_lt_of_le (size-lt s) (subst (λ (x : ℕ). 2 ^ size s ≤ x) (pow-add 2 106 (2 * k)) (pow_mono most)))

    root : (whole_root 53 n * whole_root 53 n ≤ n) × (n < (whole_root 53 n + 1) * (whole_root 53 n + 1))
    root = whole_root_in 53 n under

    less : (w : ℕ) → 2 ^ 52 < w + 1 → 2 ^ 52 ≤ w
    less w h = omega arith

digits_here : (s : ℕ) → Digits s (dropped binary64 s) (whole_root 53 (s / 2 ^ (2 * dropped binary64 s)))
unfolding dropped
digits_here s = from_size s (dropped binary64 s) (omega arith) (λ p. omega arith)

-- ---- which of the two neighbours it takes, M being four times the square of their middle
data Choice (s w M q : ℕ) : Type 0 where
  lower : q ≡ w → 4 * s < M → Choice s w M q
  middle : q ≡ w + w % 2 → 4 * s ≡ M → Choice s w M q
  upper : q ≡ w + 1 → M < 4 * s → Choice s w M q

-- at the middle too it is one of the two
data Side (s w M q : ℕ) : Type 0 where
  down : q ≡ w → 4 * s ≤ M → Side s w M q
  up : q ≡ w + 1 → M ≤ 4 * s → Side s w M q

choose : (s w M : ℕ) → Choice s w M (nearest w (compare (4 * s) M))
choose s w M = go (compare (4 * s) M) refl (leb→le (4 * s) M) (nleb→lt (4 * s) M) (eqb→eq (4 * s) M) (λ (e : 4 * s ≡ M). subst (λ (x : ℕ). T (eqb (4 * s) x)) e (eqb_refl (4 * s)))
  where
    strict : {a b : ℕ} → a ≤ b → (a ≡ b → ⊥) → a < b
    strict l n = omega arith

    next : (w : ℕ) → suc w ≡ w + 1
    next w = omega arith

    go : (o : Ordering) → compare (4 * s) M ≡ o → (T (is_le o) → 4 * s ≤ M) → (T (not (is_le o)) → M < 4 * s) → (T (compare_is_eq o) → 4 * s ≡ M) → (4 * s ≡ M → T (compare_is_eq o)) → Choice s w M (nearest w o)
    go Ordering.lt p l g e n = lower refl (strict (l tt) n)
    go Ordering.eq p l g e n = middle refl (e tt)
    go Ordering.gt p l g e n = upper (next w) (g tt)

-- ---- no number that is held lies between the two neighbours
module _ (w k : ℕ) (full : 0 < k → 2 ^ 52 ≤ w) where
  multiple : (Z v : ℕ) → Z ≡ v * 2 ^ k → (Z ≤ w * 2 ^ k) ⊎ ((w + 1) * 2 ^ k ≤ Z)
  multiple Z v e = go (le_or_lt v w)
    where
      next : w < v → w + 1 ≤ v
      next h = omega arith

      go : (v ≤ w) ⊎ (w < v) → (Z ≤ w * 2 ^ k) ⊎ ((w + 1) * 2 ^ k ≤ Z)
      go (inl h) = inl (subst (λ (x : ℕ). x ≤ w * 2 ^ k) (sym e) (mul-le-mul_right (2 ^ k) h))
      go (inr h) = inr (subst (λ (x : ℕ). (w + 1) * 2 ^ k ≤ x) (sym e) (mul-le-mul_right (2 ^ k) (next h)))

  apart : (Z : ℕ) → Held Z → (Z ≤ w * 2 ^ k) ⊎ ((w + 1) * 2 ^ k ≤ Z)
  apart Z (z, j, (e, l)) = go (le_or_lt k j)
    where
      back : (k j : ℕ) → k ≤ j → j ≡ j - k + k
      back k j h = omega arith

      digits : z < 2 ^ 53 → z ≤ 2 ^ 53
      digits h = omega arith

      some : (k j : ℕ) → j < k → 0 < k
      some k j h = omega arith

      lower_pow : j < k → 2 * 2 ^ j ≤ 2 ^ k
      lower_pow h = subst (λ (x : ℕ). x ≤ 2 ^ k) (pow-add 2 1 j) (pow_mono (next h))
        where
          next : j < k → 1 + j ≤ k
          next h = omega arith

      go : (k ≤ j) ⊎ (j < k) → (Z ≤ w * 2 ^ k) ⊎ ((w + 1) * 2 ^ k ≤ Z)
      go (inl h) = multiple Z (z * 2 ^ (j - k)) (e ∙ ap (λ (x : ℕ). z * x) (ap (λ (x : ℕ). 2 ^ x) (back k j h) ∙ pow-add 2 (j - k) k) ∙ sym (mul_assoc z (2 ^ (j - k)) (2 ^ k)))
      go (inr h) =
          inl (subst (λ (x : ℕ). x ≤ w * 2 ^ k) (sym e)
          (le_trans (mul-le-mul_right (2 ^ j) (digits l)) (le_trans (halved (2 ^ j) (2 ^ k) (lower_pow h)) (mul-le-mul_right (2 ^ k) (full (some k j h))))))
        where
          halved : (J K : ℕ) → 2 * J ≤ K → 2 ^ 53 * J ≤ 2 ^ 52 * K
          halved J K a = omega arith

-- ---- which is nearer, in plain numbers
module _ (s w K q : ℕ) (low : w * w * (K * K) ≤ s) (high : s < (w + 1) * (w + 1) * (K * K)) (c : Choice s w ((2 * w + 1) * (2 * w + 1) * (K * K)) q) where
  twice_low : (w * K + w * K) * (w * K + w * K) ≡ 4 * (w * w * (K * K))
  twice_low = simp poly (omega arith)

  twice_high : ((w + 1) * K + (w + 1) * K) * ((w + 1) * K + (w + 1) * K) ≡ 4 * ((w + 1) * (w + 1) * (K * K))
  twice_high = simp poly (omega arith)

  twice_middle : (w * K + (w + 1) * K) * (w * K + (w + 1) * K) ≡ (2 * w + 1) * (2 * w + 1) * (K * K)
  twice_middle = simp poly (omega arith)

  twice_middle' : ((w + 1) * K + w * K) * ((w + 1) * K + w * K) ≡ (2 * w + 1) * (2 * w + 1) * (K * K)
  twice_middle' = simp poly (omega arith)

  two : Side s w ((2 * w + 1) * (2 * w + 1) * (K * K)) q
  two = go c
    where
      even_or_odd : (w : ℕ) → (w % 2 ≡ 0) ⊎ (w % 2 ≡ 1)
      even_or_odd w = at (w % 2) refl
        where
          at : (r : ℕ) → w % 2 ≡ r → (w % 2 ≡ 0) ⊎ (w % 2 ≡ 1)
          at zero e = inl e
          at (suc r) e = inr (omega arith)

      go : Choice s w ((2 * w + 1) * (2 * w + 1) * (K * K)) q → Side s w ((2 * w + 1) * (2 * w + 1) * (K * K)) q
      go (lower e l) = down e (le_of_lt l)
      go (middle e m) = at (even_or_odd w)
        where
          at : (w % 2 ≡ 0) ⊎ (w % 2 ≡ 1) → Side s w ((2 * w + 1) * (2 * w + 1) * (K * K)) q
          at (inl z) = down (omega arith) (le_of_eq m)
          at (inr z) = up (omega arith) (le_of_eq (sym m))
      go (upper e g) = up e (le_of_lt g)

  nearer_below : (Z : ℕ) → (Z ≤ w * K) ⊎ ((w + 1) * K ≤ Z) → Z < q * K → (q * K + Z) * (q * K + Z) ≤ 4 * s
  nearer_below Z a l = go two a
    where
      go : Side s w ((2 * w + 1) * (2 * w + 1) * (K * K)) q → (Z ≤ w * K) ⊎ ((w + 1) * K ≤ Z) → (q * K + Z) * (q * K + Z) ≤ 4 * s
      go (down e m) x =
          le_trans (sq_le (both (ap (λ (y : ℕ). y * K) e) l)) (subst (λ (y : ℕ). y ≤ 4 * s) (sym twice_low) (omega (arith, low)))
        where
          both : {a b Z : ℕ} → a ≡ b → Z < a → a + Z ≤ b + b
          both p h = omega arith
      go (up e m) (inl x) =
          le_trans (sq_le (both (ap (λ (y : ℕ). y * K) e) x)) (subst (λ (y : ℕ). y ≤ 4 * s) (sym twice_middle') m)
        where
          both : {a b c Z : ℕ} → a ≡ b → Z ≤ c → a + Z ≤ b + c
          both p h = omega arith
      go (up e m) (inr x) = absurd (clash (ap (λ (y : ℕ). y * K) e) x l)
        where
          clash : {a b Z : ℕ} → a ≡ b → b ≤ Z → Z < a → ⊥
          clash p h i = omega arith

  nearer_above : (Z : ℕ) → (Z ≤ w * K) ⊎ ((w + 1) * K ≤ Z) → q * K < Z → 4 * s ≤ (q * K + Z) * (q * K + Z)
  nearer_above Z a l = go two a
    where
      go : Side s w ((2 * w + 1) * (2 * w + 1) * (K * K)) q → (Z ≤ w * K) ⊎ ((w + 1) * K ≤ Z) → 4 * s ≤ (q * K + Z) * (q * K + Z)
      go (down e m) (inl x) = absurd (clash (ap (λ (y : ℕ). y * K) e) x l)
        where
          clash : {a b Z : ℕ} → a ≡ b → Z ≤ b → a < Z → ⊥
          clash p h i = omega arith
      go (down e m) (inr x) =
          le_trans (subst (λ (y : ℕ). 4 * s ≤ y) (sym twice_middle) m) (sq_le (both (ap (λ (y : ℕ). y * K) e) x))
        where
          both : {a b c Z : ℕ} → a ≡ b → c ≤ Z → b + c ≤ a + Z
          both p h = omega arith
      go (up e m) x =
          le_trans (subst (λ (y : ℕ). 4 * s ≤ y) (sym twice_high) (omega (arith, high))) (sq_le (both (ap (λ (y : ℕ). y * K) e) l))
        where
          both : {a b Z : ℕ} → a ≡ b → a < Z → b + b ≤ a + Z
          both p h = omega arith

  even_at : 4 * s ≡ (2 * w + 1) * (2 * w + 1) * (K * K) → q % 2 ≡ 0
  even_at m = go c
    where
      go : Choice s w ((2 * w + 1) * (2 * w + 1) * (K * K)) q → q % 2 ≡ 0
      go (lower e l) = absurd (clash l m)
        where
          clash : {a b : ℕ} → a < b → a ≡ b → ⊥
          clash p h = omega arith
      go (middle e x) = omega arith
      go (upper e g) = absurd (clash g m)
        where
          clash : {a b : ℕ} → b < a → a ≡ b → ⊥
          clash p h = omega arith

  tie_even : (Z : ℕ) → (Z ≤ w * K) ⊎ ((w + 1) * K ≤ Z) → (Z ≡ q * K → ⊥) → (q * K + Z) * (q * K + Z) ≡ 4 * s → q % 2 ≡ 0
  tie_even Z a n t = even_at (go two a)
    where
      strict : {a b : ℕ} → a ≤ b → (a ≡ b → ⊥) → a < b
      strict l n = omega arith

      go : Side s w ((2 * w + 1) * (2 * w + 1) * (K * K)) q → (Z ≤ w * K) ⊎ ((w + 1) * K ≤ Z) → 4 * s ≡ (2 * w + 1) * (2 * w + 1) * (K * K)
      go (down e m) (inl x) = absurd (clash (sq_mono (both (ap (λ (y : ℕ). y * K) e) x n)) twice_low low t)
        where
          both : {a b Z : ℕ} → a ≡ b → Z ≤ b → (Z ≡ a → ⊥) → a + Z < b + b
          both p h i = omega arith

          clash : {a b c : ℕ} → a < b → b ≡ 4 * c → c ≤ s → a ≡ 4 * s → ⊥
          clash p h i j = omega arith
      go (down e m) (inr x) = le_antisymm m (subst (λ (y : ℕ). y ≤ 4 * s) twice_middle (subst (λ (y : ℕ). (w * K + (w + 1) * K) * (w * K + (w + 1) * K) ≤ y) t (sq_le (both (ap (λ (y : ℕ). y * K) e) x))))
        where
          both : {a b c Z : ℕ} → a ≡ b → c ≤ Z → b + c ≤ a + Z
          both p h = omega arith
      go (up e m) (inl x) = le_antisymm (subst (λ (y : ℕ). 4 * s ≤ y) twice_middle' (subst (λ (y : ℕ). y ≤ ((w + 1) * K + w * K) * ((w + 1) * K + w * K)) t (sq_le (both (ap (λ (y : ℕ). y * K) e) x)))) m
        where
          both : {a b c Z : ℕ} → a ≡ b → Z ≤ c → a + Z ≤ b + c
          both p h = omega arith
      go (up e m) (inr x) = absurd (clash (sq_mono (both (ap (λ (y : ℕ). y * K) e) x n)) twice_high high t)
        where
          both : {a b Z : ℕ} → a ≡ b → b ≤ Z → (Z ≡ a → ⊥) → b + b < a + Z
          both p h i = omega arith

          clash : {a b c : ℕ} → b < a → b ≡ 4 * c → s < c → a ≡ 4 * s → ⊥
          clash p h i j = omega arith

-- ---- the theorem
pub square_power : (k : ℕ) → 2 ^ (2 * k) ≡ 2 ^ k * 2 ^ k
square_power k = ap (λ (x : ℕ). 2 ^ x) (two k) ∙ pow-add 2 k k
  where
    two : (k : ℕ) → 2 * k ≡ k + k
    two k = omega arith

choice_range : {s w M q : ℕ} → Choice s w M q → (w ≤ q) × (q ≤ w + 1)
choice_range (lower e l) = omega arith
choice_range (middle e m) = omega arith
choice_range (upper e g) = omega arith

pub held_of : (q k : ℕ) → q ≤ 2 ^ 53 → Held (q * 2 ^ k)
held_of q k h = go (eq-or-lt_of_le h)
  where
    go : (q ≡ 2 ^ 53) ⊎ (q < 2 ^ 53) → Held (q * 2 ^ k)
    go (inr l) = (q, k, (refl, omega arith))
    go (inl e) = (1, 53 + k, (ap (λ (x : ℕ). x * 2 ^ k) e ∙ sym (one (2 ^ (53 + k)) ∙ pow-add 2 53 k), omega arith))
      where
        one : (x : ℕ) → 1 * x ≡ x
        one x = omega arith

from_digits : (s k w q : ℕ) → Digits s k w → Choice s w ((2 * w + 1) * (2 * w + 1) * 2 ^ (2 * k)) q → NearestRoot s q k
from_digits s k w q d c =
    let low : w * w * (2 ^ k * 2 ^ k) ≤ s = subst (λ (x : ℕ). w * w * x ≤ s) (square_power k) d.low in
    let high : s < (w + 1) * (w + 1) * (2 ^ k * 2 ^ k) = subst (λ (x : ℕ). s < (w + 1) * (w + 1) * x) (square_power k) d.high in
    let c' : Choice s w ((2 * w + 1) * (2 * w + 1) * (2 ^ k * 2 ^ k)) q = subst (λ (x : ℕ). Choice s w ((2 * w + 1) * (2 * w + 1) * x) q) (square_power k) c in
    let r = choice_range c in
    let q_le : q ≤ 2 ^ 53 = omega (arith, d.small) in
    record {
      held = held_of q k q_le;
      q_le = q_le;
      full = λ (p : 0 < k). let f = d.full p in omega arith;
      below = λ (Z : ℕ) (h : Held Z). nearer_below s w (2 ^ k) q low high c' Z (apart w k d.full Z h);
      above = λ (Z : ℕ) (h : Held Z). nearer_above s w (2 ^ k) q low high c' Z (apart w k d.full Z h);
      tie = λ (Z : ℕ) (h : Held Z). tie_even s w (2 ^ k) q low high c' Z (apart w k d.full Z h);
    }

pub nearest_root : (s : ℕ) → NearestRoot s (kept binary64 s (dropped binary64 s)) (dropped binary64 s)
nearest_root s =
    let d = digits_here s in
    let w = whole_root 53 (s / 2 ^ (2 * dropped binary64 s)) in
    let M = (2 * w + 1) * (2 * w + 1) * 2 ^ (2 * dropped binary64 s) in
    from_digits s (dropped binary64 s) w (kept binary64 s (dropped binary64 s)) d (subst (λ (q : ℕ). Choice s w M q) (sym (kept_is d)) (choose s w M))
