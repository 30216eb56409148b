-- From a root with a few binary digits too many to the rounded root of the definition. Assumes nothing.
use mathlib.Core.Path.{◌≡◌, sym, ap, ◌∙◌, subst}
use mathlib.Core.Logic.{◌⊎◌, inl, inr}
use mathlib.Core.Bool.{Bool, true, false, cond, ◌&&◌, ◌||◌}
use lib.Dec.{ltb, eqb}
use borrow.Author.Tests.{ltb-true, ltb-false, lt-ltb, le-ltb, eq-eqb, ne_eqb}
use Prim.Native.Nat.{ℕ, zero, suc, ◌+◌, ◌*◌, ◌/◌, ◌%◌, ◌^◌, ◌≤◌, ◌<◌, compare}
use native.Mathlib.Nat.{mod-lt, mul-le-mul, mul-le-mul_right, mul-lt-mul_of_pos_right, lt_of_lt_of_le, le_trans}
use native.Mathlib.Omega.{arith}
use native.Mathlib.Numerals.{add-one}
use lib.Pow.{pow_pos, pow-add}
use lib.Ieee.{binary64, nearest, units}
use Rattle.hypotenuse.specs.Hypot.{kept, round_root}
use Rattle.math.specs.Parts.{Twice, Fourth, Parts}
use Rattle.hypotenuse.proofs.Poly.{poly}
use Rattle.hypotenuse.proofs.Whole.{Digits, dropped_is, kept_is, nearest_lt, nearest_eq, nearest_gt}

-- Four times the root of s in units of 2 ^ k lies from g on and below t, and is g where rest is 0.
pub record Near (s k g t rest : ℕ) : Type 0 where
  pub from : g * g * 2 ^ (2 * k) ≤ 16 * s
  pub below : 16 * s < t * t * 2 ^ (2 * k)
  pub exact : rest ≡ 0 → g * g * 2 ^ (2 * k) ≡ 16 * s
  pub more : 0 < rest → g * g * 2 ^ (2 * k) < 16 * s
  pub t_le : t ≤ 4 * (g / 4) + 4
  pub t_half : g % 4 < 2 → t ≤ 4 * (g / 4) + 2

-- the cases of a remainder by 4, and of a rest
split : (r : ℕ) → (r < 2) ⊎ ((r ≡ 2) ⊎ (2 < r))
split zero = inl (omega arith)
split (suc zero) = inl (omega arith)
split (suc (suc zero)) = inr (inl (omega arith))
split (suc (suc (suc r))) = inr (inr (omega arith))

split_rest : (r : ℕ) → (r ≡ 0) ⊎ (0 < r)
split_rest zero = inl (omega arith)
split_rest (suc r) = inr (omega arith)

-- what is said of 4 * s and a, said of 16 * s and c, four times a
le : (a s c : ℕ) → c ≡ 4 * a → a ≤ 4 * s → c ≤ 16 * s
le a s c e h = omega arith

lt : (a s c : ℕ) → c ≡ 4 * a → 4 * s < a → 16 * s < c
lt a s c e h = omega arith

eq : (a s c : ℕ) → c ≡ 4 * a → a ≡ 4 * s → c ≡ 16 * s
eq a s c e h = omega arith

gt : (a s c : ℕ) → c ≡ 4 * a → a < 4 * s → c < 16 * s
gt a s c e h = omega arith

-- a root of 54 digits or fewer has one digit too many
pub near_one : (x : ℕ) {s root rest : ℕ} → Twice s (2 * x) root rest → Near s x (root * 2) (root * 2 + 2) rest
near_one x {s} {root} {rest} w = record {
  from = le (root * root * P) s (root * 2 * (root * 2) * P) (expand root P) w.from;
  below = lt ((root + 1) * (root + 1) * P) s ((root * 2 + 2) * (root * 2 + 2) * P) (expand_next root P) w.below;
  exact = λ (z : rest ≡ 0). eq (root * root * P) s (root * 2 * (root * 2) * P) (expand root P) (w.exact z);
  more = λ (z : 0 < rest). gt (root * root * P) s (root * 2 * (root * 2) * P) (expand root P) (w.more z);
  t_le = omega arith;
  t_half = λ (h : root * 2 % 4 < 2). omega arith;
}
  where
    P : ℕ
    P = 2 ^ (2 * x)

    expand : (r P : ℕ) → r * 2 * (r * 2) * P ≡ 4 * (r * r * P)
    expand r P = simp poly (omega arith)

    expand_next : (r P : ℕ) → (r * 2 + 2) * (r * 2 + 2) * P ≡ 4 * ((r + 1) * (r + 1) * P)
    expand_next r P = simp poly (omega arith)

-- a root of 55 digits has two digits too many
pub near_two : (x : ℕ) {s root rest : ℕ} → Twice s (2 * x) root rest → Near s (x + 1) root (root + 1) rest
near_two x {s} {root} {rest} w = record {
  from = le (root * root * P) s (root * root * 2 ^ (2 * (x + 1))) (up (root * root)) w.from;
  below = lt ((root + 1) * (root + 1) * P) s ((root + 1) * (root + 1) * 2 ^ (2 * (x + 1))) (up ((root + 1) * (root + 1))) w.below;
  exact = λ (z : rest ≡ 0). eq (root * root * P) s (root * root * 2 ^ (2 * (x + 1))) (up (root * root)) (w.exact z);
  more = λ (z : 0 < rest). gt (root * root * P) s (root * root * 2 ^ (2 * (x + 1))) (up (root * root)) (w.more z);
  t_le = omega arith;
  t_half = λ (h : root % 4 < 2). omega arith;
}
  where
    P : ℕ
    P = 2 ^ (2 * x)

    more_two : (x : ℕ) → 2 * (x + 1) ≡ 2 + 2 * x
    more_two x = omega arith

    four : (y P : ℕ) → y * (4 * P) ≡ 4 * (y * P)
    four y P = simp poly (omega arith)

    up : (y : ℕ) → y * 2 ^ (2 * (x + 1)) ≡ 4 * (y * P)
    up y = ap (λ (z : ℕ). y * z) (ap (λ (z : ℕ). 2 ^ z) (more_two x) ∙ pow-add 2 2 (2 * x)) ∙ four y P

module _ {s k g t rest : ℕ} (n : Near s k g t rest) where
  four_w : (w P : ℕ) → 4 * w * (4 * w) * P ≡ 16 * (w * w * P)
  four_w w P = simp poly (omega arith)

  four_next : (w P : ℕ) → (4 * w + 4) * (4 * w + 4) * P ≡ 16 * ((w + 1) * (w + 1) * P)
  four_next w P = simp poly (omega arith)

  four_half : (w P : ℕ) → (4 * w + 2) * (4 * w + 2) * P ≡ 4 * ((2 * w + 1) * (2 * w + 1) * P)
  four_half w P = simp poly (omega arith)

  -- products with 2 ^ (2 * k) go up with their factors
  up : {a b : ℕ} → a ≤ b → a * a * 2 ^ (2 * k) ≤ b * b * 2 ^ (2 * k)
  up h = mul-le-mul_right (2 ^ (2 * k)) (mul-le-mul h h)

  pub digits_of : g < 2 ^ 55 → (0 < k → 2 ^ 54 ≤ g) → Digits s k (g / 4)
  digits_of small full = record {
    low = le (g / 4 * (g / 4) * 2 ^ (2 * k)) s (subst (λ (x : ℕ). x ≤ 16 * s) (four_w (g / 4) (2 ^ (2 * k))) (le_trans (up {a = 4 * (g / 4)} {b = g} (omega arith)) n.from));
    high = lt s ((g / 4 + 1) * (g / 4 + 1) * 2 ^ (2 * k)) (subst (λ (x : ℕ). 16 * s < x) (four_next (g / 4) (2 ^ (2 * k))) (lt_of_lt_of_le n.below (up n.t_le)));
    small = omega arith;
    full = λ (p : 0 < k). let f = full p in omega arith;
  }
    where
      le : (a b : ℕ) → 16 * a ≤ 16 * b → a ≤ b
      le a b h = omega arith

      lt : (a b : ℕ) → 16 * a < 16 * b → a < b
      lt a b h = omega arith

  fourth_is : {q : ℕ} → Fourth g rest q → nearest (g / 4) (compare (4 * s) ((2 * (g / 4) + 1) * (2 * (g / 4) + 1) * 2 ^ (2 * k))) ≡ q
  fourth_is {q} f = go (split (g % 4)) (split_rest rest)
    where
      M : ℕ
      M = (2 * (g / 4) + 1) * (2 * (g / 4) + 1) * 2 ^ (2 * k)

      low : g % 4 < 2 → 4 * s < M
      low h = small (4 * s) M (lt_of_lt_of_le n.below (subst (λ (x : ℕ). t * t * 2 ^ (2 * k) ≤ x) (four_half (g / 4) (2 ^ (2 * k))) (up (n.t_half h))))
        where
          small : (a b : ℕ) → 16 * s < 4 * b → 4 * s < b
          small a b h = omega arith

      at_two : g % 4 ≡ 2 → g * g * 2 ^ (2 * k) ≡ 4 * M
      at_two h = ap (λ (x : ℕ). x * x * 2 ^ (2 * k)) (is h) ∙ four_half (g / 4) (2 ^ (2 * k))
        where
          is : g % 4 ≡ 2 → g ≡ 4 * (g / 4) + 2
          is h = omega arith

      tie : g % 4 ≡ 2 → rest ≡ 0 → 4 * s ≡ M
      tie h z = fourth (n.exact z) (at_two h)
        where
          fourth : {a b : ℕ} → a ≡ 16 * s → a ≡ 4 * b → 4 * s ≡ b
          fourth p q = omega arith

      past : g % 4 ≡ 2 → 0 < rest → M < 4 * s
      past h z = fourth (n.more z) (at_two h)
        where
          fourth : {a b : ℕ} → a < 16 * s → a ≡ 4 * b → b < 4 * s
          fourth p q = omega arith

      high : 2 < g % 4 → M < 4 * s
      high h = fourth (lt_of_lt_of_le (mul-lt-mul_of_pos_right (squares (g / 4)) (pow_pos (2 * k))) (le_trans (up {a = 4 * (g / 4) + 3} {b = g} (omega arith)) n.from)) (four_half (g / 4) (2 ^ (2 * k)))
        where
          squares : (w : ℕ) → (4 * w + 2) * (4 * w + 2) < (4 * w + 3) * (4 * w + 3)
          squares w = simp poly (omega arith)

          fourth : {a b : ℕ} → a < 16 * s → a ≡ 4 * b → b < 4 * s
          fourth p q = omega arith

      go : (g % 4 < 2) ⊎ ((g % 4 ≡ 2) ⊎ (2 < g % 4)) → (rest ≡ 0) ⊎ (0 < rest) → nearest (g / 4) (compare (4 * s) M) ≡ q
      go (inl h) z = nearest_lt (g / 4) (4 * s) M (low h) ∙ sym (f.down h)
      go (inr (inl h)) (inl z) = nearest_eq (g / 4) (4 * s) M (tie h z) ∙ sym (f.tie h z)
      go (inr (inl h)) (inr z) = nearest_gt (g / 4) (4 * s) M (past h z) ∙ sym (add-one (g / 4)) ∙ sym (f.past h z)
      go (inr (inr h)) z = nearest_gt (g / 4) (4 * s) M (high h) ∙ sym (add-one (g / 4)) ∙ sym (f.up h)

  pub round_root_is : {q : ℕ} → g < 2 ^ 55 → (0 < k → 2 ^ 54 ≤ g) → Fourth g rest q → round_root binary64 s ≡ units binary64 false q k
  unfolding round_root
  round_root_is {q} small full f =
      let d = digits_of small full in
      ap (λ (j : ℕ). units binary64 false (kept binary64 s j) j) (dropped_is d)
      ∙ ap (λ (x : ℕ). units binary64 false x k) (kept_is d ∙ fourth_is f)

-- ---- a fourth, rounded: x is 1 where it goes up
one_or_none : (b : Bool) → cond b 1 0 ≤ 1
one_or_none true = omega arith
one_or_none false = omega arith

module _ (g rest x : ℕ) (e : x ≡ cond (ltb 2 (g % 4) || (eqb (g % 4) 2 && (ltb 0 rest || eqb (g / 4 % 2) 1))) 1 0) where
  pub one_at_most : x ≤ 1
  one_at_most = subst (λ (y : ℕ). y ≤ 1) (sym e) (one_or_none (ltb 2 (g % 4) || (eqb (g % 4) 2 && (ltb 0 rest || eqb (g / 4 % 2) 1))))

  fewer : g % 4 < 3 → ltb 2 (g % 4) ≡ false
  fewer h = le-ltb 2 (g % 4) (omega arith)

  down : g % 4 < 2 → x ≡ 0
  down h =
      let a = fewer (omega arith) in
      let b = ne_eqb (g % 4) 2 (λ (z : g % 4 ≡ 2). omega arith) in
      rw (a, b) at e

  tie : g % 4 ≡ 2 → rest ≡ 0 → x ≡ g / 4 % 2
  tie h z =
      let a = fewer (omega arith) in
      let b = eq-eqb (g % 4) 2 h in
      let c = le-ltb 0 rest (omega arith) in
      go (g / 4 % 2) (mod-lt (g / 4) (omega arith)) (rw (a, b, c) at e)
    where
      go : (y : ℕ) → y < 2 → x ≡ cond (eqb y 1) 1 0 → x ≡ y
      go zero l q = q
      go (suc zero) l q = q
      go (suc (suc y)) l q = absurd (omega arith)

  past : g % 4 ≡ 2 → 0 < rest → x ≡ 1
  past h z =
      let a = fewer (omega arith) in
      let b = eq-eqb (g % 4) 2 h in
      let c = lt-ltb 0 rest z in
      rw (a, b, c) at e

  up_one : 2 < g % 4 → x ≡ 1
  up_one h = let a = lt-ltb 2 (g % 4) h in rw a at e

  pub fourth_of : Fourth g rest (g / 4 + x)
  fourth_of = record {
    down = λ (h : g % 4 < 2). let d = down h in omega arith;
    tie = λ (h : g % 4 ≡ 2) (z : rest ≡ 0). let d = tie h z in omega arith;
    past = λ (h : g % 4 ≡ 2) (z : 0 < rest). let d = past h z in omega arith;
    up = λ (h : 2 < g % 4). let d = up_one h in omega arith;
  }

pub fourth_range : {g rest q : ℕ} → Fourth g rest q → (g / 4 ≤ q) × (q ≤ g / 4 + 1)
fourth_range {g} {rest} {q} f = go (split (g % 4)) (split_rest rest)
  where
    go : (g % 4 < 2) ⊎ ((g % 4 ≡ 2) ⊎ (2 < g % 4)) → (rest ≡ 0) ⊎ (0 < rest) → (g / 4 ≤ q) × (q ≤ g / 4 + 1)
    go (inl h) z = let e = f.down h in omega arith
    go (inr (inl h)) (inl z) = let e = f.tie h z in omega arith
    go (inr (inl h)) (inr z) = let e = f.past h z in omega arith
    go (inr (inr h)) z = let e = f.up h in omega arith

-- ---- the rounded root, from a root of 54 digits or fewer, or from one of 55
module _ (x root rest q : ℕ) (small : root < 2 ^ 55) (full : 0 < x → 2 ^ 53 ≤ root) where
  pub parts_of : (b : Bool) → ltb root (2 ^ 54) ≡ b → Fourth (cond b (root * 2) root) rest q → Parts q (cond b x (x + 1))
  parts_of true e f =
      let l = ltb-true root (2 ^ 54) e in
      let r = fourth_range f in
      record { q_le = omega arith; full = λ (p : 0 < x). let h = full p in omega arith }
  parts_of false e f =
      let l = ltb-false root (2 ^ 54) e in
      let r = fourth_range f in
      record { q_le = omega arith; full = λ (p : 0 < x + 1). omega arith }

  pub scale_le : (b : Bool) → x ≤ 2045 → cond b x (x + 1) ≤ 2046
  scale_le true h = omega arith
  scale_le false h = omega arith

  pub rounded_of : (b : Bool) (s : ℕ) → ltb root (2 ^ 54) ≡ b → Fourth (cond b (root * 2) root) rest q → Twice s (2 * x) root rest → round_root binary64 s ≡ units binary64 false q (cond b x (x + 1))
  rounded_of true s e f w =
      let l = ltb-true root (2 ^ 54) e in
      round_root_is (near_one x w) (omega arith) (λ (p : 0 < x). let h = full p in omega arith) f
  rounded_of false s e f w =
      let l = ltb-false root (2 ^ 54) e in
      round_root_is (near_two x w) (omega arith) (λ (p : 0 < x + 1). omega arith) f
