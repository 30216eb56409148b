-- Sums of digits of w bits at slots. Assumes nothing.
use mathlib.Core.Path.{◌≡◌, refl, sym, ap, ◌∙◌}
use mathlib.Core.Bool.{Bool, true, false, cond}
use Prim.Native.Nat.{ℕ, zero, suc, ◌+◌, ◌*◌, ◌^◌, ◌≤◌, ◌<◌, zero-le}
use native.Mathlib.Nat.{le_trans, le_of_eq, le_refl, add-le-add, add_comm, add-mul, mul-suc, mul_assoc, mul-le-mul_right}
use native.Mathlib.Omega.{arith}
use lib.Pow.{pow-add}
use Rattle.hypotenuse.proofs.Poly.{poly}
use Rattle.math.specs.Digits.{digit_sum}

-- a slot counts 2 ^ w times what the slot below it does
pub next_slot : (w k : ℕ) → 2 ^ (w * suc k) ≡ 2 ^ w * 2 ^ (w * k)
next_slot w k = ap (λ (x : ℕ). 2 ^ x) (mul-suc w k ∙ add_comm (w * k) w) ∙ pow-add 2 w (w * k)

pub sum_add : (w : ℕ) (f g : ℕ → ℕ) (k : ℕ) → digit_sum w (λ (j : ℕ). f j + g j) k ≡ digit_sum w f k + digit_sum w g k
unfolding digit_sum
sum_add w f g zero = refl
sum_add w f g (suc k) =
    ap (λ (x : ℕ). x + (f k + g k) * 2 ^ (w * k)) (sum_add w f g k) ∙ parts (digit_sum w f k) (digit_sum w g k) (f k) (g k) (2 ^ (w * k))
  where
    parts : (a b x y P : ℕ) → a + b + (x + y) * P ≡ a + x * P + (b + y * P)
    parts a b x y P = simp poly (omega arith)

-- each digit times c
pub sum_times : (w c : ℕ) (f : ℕ → ℕ) (k : ℕ) → digit_sum w (λ (j : ℕ). f j * c) k ≡ digit_sum w f k * c
unfolding digit_sum
sum_times w c f zero = omega arith
sum_times w c f (suc k) =
    ap (λ (x : ℕ). x + f k * c * 2 ^ (w * k)) (sum_times w c f k) ∙ parts (digit_sum w f k) (f k) (2 ^ (w * k))
  where
    parts : (a x P : ℕ) → a * c + x * c * P ≡ (a + x * P) * c
    parts a x P = simp poly (omega arith)

pub sum_same : (w : ℕ) (f g : ℕ → ℕ) → ((j : ℕ) → f j ≡ g j) → (k : ℕ) → digit_sum w f k ≡ digit_sum w g k
unfolding digit_sum
sum_same w f g e zero = refl
sum_same w f g e (suc k) =
    ap (λ (x : ℕ). x + f k * 2 ^ (w * k)) (sum_same w f g e k) ∙ ap (λ (x : ℕ). digit_sum w g k + x * 2 ^ (w * k)) (e k)

pub sum_none : (w : ℕ) (f : ℕ → ℕ) (n : ℕ) → ((j : ℕ) → j < n → f j ≡ 0) → (k : ℕ) → k ≤ n → digit_sum w f k ≡ 0
unfolding digit_sum
sum_none w f n e zero h = refl
sum_none w f n e (suc k) h =
    ap (λ (x : ℕ). x + f k * 2 ^ (w * k)) (sum_none w f n e k (omega arith))
    ∙ ap (λ (x : ℕ). 0 + x * 2 ^ (w * k)) (e k (omega arith))
    ∙ nothing (2 ^ (w * k))
  where
    nothing : (P : ℕ) → 0 + 0 * P ≡ 0
    nothing P = omega arith

-- digits that are left out by a test
pub sum_if : (w : ℕ) (b : Bool) (f : ℕ → ℕ) (k : ℕ) → digit_sum w (λ (j : ℕ). cond b (f j) 0) k ≡ cond b (digit_sum w f k) 0
sum_if w true f k = refl
sum_if w false f k = sum_none w (λ (j : ℕ). 0) k (λ (j : ℕ) (h : j < k). refl) k (le_refl k)

-- what the slots below k come to, in units of the slot k: c, if a digit is at most b, and c and b come to no more than c of the next slot
pub sum_le : (w b c : ℕ) (f : ℕ → ℕ) → c + b ≤ c * 2 ^ w → ((j : ℕ) → f j ≤ b) → (k : ℕ) → digit_sum w f k ≤ c * 2 ^ (w * k)
unfolding digit_sum
sum_le w b c f room h zero = zero-le
sum_le w b c f room h (suc k) =
    let P : ℕ = 2 ^ (w * k) in
    le_trans (add-le-add (sum_le w b c f room h k) (mul-le-mul_right P (h k)))
    (le_trans (le_of_eq (sym (add-mul c b P)))
    (le_trans (mul-le-mul_right P room) (le_of_eq (mul_assoc c (2 ^ w) P ∙ ap (λ (x : ℕ). c * x) (sym (next_slot w k))))))
