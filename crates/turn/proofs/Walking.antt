-- The walk over the slots from the top: what it keeps, and what it tells where it ends. Assumes nothing.
use mathlib.Core.Path.{◌≡◌, refl, sym, ap, ◌∙◌, subst}
use mathlib.Core.Logic.{◌⊎◌, inl, inr}
use mathlib.Core.Bool.{Bool, true, false}
use Prim.Native.Nat.{ℕ, zero, suc, ◌+◌, ◌-◌, ◌*◌, ◌^◌, ◌≤◌, ◌<◌, min, max}
use native.Mathlib.Nat.{mul-le-mul_right, mul-lt-mul_of_pos_right}
use native.Mathlib.Omega.{arith}
use lib.Dec.{T, ltb}
use lib.Pow.{pow_pos}
use borrow.Author.Tests.{ltb-true, ltb-false}
use Rattle.math.specs.Digits.{digit_sum}
use Rattle.math.proofs.Digits.{next_slot, sum_none}
use Rattle.hypotenuse.proofs.Poly.{poly}
use Rattle.turn.specs.Turns.{by_sums}
use Rattle.turn.specs.Digits.{sum}
use Rattle.turn.proofs.Sums.{sum_le, tells_left, tells_right, same_turn}

-- both sums, less a common part, down to the slot k
pub record Walk (f g : ℕ → ℕ) (from k l r : ℕ) : Type 0 where
  pub common : ℕ
  pub left : sum f from ≡ common + l * 2 ^ (27 * k) + sum f k
  pub right : sum g from ≡ common + r * 2 ^ (27 * k) + sum g k
  pub one : (l ≡ 0) ⊎ (r ≡ 0)

pub walk_start : (f g : ℕ → ℕ) (from : ℕ) → Walk f g from from 0 0
walk_start f g from = record { common = 0; left = whole (sum f from) (2 ^ (27 * from)); right = whole (sum g from) (2 ^ (27 * from)); one = inl refl }
  where
    whole : (s P : ℕ) → s ≡ 0 + 0 * P + s
    whole s P = omega arith

down : (f : ℕ → ℕ) (k : ℕ) → 0 < k → (2 ^ (27 * k) ≡ 2 ^ 27 * 2 ^ (27 * (k - 1))) × (sum f k ≡ sum f (k - 1) + f (k - 1) * 2 ^ (27 * (k - 1)))
unfolding digit_sum
down f zero h = absurd (omega arith)
down f (suc k) h = subst (λ (z : ℕ). (2 ^ (27 * suc k) ≡ 2 ^ 27 * 2 ^ (27 * z)) × (sum f (suc k) ≡ sum f z + f z * 2 ^ (27 * z))) (less k) (next_slot 27 k, refl)
  where
    less : (k : ℕ) → k ≡ suc k - 1
    less k = omega arith

-- v is the digit l followed by d, of which `least` is taken off
lower : (U c l S T d P Q least : ℕ) → U ≡ c + l * Q + S → Q ≡ 2 ^ 27 * P → S ≡ T + d * P → least ≤ l * 2 ^ 27 + d → U ≡ c + least * P + (l * 2 ^ 27 + d - least) * P + T
lower U c l S T d P Q least e q s h =
    let x = l * 2 ^ 27 + d - least in
    let y : x + least ≡ l * 2 ^ 27 + d = omega arith in
    let z : (x + least) * P ≡ (l * 2 ^ 27 + d) * P = ap (λ (t : ℕ). t * P) y in
    let w : U ≡ c + l * (2 ^ 27 * P) + (T + d * P) = e ∙ ap (λ (t : ℕ). c + l * t + S) q ∙ ap (λ (t : ℕ). c + l * (2 ^ 27 * P) + t) s in
    gather U c l T d P x least z w
  where
    gather : (U c l T d P x least : ℕ) → (x + least) * P ≡ (l * 2 ^ 27 + d) * P → U ≡ c + l * (2 ^ 27 * P) + (T + d * P) → U ≡ c + least * P + x * P + T
    gather U c l T d P x least z w = simp poly (omega (arith, simp poly at z, simp poly at w))

least_is : (x y m : ℕ) → m ≡ min x y → (t : Bool) → ltb x y ≡ t → (m ≤ x) × ((m ≤ y) × ((x - m ≡ 0) ⊎ (y - m ≡ 0)))
least_is x y m e true h = let l = ltb-true x y h in (omega arith, (omega arith, inl (omega arith)))
least_is x y m e false h = let l = ltb-false x y h in (omega arith, (omega arith, inr (omega arith)))

pub walk_step : (f g : ℕ → ℕ) (from k l r x y m : ℕ) → 0 < k → Walk f g from k l r → x ≡ l * 2 ^ 27 + f (k - 1) → y ≡ r * 2 ^ 27 + g (k - 1) → m ≡ min x y → Walk f g from (k - 1) (x - m) (y - m)
walk_step f g from k l r x y m h w p q e = record {
  common = w.common + m * 2 ^ (27 * (k - 1));
  left = subst (λ (z : ℕ). sum f from ≡ w.common + m * 2 ^ (27 * (k - 1)) + (z - m) * 2 ^ (27 * (k - 1)) + sum f (k - 1)) (sym p)
      (lower (sum f from) w.common l (sum f k) (sum f (k - 1)) (f (k - 1)) (2 ^ (27 * (k - 1))) (2 ^ (27 * k)) m w.left (down f k h).0 (down f k h).1
      (subst (λ (z : ℕ). m ≤ z) p (least_is x y m e (ltb x y) refl).0));
  right = subst (λ (z : ℕ). sum g from ≡ w.common + m * 2 ^ (27 * (k - 1)) + (z - m) * 2 ^ (27 * (k - 1)) + sum g (k - 1)) (sym q)
      (lower (sum g from) w.common r (sum g k) (sum g (k - 1)) (g (k - 1)) (2 ^ (27 * (k - 1))) (2 ^ (27 * k)) m w.right (down g k h).0 (down g k h).1
      (subst (λ (z : ℕ). m ≤ z) q (least_is x y m e (ltb x y) refl).1.0));
  one = (least_is x y m e (ltb x y) refl).1.1;
}

-- ---- where it ends

-- no slot below has a digit
at_end : (f g : ℕ → ℕ) (from k l r : ℕ) → Walk f g from k l r → sum f k ≡ 0 → sum g k ≡ 0 → by_sums l r ≡ by_sums (sum f from) (sum g from)
at_end f g from k l r w a b = same_turn l r (sum f from) (sum g from)
    (λ (h : r < l). less (2 ^ (27 * k)) (sum f from) (sum g from) l r (sum f k) (sum g k) w.left w.right a b (mul-lt-mul_of_pos_right h (pow_pos (27 * k))))
    (λ (h : l < r). less (2 ^ (27 * k)) (sum g from) (sum f from) r l (sum g k) (sum f k) w.right w.left b a (mul-lt-mul_of_pos_right h (pow_pos (27 * k))))
    (λ (h : l ≡ r). equal (2 ^ (27 * k)) w.left w.right a b (ap (λ (x : ℕ). x * 2 ^ (27 * k)) h))
  where
    less : (P U W l r S T : ℕ) → U ≡ w.common + l * P + S → W ≡ w.common + r * P + T → S ≡ 0 → T ≡ 0 → r * P < l * P → W < U
    less P U W l r S T e f a b h = omega arith

    equal : (P : ℕ) {U W S T : ℕ} → U ≡ w.common + l * P + S → W ≡ w.common + r * P + T → S ≡ 0 → T ≡ 0 → l * P ≡ r * P → U ≡ W
    equal P e f a b h = omega arith

-- one leads by more than the slots below come to
leads : (f g : ℕ → ℕ) (from k l r : ℕ) → Walk f g from k l r → ((j : ℕ) → g j ≤ 18 * 2 ^ 54) → 2 ^ 32 ≤ l → r ≡ 0 → sum g from < sum f from
leads f g from k l r w h a z =
    past (2 ^ (27 * k)) (sum f from) (sum g from) (l * 2 ^ (27 * k)) (r * 2 ^ (27 * k)) (sum f k) (sum g k) w.left w.right (mul-le-mul_right (2 ^ (27 * k)) a) (ap (λ (x : ℕ). x * 2 ^ (27 * k)) z) (sum_le g h k) (pow_pos (27 * k))
  where
    past : (P U W L R S T : ℕ) → U ≡ w.common + L + S → W ≡ w.common + R + T → 2 ^ 32 * P ≤ L → R ≡ 0 * P → T ≤ (2 ^ 32 - 1) * P → 0 < P → W < U
    past P U W L R S T e f a z t p = omega arith

flip : {f g : ℕ → ℕ} {from k l r : ℕ} → Walk f g from k l r → Walk g f from k r l
flip {l = l} {r = r} w = record { common = w.common; left = w.right; right = w.left; one = other w.one }
  where
    other : (l ≡ 0) ⊎ (r ≡ 0) → (r ≡ 0) ⊎ (l ≡ 0)
    other (inl h) = inr h
    other (inr h) = inl h

-- the slots from here on have no digit
pub walk_over : (f g : ℕ → ℕ) (from to k l r : ℕ) → Walk f g from k l r → ((j : ℕ) → j < to → f j ≡ 0) → ((j : ℕ) → j < to → g j ≡ 0) → k ≤ to → by_sums l r ≡ by_sums (sum f from) (sum g from)
walk_over f g from to k l r w ef eg h = at_end f g from k l r w (sum_none 27 f to ef k h) (sum_none 27 g to eg k h)

-- the walk may stop at a lead that the slots below do not reach
pub walk_led : (f g : ℕ → ℕ) (from k l r : ℕ) → Walk f g from k l r → ((j : ℕ) → f j ≤ 18 * 2 ^ 54) → ((j : ℕ) → g j ≤ 18 * 2 ^ 54)
    → 2 ^ 32 ≤ max l r → by_sums l r ≡ by_sums (sum f from) (sum g from)
walk_led f g from k l r w bf bg h =
    elim w.one [
      | inl z ↦ tells_right l r (omega arith) ∙ sym (tells_right (sum f from) (sum g from) (leads g f from k r l (flip w) bf (omega arith) z))
      | inr z ↦ tells_left l r (omega arith) ∙ sym (tells_left (sum f from) (sum g from) (leads f g from k l r w bg (omega arith) z))
    ]
