-- Digits as a number, in a base up to 16, and what a digit is by its bits. Assumes nothing.
use Prim.Native.Nat.{ℕ, ◌+◌, ◌-◌, ◌*◌, ◌/◌, ◌%◌, ◌^◌, ◌≤◌, ◌<◌}
use native.Mathlib.Nat.{le_antisymm, add-le-add, le_refl, lt_of_le_of_lt, mul_comm, mul-le-mul_left, mod-lt, pow-zero, pow-suc, pow-le-pow_right, lt_of_lt_of_le}
use native.Mathlib.Numerals.{add-one}
use native.Mathlib.Omega.{arith}
use mathlib.Core.Bool.{Bool, true, false, cond, ◌&&◌, ◌||◌}
use mathlib.Mathlib.Data.Bool.Basic.{and_elim_left, and_elim_right}
use mathlib.Core.Path.{◌≡◌, refl, sym, ap, ◌∙◌, subst}
use mathlib.Core.List.{List}
use lib.Arith.{digits_lt}
use lib.Dec.{leb, lit<}
use lib.ListN.{get_or}
use borrow.Author.Tests.{leb-true}
use Rattle.base.specs.Loop.{rounds}
use Rattle.base.proofs.Laws.{goes_on}
use Rattle.format.specs.Numerals.{is_decimal, is_hex, decimal_value, hex_value}
use Rattle.format_numerals.specs.Readings.{hex_part, decimal_part, all_pass, number_of}

-- ---- one digit

low : (b : ℕ) → 48 ≤ b → b ≤ 57 → b % 16 ≡ b - 48
low b h l = omega arith

high : (b : ℕ) → 97 ≤ b → b ≤ 102 → b % 16 ≡ b - 96
high b h l = omega arith

low_hex : (b : ℕ) → 48 ≤ b → b ≤ 57 → (b % 16 + b / 64 * 9) % 16 ≡ b - 48
low_hex b h l = rw (low b h l, no_letter) small
  where
    no_letter : b / 64 ≡ 0
    no_letter = omega arith

    small : (b - 48 + 0 * 9) % 16 ≡ b - 48
    small = omega arith

high_hex : (b : ℕ) → 97 ≤ b → b ≤ 102 → (b % 16 + b / 64 * 9) % 16 ≡ b - 87
high_hex b h l = rw (high b h l, a_letter) small
  where
    a_letter : b / 64 ≡ 1
    a_letter = omega arith

    small : (b - 96 + 1 * 9) % 16 ≡ b - 87
    small = omega arith

between : (a b c : ℕ) → (leb a b && leb b c) ≡ true → (a ≤ b) × (b ≤ c)
between a b c e = (leb-true a b (and_elim_left (leb a b) (leb b c) e), leb-true b c (and_elim_right (leb a b) (leb b c) e))

pub decimal_read : (b : ℕ) → is_decimal b ≡ true → decimal_part b ≡ decimal_value b
unfolding is_decimal decimal_part decimal_value
decimal_read b e = let (l, h) = between 48 b 57 e in low b l h

pub hex_read : (b : ℕ) → is_hex b ≡ true → hex_part b ≡ hex_value b
unfolding is_hex is_decimal hex_part hex_value
hex_read b e = go (is_decimal b) refl e
  where
    go : (t : Bool) → is_decimal b ≡ t → (t || (leb 97 b && leb b 102)) ≡ true → (b % 16 + b / 64 * 9) % 16 ≡ cond t (b - 48) (b - 87)
    go true d h = let (l, m) = between 48 b 57 d in low_hex b l m
    go false d h = let (l, m) = between 97 b 102 h in high_hex b l m

pub decimal_small : (b : ℕ) → decimal_part b < 16
unfolding decimal_part
decimal_small b = mod-lt b (lit< tt)

pub hex_small : (b : ℕ) → hex_part b < 16
unfolding hex_part
hex_small b = mod-lt (b % 16 + b / 64 * 9) (lit< tt)

-- ---- one digit more

-- The first k digits of a field, in a base up to 16: whether each of them passes the test, and then the number that they are
pub record RunTo (base : ℕ) (test : ℕ → Bool) (value_of : ℕ → ℕ) (field : List ℕ) (k : ℕ) (sound : Bool) (value : ℕ) : Type 0 where
  pub sound_is : sound ≡ all_pass test field k
  pub value_is : sound ≡ true → value ≡ number_of base value_of field k
  pub small : value < 16 ^ k

-- a number of at most k digits, with one more
wider : (base k value d : ℕ) → base ≤ 16 → d < 16 → value < 16 ^ k → value * base + d < 16 ^ k * 16
wider base k value d b l h = lt_of_le_of_lt (add-le-add (mul-le-mul_left value b) (le_refl d)) (digits_lt h l)

pub room : (base k n value d : ℕ) → base ≤ 16 → d < 16 → k < n → value < 16 ^ k → value * base + d < 16 ^ n
room base k n value d b l m h =
    lt_of_lt_of_le (subst (λ (x : ℕ). value * base + d < x) (sym (pow-suc 16 k)) (wider base k value d b l h)) (pow-le-pow_right (lit< tt) m)

module _ (base : ℕ) (test : ℕ → Bool) (value_of : ℕ → ℕ) (field : List ℕ) where
  pub none : RunTo base test value_of field 0 true 0
  unfolding rounds
  none = record { sound_is = refl; value_is = λ _. refl; small = subst (λ (x : ℕ). 0 < x) (sym (pow-zero 16)) (lit< tt) }

  pub more : (k : ℕ) (sound t : Bool) (value d : ℕ) → base ≤ 16 → d < 16 → t ≡ test (get_or field k 0) → (test (get_or field k 0) ≡ true → d ≡ value_of (get_or field k 0))
      → RunTo base test value_of field k sound value → RunTo base test value_of field (k + 1) (sound && t) (value * base + d)
  more k sound t value d b l e v h =
      record {
        sound_is = goes_on (λ i s. s && test (get_or field i 0)) true sound (sound && t) k h.sound_is (ap (λ (x : Bool). sound && x) e);
        value_is = λ (f : (sound && t) ≡ true).
            goes_on (λ i n. base * n + value_of (get_or field i 0)) 0 value (value * base + d) k (h.value_is (and_elim_left sound t f))
            (ap (λ (x : ℕ). value * base + x) (v (sym e ∙ and_elim_right sound t f)) ∙ ap (λ (x : ℕ). x + value_of (get_or field k 0)) (mul_comm value base));
        small = subst (λ (x : ℕ). value * base + d < x) (sym (ap (λ (i : ℕ). 16 ^ i) (add-one k) ∙ pow-suc 16 k)) (wider base k value d b l h.small);
      }

  pub passed : (k n value : ℕ) → k ≤ n → n ≤ k → RunTo base test value_of field k true value
      → all_pass test field n ≡ true × value ≡ number_of base value_of field n
  passed k n value l m h = subst (λ (i : ℕ). all_pass test field i ≡ true × value ≡ number_of base value_of field i) (le_antisymm l m) (sym h.sound_is, h.value_is refl)

  pub failed : (k n value : ℕ) → k ≤ n → n ≤ k → RunTo base test value_of field k false value → all_pass test field n ≡ false
  failed k n value l m h = subst (λ (i : ℕ). all_pass test field i ≡ false) (le_antisymm l m) (sym h.sound_is)
