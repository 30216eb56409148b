-- Reading gives back the number that was written. Assumes nothing.
use Prim.Native.Nat.{ℕ, zero, suc, ◌+◌, ◌-◌, ◌*◌, ◌/◌, ◌%◌, ◌^◌, ◌≤◌, ◌<◌}
use native.Mathlib.Nat.{le_refl, le_of_lt, mod-lt, div-eq_of_lt, div-one, div-add-mod}
use native.Mathlib.Omega.{arith}
use mathlib.Core.Bool.{Bool, true, cond, ◌&&◌}
use mathlib.Mathlib.Data.Bool.Basic.{and_elim_left, and_elim_right}
use mathlib.Core.Path.{◌≡◌, refl, sym, ap, ◌∙◌, subst}
use mathlib.Core.List.{List}
use lib.Dec.{T, eqb, eqb→eq, lit<}
use lib.Ieee.{binary64, to_bits}
use lib.ListN.{get_or, length}
use lib.Pow.{shr-shr}
use Rattle.base.specs.Loop.{rounds}
use Rattle.format.specs.Numerals.{is_hex, hex_value, hex_digit, hex_step, is_float, bits_step, bits_of, digit_step, bits_digits, printed_bits, float_digits}
use Rattle.format.specs.Numerals.{is_count, count_of, count_digits, open_numerals, ZeroPrinted, BitsRead, CountRead}
use Rattle.base.proofs.Elements.{tested, tested_at, made, made_length, made_at}

-- ---- one test of the sixteen digits

digit_test : ℕ → Bool
digit_test n = is_hex (hex_digit n) && eqb (hex_value (hex_digit n)) n

digit_tests : (n : ℕ) → n < 16 → digit_test n ≡ true
unfolding digit_test open_numerals rounds
digit_tests = tested_at 16 digit_test refl

digit_hex : (n : ℕ) → n < 16 → is_hex (hex_digit n) ≡ true
unfolding digit_test
digit_hex n h = and_elim_left (is_hex (hex_digit n)) (eqb (hex_value (hex_digit n)) n) (digit_tests n h)

digit_back : (n : ℕ) → n < 16 → hex_value (hex_digit n) ≡ n
unfolding digit_test
digit_back n h = eqb→eq (hex_value (hex_digit n)) n (subst T (sym (and_elim_right (is_hex (hex_digit n)) (eqb (hex_value (hex_digit n)) n) (digit_tests n h))) tt)

-- ---- the sixteen digits of a pattern

-- digit k, from the left
place : ℕ → ℕ → ℕ
place bits k = bits / 2 ^ (4 * (15 - k)) % 16

digits_made : (bits : ℕ) → bits_digits bits ≡ made (λ k. hex_digit (place bits k)) 16
unfolding bits_digits digit_step place
digits_made bits = refl

place_lt : (bits k : ℕ) → place bits k < 16
unfolding place
place_lt bits k = mod-lt (bits / 2 ^ (4 * (15 - k))) (lit< tt)

digit_at : (bits k : ℕ) → k < 16 → get_or (bits_digits bits) k 0 ≡ hex_digit (place bits k)
digit_at bits k h = ap (λ (field : List ℕ). get_or field k 0) (digits_made bits) ∙ made_at (λ i. hex_digit (place bits i)) 16 k 0 h

digits_sixteen : (bits : ℕ) → length (bits_digits bits) ≡ 16
digits_sixteen bits = ap length (digits_made bits) ∙ made_length (λ i. hex_digit (place bits i)) 16

digits_float : (bits : ℕ) → is_float (bits_digits bits) ≡ true
unfolding is_float hex_step
digits_float bits =
    rw (digits_sixteen bits)
    (tested 16 (λ k. is_hex (get_or (bits_digits bits) k 0))
    (λ k h. ap is_hex (digit_at bits k h) ∙ digit_hex (place bits k) (place_lt bits k)))

-- ---- their value

before : (k : ℕ) → k < 16 → 4 * (15 - k) + 4 ≡ 4 * (16 - k)
before k h = omega arith

-- 16 times the number without its last digit, and that digit
last_digit : (n : ℕ) → 16 * (n / 2 ^ 4) + n % 16 ≡ n
last_digit n = div-add-mod n 16

value_to : (bits : ℕ) → bits < 2 ^ 64 → (k : ℕ) → k ≤ 16 → rounds (bits_step (bits_digits bits)) k 0 ≡ bits / 2 ^ (4 * (16 - k))
unfolding rounds bits_step place
value_to bits small zero h = sym (div-eq_of_lt small)
value_to bits small (suc k) h =
    ap (λ (n : ℕ). 16 * n + hex_value (get_or (bits_digits bits) k 0)) (value_to bits small k (le_of_lt h) ∙ ap (λ (e : ℕ). bits / 2 ^ e) (sym (before k h)) ∙ sym (shr-shr bits (4 * (15 - k)) 4))
    ∙ ap (λ (d : ℕ). 16 * (bits / 2 ^ (4 * (15 - k)) / 2 ^ 4) + d) (ap hex_value (digit_at bits k h) ∙ digit_back (place bits k) (place_lt bits k))
    ∙ last_digit (bits / 2 ^ (4 * (15 - k)))
    ∙ ap (λ (e : ℕ). bits / 2 ^ (4 * e)) (less_one k)
  where
    less_one : (k : ℕ) → 15 - k ≡ 16 - suc k
    less_one k = omega arith

pub bits_read : BitsRead
unfolding bits_of
bits_read bits small = (digits_float bits, value_to bits small 16 (le_refl 16) ∙ div-one bits)

-- ---- counts: one test of the numbers below 1000

count_test : ℕ → Bool
count_test n = is_count (count_digits n) && eqb (count_of (count_digits n)) n

count_tests : (n : ℕ) → n < 1000 → count_test n ≡ true
unfolding count_test open_numerals rounds
count_tests = tested_at 1000 count_test refl

pub count_read : CountRead
unfolding count_test
count_read n h = (
  and_elim_left (is_count (count_digits n)) (eqb (count_of (count_digits n)) n) (count_tests n h),
  eqb→eq (count_of (count_digits n)) n (subst T (sym (and_elim_right (is_count (count_digits n)) (eqb (count_of (count_digits n)) n) (count_tests n h))) tt),
)

-- ---- zeros

pub zero_printed : ZeroPrinted
unfolding float_digits printed_bits bits_digits digit_step hex_digit rounds
zero_printed x e = ap (λ (t : Bool). bits_digits (cond t 0 (to_bits binary64 x))) e
