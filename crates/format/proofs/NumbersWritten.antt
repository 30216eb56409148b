-- Writing gives back the field that was read. Assumes nothing.
use Prim.Native.Nat.{ℕ, zero, suc, ◌+◌, ◌-◌, ◌*◌, ◌/◌, ◌%◌, ◌^◌, ◌≤◌, ◌<◌}
use native.Mathlib.Nat.{le_refl, le_of_lt, div-one, mul_comm}
use native.Mathlib.Omega.{arith}
use mathlib.Core.Bool.{Bool, true, false, not, ◌&&◌, ◌||◌, false≢true}
use mathlib.Core.Path.{◌≡◌, refl, sym, ap, ◌∙◌, subst}
use mathlib.Core.List.{List, [], ◌∷◌}
use mathlib.Mathlib.Data.Bool.Basic.{and_elim_left, and_elim_right}
use borrow.Author.Tests.{eqb-true, leb-true}
use lib.Dec.{leb, ltb, eqb, lit<}
use lib.ListN.{get_or, length}
use lib.Pow.{shr-shr, pow-add, high, low}
use lib.Seq.{ext_get_or}
use Rattle.base.specs.Loop.{rounds}
use Rattle.base.proofs.Elements.{tested_at, made, made_length, made_at}
use Rattle.format.specs.Numerals.{is_decimal, is_hex, hex_value, hex_digit, hex_step, is_float, bits_step, bits_of, digit_step, bits_digits}
use Rattle.format.specs.Numerals.{decimal_step, all_decimal, leads_well, is_count, count_of, count_digits, open_numerals, BitsWritten, CountWritten}
use Rattle.format.specs.Lines.{same_step, same_bytes}
use Rattle.format.proofs.SameBytes.{same_are}

-- ---- one hexadecimal digit: one test of the bytes up to f

-- a test that is asked only where a holds
then_holds : (a b : Bool) → (not a || b) ≡ true → a ≡ true → b ≡ true
then_holds true b e h = e
then_holds false b e h = absurd (false≢true h)

byte_test : ℕ → Bool
byte_test b = not (is_hex b) || (eqb (hex_digit (hex_value b)) b && ltb (hex_value b) 16)

byte_tests : (b : ℕ) → b < 103 → byte_test b ≡ true
unfolding byte_test open_numerals rounds
byte_tests = tested_at 103 byte_test refl

hex_below : (b : ℕ) → is_hex b ≡ true → b < 103
unfolding is_hex is_decimal
hex_below b e = go (is_decimal b) refl e
  where
    low : b ≤ 57 → b < 103
    low h = omega arith

    high : b ≤ 102 → b < 103
    high h = omega arith

    go : (t : Bool) → is_decimal b ≡ t → (t || (leb 97 b && leb b 102)) ≡ true → b < 103
    go true d h = low (leb-true b 57 (and_elim_right (leb 48 b) (leb b 57) d))
    go false d h = high (leb-true b 102 (and_elim_right (leb 97 b) (leb b 102) h))

byte_both : (b : ℕ) → is_hex b ≡ true → (eqb (hex_digit (hex_value b)) b && ltb (hex_value b) 16) ≡ true
unfolding byte_test
byte_both b e = then_holds (is_hex b) _ (byte_tests b (hex_below b e)) e

byte_back : (b : ℕ) → is_hex b ≡ true → hex_digit (hex_value b) ≡ b
byte_back b e = eqb-true (hex_digit (hex_value b)) b (and_elim_left (eqb (hex_digit (hex_value b)) b) (ltb (hex_value b) 16) (byte_both b e))

byte_small : (b : ℕ) → is_hex b ≡ true → hex_value b < 16
byte_small b e = leb-true (suc (hex_value b)) 16 (and_elim_right (eqb (hex_digit (hex_value b)) b) (ltb (hex_value b) 16) (byte_both b e))

-- ---- sixteen of them

module _ (field : List ℕ) (e : is_float field ≡ true) where
  sixteen : length field ≡ 16
  unfolding is_float
  sixteen = eqb-true (length field) 16 (and_elim_left (eqb (length field) 16) _ e)

  all_hex : (k : ℕ) → k < 16 → is_hex (get_or field k 0) ≡ true
  unfolding is_float hex_step
  all_hex = tested_at 16 (λ i. is_hex (get_or field i 0)) (and_elim_right (eqb (length field) 16) _ e)

  -- the value of the first k digits
  value : ℕ → ℕ
  value k = rounds (bits_step field) k 0

  value_next : (k : ℕ) → value (suc k) ≡ 16 * value k + hex_value (get_or field k 0)
  unfolding value rounds bits_step
  value_next k = refl

  digit_small : (k : ℕ) → k < 16 → hex_value (get_or field k 0) < 16
  digit_small k h = byte_small (get_or field k 0) (all_hex k h)

  split : (v h : ℕ) → h < 16 → ((16 * v + h) / 16 ≡ v) × ((16 * v + h) % 16 ≡ h)
  split v h l = (ap (λ (x : ℕ). (x + h) / 16) (mul_comm 16 v) ∙ high v 4 l, ap (λ (x : ℕ). (x + h) % 16) (mul_comm 16 v) ∙ low v 4 l)

  value_over : (k : ℕ) → k < 16 → value (suc k) / 2 ^ 4 ≡ value k
  value_over k h = ap (λ (x : ℕ). x / 16) (value_next k) ∙ (split (value k) (hex_value (get_or field k 0)) (digit_small k h)).0

  value_last : (k : ℕ) → k < 16 → value (suc k) % 16 ≡ hex_value (get_or field k 0)
  value_last k h = ap (λ (x : ℕ). x % 16) (value_next k) ∙ (split (value k) (hex_value (get_or field k 0)) (digit_small k h)).1

  four_more : (j : ℕ) → 4 * j + 4 ≡ 4 * suc j
  four_more j = omega arith

  one_less : (j : ℕ) → suc j ≤ 16 → 16 - j ≡ suc (16 - suc j)
  one_less j h = omega arith

  under : (j : ℕ) → suc j ≤ 16 → 16 - suc j < 16
  under j h = omega arith

  -- without the last j digits
  value_cut : (j : ℕ) → j ≤ 16 → value 16 / 2 ^ (4 * j) ≡ value (16 - j)
  value_cut zero h = div-one (value 16)
  value_cut (suc j) h =
      ap (λ (x : ℕ). value 16 / 2 ^ x) (sym (four_more j))
      ∙ sym (shr-shr (value 16) (4 * j) 4)
      ∙ ap (λ (x : ℕ). x / 2 ^ 4) (value_cut j (le_of_lt h) ∙ ap value (one_less j h))
      ∙ value_over (16 - suc j) (under j h)

  back : (k : ℕ) → k < 16 → 16 - (15 - k) ≡ suc k
  back k h = omega arith

  fits : (k : ℕ) → k < 16 → 15 - k ≤ 16
  fits k h = omega arith

  digit_is : (k : ℕ) → k < 16 → hex_digit (value 16 / 2 ^ (4 * (15 - k)) % 16) ≡ get_or field k 0
  digit_is k h =
      ap (λ (x : ℕ). hex_digit (x % 16)) (value_cut (15 - k) (fits k h) ∙ ap value (back k h))
      ∙ ap hex_digit (value_last k h)
      ∙ byte_back (get_or field k 0) (all_hex k h)

  value_small : (k : ℕ) → k ≤ 16 → value k < 2 ^ (4 * k)
  unfolding value rounds
  value_small zero h = lit< tt
  value_small (suc k) h =
      let below = more (value k) (2 ^ (4 * k)) (hex_value (get_or field k 0)) (value_small k (le_of_lt h)) (digit_small k h) in
      subst (λ (x : ℕ). value (suc k) < x) (sym (pow_next k)) (subst (λ (x : ℕ). x < 16 * 2 ^ (4 * k)) (sym (value_next k)) below)
    where
      more : (v p d : ℕ) → v < p → d < 16 → 16 * v + d < 16 * p
      more v p d a b = omega arith

      pow_next : (k : ℕ) → 2 ^ (4 * suc k) ≡ 16 * 2 ^ (4 * k)
      pow_next k = ap (λ (x : ℕ). 2 ^ x) (sym (four_more k)) ∙ pow-add 2 (4 * k) 4 ∙ mul_comm (2 ^ (4 * k)) 16

  abbrev digit : ℕ → ℕ
  digit k = hex_digit (value 16 / 2 ^ (4 * (15 - k)) % 16)

  digits_are : bits_digits (bits_of field) ≡ field
  unfolding bits_digits digit_step bits_of value
  digits_are =
      ext_get_or 0 (made digit 16) field (made_length digit 16 ∙ sym sixteen)
      (λ k l.
      let h : k < 16 = subst (λ (n : ℕ). k < n) (made_length digit 16) l in
      made_at digit 16 k 0 h ∙ digit_is k h)

  bits_small : bits_of field < 2 ^ 64
  unfolding bits_of value
  bits_small = value_small 16 (le_refl 16)

pub bits_written : BitsWritten
bits_written field e = (digits_are field e, bits_small field e)

-- ---- counts: one test of the fields of three digits, one of those of two, one of those of one

field_test : List ℕ → Bool
field_test f = not (is_count f) || (same_bytes (count_digits (count_of f)) f && ltb (count_of f) 1000)

one_test : (x : ℕ) → x < 10 → field_test ((x + 48) ∷ []) ≡ true
unfolding field_test open_numerals same_bytes same_step rounds
one_test = tested_at 10 (λ x. field_test ((x + 48) ∷ [])) refl

two_row : ℕ → Bool
two_row x = rounds (λ y t. t && field_test ((x + 48) ∷ (y + 48) ∷ [])) 10 true

two_rows : (x : ℕ) → x < 10 → two_row x ≡ true
unfolding two_row field_test open_numerals same_bytes same_step rounds
two_rows = tested_at 10 two_row refl

two_test : (x y : ℕ) → x < 10 → y < 10 → field_test ((x + 48) ∷ (y + 48) ∷ []) ≡ true
unfolding two_row
two_test x y a b = tested_at 10 (λ i. field_test ((x + 48) ∷ (i + 48) ∷ [])) (two_rows x a) y b

three_row : ℕ → ℕ → Bool
three_row x y = rounds (λ z t. t && field_test ((x + 48) ∷ (y + 48) ∷ (z + 48) ∷ [])) 10 true

three_plane : ℕ → Bool
three_plane x = rounds (λ y t. t && three_row x y) 10 true

three_planes : (x : ℕ) → x < 10 → three_plane x ≡ true
unfolding three_plane three_row field_test open_numerals same_bytes same_step rounds
three_planes = tested_at 10 three_plane refl

three_test : (x y z : ℕ) → x < 10 → y < 10 → z < 10 → field_test ((x + 48) ∷ (y + 48) ∷ (z + 48) ∷ []) ≡ true
unfolding three_plane three_row
three_test x y z a b c =
    tested_at 10 (λ i. field_test ((x + 48) ∷ (y + 48) ∷ (i + 48) ∷ []))
    (tested_at 10 (λ i. three_row x i) (three_planes x a) y b) z c

decimal_back : (b : ℕ) → is_decimal b ≡ true → (b - 48 < 10) × (b - 48 + 48 ≡ b)
unfolding is_decimal
decimal_back b e = go (leb-true 48 b (and_elim_left (leb 48 b) (leb b 57) e)) (leb-true b 57 (and_elim_right (leb 48 b) (leb b 57) e))
  where
    go : 48 ≤ b → b ≤ 57 → (b - 48 < 10) × (b - 48 + 48 ≡ b)
    go l h = (omega arith, omega arith)

field_passes : (f : List ℕ) → length f ≤ 3 → ((k : ℕ) → k < length f → is_decimal (get_or f k 0) ≡ true) → is_count f ≡ true → field_test f ≡ true
unfolding is_count
field_passes [] l h c = absurd (false≢true c)
field_passes (a ∷ []) l h c =
    let (x, p) = decimal_back a (h 0 (lit< tt)) in
    subst (λ (i : ℕ). field_test (i ∷ []) ≡ true) p (one_test (a - 48) x)
field_passes (a ∷ b ∷ []) l h c =
    let (x, p) = decimal_back a (h 0 (lit< tt)) in
    let (y, q) = decimal_back b (h 1 (lit< tt)) in
    subst (λ (i : ℕ). field_test (i ∷ b ∷ []) ≡ true) p
    (subst (λ (j : ℕ). field_test ((a - 48 + 48) ∷ j ∷ []) ≡ true) q (two_test (a - 48) (b - 48) x y))
field_passes (a ∷ b ∷ d ∷ []) l h c =
    let (x, p) = decimal_back a (h 0 (lit< tt)) in
    let (y, q) = decimal_back b (h 1 (lit< tt)) in
    let (z, r) = decimal_back d (h 2 (lit< tt)) in
    subst (λ (i : ℕ). field_test (i ∷ b ∷ d ∷ []) ≡ true) p
    (subst (λ (j : ℕ). field_test ((a - 48 + 48) ∷ j ∷ d ∷ []) ≡ true) q
    (subst (λ (k : ℕ). field_test ((a - 48 + 48) ∷ (b - 48 + 48) ∷ k ∷ []) ≡ true) r (three_test (a - 48) (b - 48) (d - 48) x y z)))
field_passes (a ∷ b ∷ d ∷ g ∷ f) l h c = absurd (long (length f) l)
  where
    long : (n : ℕ) → suc (suc (suc (suc n))) ≤ 3 → ⊥
    long n p = omega arith

count_both : (f : List ℕ) → is_count f ≡ true → (same_bytes (count_digits (count_of f)) f && ltb (count_of f) 1000) ≡ true
unfolding field_test is_count all_decimal decimal_step
count_both f e =
    let short = and_elim_right (leb 1 (length f)) _ e in
    let digits = and_elim_right (leads_well f) _ (and_elim_right (leb (length f) 3) _ short) in
    let few = leb-true (length f) 3 (and_elim_left (leb (length f) 3) _ short) in
    then_holds (is_count f) _ (field_passes f few (tested_at (length f) (λ i. is_decimal (get_or f i 0)) digits) e) e

pub count_written : CountWritten
count_written f e =
    let digits = same_bytes (count_digits (count_of f)) f in
    let small = ltb (count_of f) 1000 in
    (same_are (count_digits (count_of f)) f (and_elim_left digits small (count_both f e)), leb-true (suc (count_of f)) 1000 (and_elim_right digits small (count_both f e)))
