-- The digits of a number, by cases. Assumes nothing.
use Prim.Native.Nat.{ℕ, zero, suc, ◌+◌, ◌-◌, ◌*◌, ◌^◌, ◌/◌, ◌%◌, ◌≤◌, ◌<◌}
use native.Mathlib.Nat.{mod-eq_of_lt, le_antisymm}
use native.Mathlib.Numerals.{add-one}
use native.Mathlib.Omega.{arith}
use mathlib.Core.Bool.{true, false, cond}
use mathlib.Core.Path.{◌≡◌, refl, sym, ap, ◌∙◌, subst}
use mathlib.Core.List.{List, [], ◌∷◌, ◌++◌}
use lib.Dec.{lit≤}
use lib.ListN.{length, drop, set}
use lib.Seq.{sets-eq}
use Rattle.std.proofs.lemmas.List.{append-nil, length-append}
use lib.Ieee.{Float, binary64, eq, ne, to_bits}
use borrow.Author.Tests.{lt-ltb, le-ltb}
use Rattle.math.specs.Number.{zero_float}
use Rattle.math.proofs.Values.{differs_nan}
use Rattle.format.specs.Fields.{comma}
use Rattle.format.specs.Numerals.{decimal_digit, hex_digit, digit_step, bits_digits, printed_bits, count_digits}
use Rattle.base.specs.Loop.{rounds}
use Rattle.base.proofs.Laws.{next_round}
use Rattle.format_digits.specs.Stores.{put}
use Rattle.format_digits.proofs.Puts.{put_append}

-- ---- one digit

pub hex_low : (d : ℕ) → d < 10 → d + 48 ≡ hex_digit d
unfolding hex_digit
hex_low d h = rw (lt-ltb d 10 h) refl

pub hex_high : (d : ℕ) → 10 ≤ d → d - 10 + 97 ≡ hex_digit d
unfolding hex_digit
hex_high d h = rw (le-ltb d 10 h) (omega arith)

-- ---- a float's bits

pub nan_bits : (x : Float) → ne x x ≡ true → 9221120237041090560 ≡ printed_bits x
unfolding printed_bits eq to_bits
nan_bits x h = sym (ap (λ (y : Float). cond (eq y zero_float) 0 (to_bits binary64 y)) (differs_nan x h))

pub zero_bits : (x : Float) → eq x zero_float ≡ true → 0 ≡ printed_bits x
unfolding printed_bits
zero_bits x h = rw h refl

pub other_bits : (x : Float) → eq x zero_float ≡ false → to_bits binary64 x ≡ printed_bits x
unfolding printed_bits
other_bits x h = rw h refl

-- ---- the sixteen digits

-- the field before the first digit
abbrev pub unwritten : List ℕ
unwritten = 44 ∷ 44 ∷ 44 ∷ 44 ∷ 44 ∷ 44 ∷ 44 ∷ 44 ∷ 44 ∷ 44 ∷ 44 ∷ 44 ∷ 44 ∷ 44 ∷ 44 ∷ 44 ∷ 44 ∷ []

-- the first k digits
abbrev pub digits_to : ℕ → ℕ → List ℕ
digits_to bits k = rounds (digit_step bits) k []

digits_many : (bits k : ℕ) → length (digits_to bits k) ≡ k
unfolding rounds digit_step
digits_many bits zero = refl
digits_many bits (suc k) =
    length-append (digits_to bits k) (hex_digit (bits / 2 ^ (4 * (15 - k)) % 16) ∷ []) ∙ ap (λ (n : ℕ). n + 1) (digits_many bits k) ∙ add-one k

place : (k : ℕ) → k < 16 → 60 - 4 * k ≡ 4 * (15 - k)
place k h = omega arith

pub digit_stored : (bits k digit : ℕ) (field : List ℕ) → k < 16 → digit ≡ hex_digit (bits / 2 ^ (60 - 4 * k) % 16)
    → field ≡ put unwritten 1 (digits_to bits k) → set field (k + 1) digit ≡ put unwritten 1 (digits_to bits (k + 1))
unfolding digit_step put
digit_stored bits k digit field h d e =
    ap (λ (f : List ℕ). set f (k + 1) digit) e
    ∙ ap (λ (n : ℕ). set (put unwritten 1 (digits_to bits k)) n digit) (at_end (length (digits_to bits k)) (digits_many bits k))
    ∙ sym (put_append unwritten 1 (digits_to bits k) (digit ∷ []))
    ∙ ap (λ (x : ℕ). put unwritten 1 (digits_to bits k ++ (x ∷ []))) (d ∙ ap (λ (n : ℕ). hex_digit (bits / 2 ^ n % 16)) (place k h))
    ∙ ap (λ (xs : List ℕ). put unwritten 1 xs) (sym (next_round (digit_step bits) k []))
  where
    at_end : (n : ℕ) → n ≡ k → k + 1 ≡ 1 + n
    at_end n p = omega arith

pub sixteen : (bits k : ℕ) (field : List ℕ) → k ≤ 16 → 16 ≤ k → field ≡ put unwritten 1 (digits_to bits k) → field ≡ comma ∷ bits_digits bits
unfolding bits_digits put
sixteen bits k field l h e =
    e ∙ ap (λ (n : ℕ). put unwritten 1 (digits_to bits n)) (le_antisymm l h)
    ∙ sets-eq (digits_to bits 16) unwritten 1 (subst (λ (n : ℕ). 1 + n ≤ 17) (sym (digits_many bits 16)) (lit≤ tt))
    ∙ ap (λ (n : ℕ). comma ∷ (digits_to bits 16 ++ drop (1 + n) unwritten)) (digits_many bits 16)
    ∙ ap (λ (xs : List ℕ). comma ∷ xs) (append-nil (digits_to bits 16))

-- ---- a count

pub one_size : (n : ℕ) → n < 10 → 2 ≡ length (comma ∷ count_digits n)
unfolding count_digits
one_size n h = rw (lt-ltb n 10 h) refl

pub two_size : (n : ℕ) → 10 ≤ n → n < 100 → 3 ≡ length (comma ∷ count_digits n)
unfolding count_digits
two_size n h g = rw (le-ltb n 10 h, lt-ltb n 100 g) refl

pub three_size : (n : ℕ) → 10 ≤ n → 100 ≤ n → 4 ≡ length (comma ∷ count_digits n)
unfolding count_digits
three_size n h g = rw (le-ltb n 10 h, le-ltb n 100 g) refl

pub one_digit : (n last : ℕ) → n < 10 → last ≡ decimal_digit (n % 10) → (comma ∷ last ∷ []) ≡ comma ∷ count_digits n
unfolding count_digits
one_digit n last h e = rw (lt-ltb n 10 h, e, mod-eq_of_lt h) refl

small_tens : (n : ℕ) → n < 100 → n / 10 % 10 ≡ n / 10
small_tens n h = mod-eq_of_lt (omega arith)

pub two_digits : (n middle last : ℕ) → 10 ≤ n → n < 100 → last ≡ decimal_digit (n % 10) → middle ≡ decimal_digit (n / 10 % 10)
    → (comma ∷ middle ∷ last ∷ []) ≡ comma ∷ count_digits n
unfolding count_digits
two_digits n middle last h g e f = rw (le-ltb n 10 h, lt-ltb n 100 g, e, f, small_tens n g) refl

pub three_digits : (n first middle last : ℕ) → 10 ≤ n → 100 ≤ n → last ≡ decimal_digit (n % 10) → middle ≡ decimal_digit (n / 10 % 10)
    → first ≡ decimal_digit (n / 100 % 10) → (comma ∷ first ∷ middle ∷ last ∷ []) ≡ comma ∷ count_digits n
unfolding count_digits
three_digits n first middle last h g e f k = rw (le-ltb n 10 h, le-ltb n 100 g, e, f, k) refl
