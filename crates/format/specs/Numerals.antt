-- 01, "Job lines": floats are 16 lower-case hexadecimal digits of their bits, counts 1 to 3 decimal digits without a leading zero but
-- for 0 itself. A field is the list of its bytes. The tests say whether a field is well formed, the values what it stands for, and the
-- digits how a number is written. Assumes nothing.
use Rattle.std.specs.Prelude.{ℕ, ◌+◌, ◌-◌, ◌*◌, ◌/◌, ◌%◌, ◌^◌, ◌<◌, Bool, true, cond, not, ◌&&◌, ◌||◌, ◌≡◌, List, [], ◌∷◌, ◌++◌, leb, ltb, eqb, get_or, length, replicate}
use lib.Ieee.{Float, binary64, eq, of_bits, to_bits}
use Rattle.base.specs.Loop.{rounds}
use Rattle.math.specs.Number.{zero_float}

-- ---- one digit

-- the bytes 0 to 9
unfoldable pub is_decimal : ℕ → Bool
is_decimal b = leb 48 b && leb b 57

-- the bytes 0 to 9 and a to f
unfoldable pub is_hex : ℕ → Bool
is_hex b = is_decimal b || (leb 97 b && leb b 102)

unfoldable pub decimal_value : ℕ → ℕ
decimal_value b = b - 48

unfoldable pub hex_value : ℕ → ℕ
hex_value b = cond (is_decimal b) (b - 48) (b - 87)

unfoldable pub decimal_digit : ℕ → ℕ
decimal_digit n = n + 48

unfoldable pub hex_digit : ℕ → ℕ
hex_digit n = cond (ltb n 10) (n + 48) (n + 87)

-- ---- floats

unfoldable pub hex_step : List ℕ → ℕ → Bool → Bool
hex_step field k s = s && is_hex (get_or field k 0)

-- "Floats are 16 lower-case hexadecimal digits"
unfoldable pub is_float : List ℕ → Bool
is_float field = eqb (length field) 16 && rounds (hex_step field) 16 true

unfoldable pub bits_step : List ℕ → ℕ → ℕ → ℕ
bits_step field k n = 16 * n + hex_value (get_or field k 0)

unfoldable pub bits_of : List ℕ → ℕ
bits_of field = rounds (bits_step field) 16 0

-- "of their bits". The pattern of a NaN is read as `nan`, whatever its other bits: a coordinate then meets 2, and a distance 13.
unfoldable pub float_of : List ℕ → Float
float_of field = of_bits binary64 (bits_of field)

unfoldable pub digit_step : ℕ → ℕ → List ℕ → List ℕ
digit_step bits k field = field ++ (hex_digit (bits / 2 ^ (4 * (15 - k)) % 16) ∷ [])

unfoldable pub bits_digits : ℕ → List ℕ
bits_digits bits = rounds (digit_step bits) 16 []

-- "A zero prints as 16 zeros", of either sign
unfoldable pub printed_bits : Float → ℕ
printed_bits x = cond (eq x zero_float) 0 (to_bits binary64 x)

unfoldable pub float_digits : Float → List ℕ
float_digits x = bits_digits (printed_bits x)

-- ---- counts

unfoldable pub decimal_step : List ℕ → ℕ → Bool → Bool
decimal_step field k s = s && is_decimal (get_or field k 0)

unfoldable pub all_decimal : List ℕ → Bool
all_decimal field = rounds (decimal_step field) (length field) true

-- "without a leading zero but for 0 itself"
unfoldable pub leads_well : List ℕ → Bool
leads_well field = eqb (length field) 1 || not (eqb (get_or field 0 0) 48)

-- "counts 1 to 3 decimal digits"
unfoldable pub is_count : List ℕ → Bool
is_count field = leb 1 (length field) && (leb (length field) 3 && (leads_well field && all_decimal field))

unfoldable pub count_step : List ℕ → ℕ → ℕ → ℕ
count_step field k n = 10 * n + decimal_value (get_or field k 0)

unfoldable pub count_of : List ℕ → ℕ
count_of field = rounds (count_step field) (length field) 0

-- The digits of a number below 1000, and the last three of any other. No number of an answer line is that large: there are at most
-- 9 rings of at most 128 vertices.
unfoldable pub count_digits : ℕ → List ℕ
count_digits n =
    cond (ltb n 10) (decimal_digit n ∷ [])
    (cond (ltb n 100) (decimal_digit (n / 10) ∷ decimal_digit (n % 10) ∷ [])
    (decimal_digit (n / 100 % 10) ∷ decimal_digit (n / 10 % 10) ∷ decimal_digit (n % 10) ∷ []))

-- ---- what is to hold

-- "A zero prints as 16 zeros"
abbrev pub ZeroPrinted : Type 0
ZeroPrinted = (x : Float) → eq x zero_float ≡ true → float_digits x ≡ replicate 16 48

-- reading gives back the number that was written. Proved in `proofs/NumbersRead.antt`.
abbrev pub BitsRead : Type 0
BitsRead = (bits : ℕ) → bits < 2 ^ 64 → (is_float (bits_digits bits) ≡ true) × (bits_of (bits_digits bits) ≡ bits)

abbrev pub CountRead : Type 0
CountRead = (n : ℕ) → n < 1000 → (is_count (count_digits n) ≡ true) × (count_of (count_digits n) ≡ n)

-- writing gives back the field that was read, so a number has one field. Proved in `proofs/NumbersWritten.antt`.
abbrev pub BitsWritten : Type 0
BitsWritten = (field : List ℕ) → is_float field ≡ true → (bits_digits (bits_of field) ≡ field) × (bits_of field < 2 ^ 64)

abbrev pub CountWritten : Type 0
CountWritten = (field : List ℕ) → is_count field ≡ true → (count_digits (count_of field) ≡ field) × (count_of field < 1000)

-- opens every definition above, for a proof that computes with all of them
unfoldable pub open_numerals : Unit {0}
unfolding is_decimal is_hex decimal_value hex_value decimal_digit hex_digit hex_step is_float bits_step bits_of float_of digit_step
    bits_digits printed_bits float_digits decimal_step all_decimal leads_well is_count count_step count_of count_digits lib.Ieee.to_bits
open_numerals = tt
