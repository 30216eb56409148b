-- 01, "Job lines": the numbers in the fields of a line, and a line that is written field by field. Assumes nothing.
use Rattle.std.specs.Prelude.{ℕ, ◌+◌, Bool, true, cond, ◌&&◌, List, [], ◌∷◌, ◌++◌, leb, eqb, get_or, length, drop, Float}
use Rattle.std.specs.Float.{nan}
use Rattle.error.specs.declared.Refusal.{Refusal}
use Rattle.error.specs.declared.Refusal.TheVariants.{Granted, Short}
use Rattle.base.specs.Loop.{rounds}
use Rattle.format.specs.Fields.{comma}
use Rattle.format.specs.Numerals.{is_float, float_of, float_digits, is_count, count_of, count_digits}

-- "at most 16,384 bytes with the LF not counted"
abbrev pub longest_line : ℕ
longest_line = 16384

-- ---- words

-- the bytes of `ok` and `no`
unfoldable pub ok_word : List ℕ
ok_word = 111 ∷ 107 ∷ []

unfoldable pub no_word : List ℕ
no_word = 110 ∷ 111 ∷ []

unfoldable pub same_step : List ℕ → List ℕ → ℕ → Bool → Bool
same_step xs ys k s = s && eqb (get_or xs k 0) (get_or ys k 0)

unfoldable pub same_bytes : List ℕ → List ℕ → Bool
same_bytes xs ys = eqb (length xs) (length ys) && rounds (same_step xs ys) (length ys) true

-- ---- numbers in n fields of a line, from field `from` on. A field that is not there reads as an empty one, which is no number.

unfoldable pub counts_test_step : List (List ℕ) → ℕ → ℕ → Bool → Bool
counts_test_step fs from k s = s && is_count (get_or fs (from + k) [])

unfoldable pub are_counts : List (List ℕ) → ℕ → ℕ → Bool
are_counts fs from n = rounds (counts_test_step fs from) n true

unfoldable pub counts_step : List (List ℕ) → ℕ → ℕ → List ℕ → List ℕ
counts_step fs from k counts = counts ++ (count_of (get_or fs (from + k) []) ∷ [])

unfoldable pub counts_of : List (List ℕ) → ℕ → ℕ → List ℕ
counts_of fs from n = rounds (counts_step fs from) n []

unfoldable pub floats_test_step : List (List ℕ) → ℕ → ℕ → Bool → Bool
floats_test_step fs from k s = s && is_float (get_or fs (from + k) [])

unfoldable pub are_floats : List (List ℕ) → ℕ → ℕ → Bool
are_floats fs from n = rounds (floats_test_step fs from) n true

unfoldable pub floats_step : List (List ℕ) → ℕ → ℕ → List Float → List Float
floats_step fs from k floats = floats ++ (float_of (get_or fs (from + k) []) ∷ [])

unfoldable pub floats_of : List (List ℕ) → ℕ → ℕ → List Float
floats_of fs from n = rounds (floats_step fs from) n []

-- ---- a line that is written: one field more after its comma

unfoldable pub with_field : List ℕ → List ℕ → List ℕ
with_field line field = line ++ comma ∷ field

unfoldable pub count_field_step : List ℕ → ℕ → List ℕ → List ℕ
count_field_step counts k line = with_field line (count_digits (get_or counts k 0))

unfoldable pub with_counts : List ℕ → List ℕ → List ℕ
with_counts counts line = rounds (count_field_step counts) (length counts) line

unfoldable pub float_field_step : List Float → ℕ → List ℕ → List ℕ
float_field_step floats k line = with_field line (float_digits (get_or floats k nan))

unfoldable pub with_floats : List Float → List ℕ → List ℕ
with_floats floats line = rounds (float_field_step floats) (length floats) line

-- the answer line: "`ok`, ring count, vertex counts, coordinates; or `no` and the number"
unfoldable pub ok_line : List ℕ → List Float → List ℕ
ok_line counts floats = with_floats floats (with_counts counts (with_field ok_word (count_digits (length counts))))

unfoldable pub no_line : ℕ → List ℕ
no_line n = with_field no_word (count_digits n)

-- ---- question 20 of lent bytes: is the lent output long enough? "A refused write changes nothing. A granted one changes only the
-- numbers it writes."

unfoldable pub bytes_refusal : List ℕ → List ℕ → Refusal
bytes_refusal bytes out = cond (leb (length bytes) (length out)) Granted (Short (length bytes))

unfoldable pub bytes_written : List ℕ → List ℕ → List ℕ
bytes_written bytes out = cond (leb (length bytes) (length out)) (bytes ++ drop (length bytes) out) out

-- opens every definition above, for a proof that computes with all of them
unfoldable pub open_lines : Unit {0}
unfolding ok_word no_word same_step same_bytes counts_test_step are_counts counts_step counts_of floats_test_step are_floats floats_step
    floats_of with_field count_field_step with_counts float_field_step with_floats ok_line no_line bytes_refusal bytes_written
open_lines = tt
