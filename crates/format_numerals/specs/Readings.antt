-- What reading hands back of a digit and of a field. Assumes nothing.
use Rattle.std.specs.Prelude.{ℕ, ◌+◌, ◌*◌, ◌/◌, ◌%◌, Bool, true, false, ◌&&◌, ◌≡◌, List, [], get_or, Option, MatchOption, refl}
use Rattle.base.specs.Loop.{rounds}
use Rattle.format.specs.Numerals.{is_float, is_count}

-- The value of a hexadecimal digit by its bits: the last four, and 9 more for a letter. Of any other byte it is some number below 16.
unfoldable pub hex_part : ℕ → ℕ
hex_part b = (b % 16 + b / 64 * 9) % 16

-- of a decimal digit
unfoldable pub decimal_part : ℕ → ℕ
decimal_part b = b % 16

-- A field that is well formed, and what it stands for. Reading one that is not well formed hands back None.
pub record FieldValue {A : Type 0} (test : List ℕ → Bool) (value_of : List ℕ → A) (field : List ℕ) (value : A) : Type 0 where
  pub formed : test field ≡ true
  pub is : value ≡ value_of field

-- no field is empty
pub no_float : is_float [] ≡ false
unfolding is_float
no_float = refl

pub no_count : is_count [] ≡ false
unfolding is_count
no_count = refl

-- whether each of the first k digits of a field passes the test, and the number that they are in a base
abbrev pub all_pass : (ℕ → Bool) → List ℕ → ℕ → Bool
all_pass test field k = rounds (λ i s. s && test (get_or field i 0)) k true

abbrev pub number_of : ℕ → (ℕ → ℕ) → List ℕ → ℕ → ℕ
number_of base value_of field k = rounds (λ i n. base * n + value_of (get_or field i 0)) k 0

-- digits that are read: None where one of them does not pass
abbrev pub Run : ℕ → (ℕ → Bool) → (ℕ → ℕ) → List ℕ → ℕ → Option ℕ → Type 0
Run base test value_of field k result =
    MatchOption result (all_pass test field k ≡ false) (λ n. all_pass test field k ≡ true × n ≡ number_of base value_of field k)

-- opens every definition above, for a proof that computes with all of them
unfoldable pub open_readings : Unit {0}
unfolding hex_part decimal_part
open_readings = tt
