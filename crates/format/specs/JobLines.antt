-- 01, "Job lines": question 22, what a line of bytes, its LF not counted, says as a job. Assumes nothing.
use Rattle.std.specs.Prelude.{ℕ, ◌+◌, ◌-◌, ◌≤◌, Bool, true, false, cond, not, ◌&&◌, ◌||◌, ◌≡◌, List, [], ◌∷◌, leb, eqb, get_or, length, Float}
use Rattle.error.specs.declared.Refusal.{Refusal}
use Rattle.error.specs.declared.Refusal.TheVariants.{Granted, Job}
use Rattle.error.specs.Refusals.{granted}
use Rattle.math.specs.Number.{zero_float}
use Rattle.format.specs.Numerals.{is_float, float_of, is_count, count_of}
use Rattle.format.specs.Fields.{fields}
use Rattle.format.specs.Lines.{longest_line, same_bytes, are_counts, counts_of, are_floats, floats_of}

-- What a job line says: Granted and a job, or refused by 22 and an empty one.
pub record ParsedJob : Type 0 where
  pub refusal : Refusal
  pub outward : Bool
  pub distance : Float
  pub lengths : List ℕ
  pub coordinates : List Float

unfoldable pub ill_formed : ParsedJob
ill_formed = record { refusal = Job; outward = false; distance = zero_float; lengths = []; coordinates = [] }

-- ---- "`inset` or `outset`; distance; ring count r; r vertex counts; the coordinates", the fields from 0 on

abbrev pub side_field : List (List ℕ) → List ℕ
side_field fs = get_or fs 0 []

abbrev pub distance_field : List (List ℕ) → List ℕ
distance_field fs = get_or fs 1 []

abbrev pub rings_field : List (List ℕ) → List ℕ
rings_field fs = get_or fs 2 []

-- the bytes of `inset` and `outset`
unfoldable pub inset_word : List ℕ
inset_word = 105 ∷ 110 ∷ 115 ∷ 101 ∷ 116 ∷ []

unfoldable pub outset_word : List ℕ
outset_word = 111 ∷ 117 ∷ 116 ∷ 115 ∷ 101 ∷ 116 ∷ []

unfoldable pub is_side : List ℕ → Bool
is_side field = same_bytes field inset_word || same_bytes field outset_word

-- "`outset` with any r but 1 is 22"
unfoldable pub side_fits : Bool → ℕ → Bool
side_fits outward r = not outward || eqb r 1

-- "every field after them is a coordinate": how many there are, after r vertex counts
unfoldable pub coordinate_count : List (List ℕ) → ℕ → ℕ
coordinate_count fs r = length fs - (3 + r)

-- side, distance and ring count
unfoldable pub head_formed : List (List ℕ) → Bool
head_formed fs = is_side (side_field fs) && (is_float (distance_field fs) && is_count (rings_field fs))

-- the r vertex counts and the coordinates
unfoldable pub numbers_formed : List (List ℕ) → ℕ → Bool
numbers_formed fs r = are_counts fs 3 r && are_floats fs (3 + r) (coordinate_count fs r)

unfoldable pub well_formed : List (List ℕ) → Bool → ℕ → Bool
well_formed fs outward r =
    let numbers = numbers_formed fs r in
    let rest = side_fits outward r && numbers in
    head_formed fs && rest

-- ---- the job

unfoldable pub job_of : List (List ℕ) → Bool → ℕ → ParsedJob
job_of fs outward r =
    record {
      refusal = Granted;
      outward = outward;
      distance = float_of (distance_field fs);
      lengths = counts_of fs 3 r;
      coordinates = floats_of fs (3 + r) (coordinate_count fs r);
    }

unfoldable pub parsed_by : List (List ℕ) → Bool → ℕ → ParsedJob
parsed_by fs outward r =
    let given = job_of fs outward r in
    cond (well_formed fs outward r) given ill_formed

unfoldable pub parsed : List (List ℕ) → ParsedJob
parsed fs = parsed_by fs (same_bytes (side_field fs) outset_word) (count_of (rings_field fs))

unfoldable pub parse_job : List ℕ → ParsedJob
parse_job line =
    let given = parsed (fields line) in
    cond (leb (length line) longest_line) given ill_formed

-- ---- what is to hold

-- What memory a well-formed line needs: at most 999 vertex counts, and at most 962 coordinates. Side, distance and ring count take
-- 24 bytes at least, and each coordinate 17 with its comma. Proved in `proofs/LineRoom.antt`.
abbrev pub LineRoom : Type 0
LineRoom =
    (line : List ℕ) → granted (parse_job line).refusal ≡ true
    → (length (parse_job line).lengths ≤ 999) × (length (parse_job line).coordinates ≤ 962)

-- opens every definition above, for a proof that computes with all of them
unfoldable pub open_job_lines : Unit {0}
unfolding ill_formed inset_word outset_word is_side side_fits coordinate_count head_formed numbers_formed well_formed job_of parsed_by
    parsed parse_job
open_job_lines = tt
