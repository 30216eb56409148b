-- The shape that an accepted job hands back, and how long an answer line can be. Proved in `proofs/Sizes.antt`. Assumes nothing.
use Rattle.std.specs.Prelude.{ℕ, ◌≤◌, Bool, true, ◌≡◌, List, length, Float}
use Rattle.error.specs.Refusals.{granted}
use Rattle.region.specs.Checks.{proper_region}
use Rattle.job.specs.Jobs.{job}
use Rattle.format.specs.Lines.{longest_line}
use Rattle.job.specs.AnswerLines.{answer_line}

-- what a job hands back as accepted passes 21
abbrev pub JobProper : Type 0
JobProper =
    (outward : Bool) (d : Float) (lengths : List ℕ) (ps : List Float)
    → granted (job outward d lengths ps).refusal ≡ true → proper_region (job outward d lengths ps).shape ≡ true

-- `ok`, the ring count and 9 vertex counts of at most 3 digits, each after its comma: 42 bytes. 128 and 8 times 32 vertices, 34 bytes each.
abbrev pub longest_answer : ℕ
longest_answer = 13098

-- every input line's answer line has at most that many bytes, its LF not counted
abbrev pub AnswerRoom : Type 0
AnswerRoom = (line : List ℕ) → length (answer_line line) ≤ longest_answer

-- so it is no longer than a job line may be
abbrev pub AnswerInLine : Type 0
AnswerInLine = (line : List ℕ) → length (answer_line line) ≤ longest_line
