-- 01, "Job lines": a job line and its answer line, both without LF. Assumes nothing.
use Rattle.std.specs.Prelude.{ℕ, ◌+◌, ◌*◌, ◌<◌, cond, ◌⊎◌, ◌≡◌, List, [], ◌++◌, length, take, Float}
use Rattle.region.specs.declared.Region.{Region}
use Rattle.region.specs.declared.RegionOffset.{RegionOffset}
use Rattle.base.specs.Loop.{rounds}
use Rattle.error.specs.Refusals.{granted, number}
use Rattle.region.specs.Regions.{ring_points, ring_count, ring_counts}
use Rattle.format.specs.Lines.{longest_line, ok_word, no_word, with_field, ok_line, no_line}
use Rattle.format.specs.JobLines.{ParsedJob, parse_job}
use Rattle.job.specs.Jobs.{job, job_refused}

-- ---- the answer line: "`ok`, ring count, vertex counts, coordinates; or `no` and the number"

-- the coordinates of a region's rings, ring after ring, "east then north"
unfoldable pub ring_coordinates_step : Region → ℕ → List Float → List Float
ring_coordinates_step r k floats = floats ++ take (2 * ring_count r k) (ring_points r k)

unfoldable pub ring_coordinates : Region → List Float
ring_coordinates r = rounds (ring_coordinates_step r) (r.holes + 1) []

unfoldable pub answer_bytes : RegionOffset → List ℕ
answer_bytes r =
    let given = ok_line (ring_counts r.shape) (ring_coordinates r.shape) in
    cond (granted r.refusal) given (no_line (number r.refusal))

-- ---- a job line to its answer line

unfoldable pub job_parsed : ParsedJob → RegionOffset
job_parsed p =
    let given = job p.outward p.distance p.lengths p.coordinates in
    cond (granted p.refusal) given (job_refused p.refusal)

unfoldable pub answer_line : List ℕ → List ℕ
answer_line line = answer_bytes (job_parsed (parse_job line))

-- ---- what is to hold

-- "so is one above 16,384 bytes"
abbrev pub Overlong : Type 0
Overlong = (line : List ℕ) → longest_line < length line → answer_line line ≡ no_line 22

-- an answer line starts with `ok,` or with `no,`
abbrev pub AnswerStarts : Type 0
AnswerStarts =
    (line : List ℕ)
    →
    ((rest : List ℕ) × (answer_line line ≡ with_field ok_word rest)) ⊎
    ((rest : List ℕ) × (answer_line line ≡ with_field no_word rest))

-- opens every definition above, for a proof that computes with all of them
unfoldable pub open_answer_lines : Unit {0}
unfolding ring_coordinates_step ring_coordinates answer_bytes job_parsed answer_line
open_answer_lines = tt
