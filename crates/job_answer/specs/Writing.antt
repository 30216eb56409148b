-- An answer line to lent bytes: 21 of the shape, then 20. Assumes nothing.
use Rattle.std.specs.Prelude.{ℕ, ◌+◌, ◌*◌, Bool, true, cond, not, ◌&&◌, ◌||◌, List, [], ◌∷◌, ◌++◌, leb, get_or, length, take, drop, Float}
use Rattle.error.specs.declared.Refusal.TheVariants.{Shape}
use Rattle.error.specs.Refusals.{granted}
use Rattle.region.specs.declared.RegionOffset.{RegionOffset}
use Rattle.base.specs.Loop.{rounds}
use Rattle.region.specs.Checks.{proper_region}
use Rattle.format.specs.Fields.{comma}
use Rattle.format.specs.Numerals.{count_digits}
use Rattle.format.specs.Lines.{ok_word, with_floats, bytes_refusal, bytes_written}
use Rattle.job.specs.AnswerLines.{answer_bytes}
use Rattle.job_answer.specs.declared.Answered.{Answered}

-- ---- 21, asked first of the shape that is handed in; a refused job has none to write

unfoldable pub writable : RegionOffset → Bool
writable a = not (granted a.refusal) || proper_region a.shape

-- what passes 21 has holes of at most 32 vertices
unfoldable pub hole_fit_step : List ℕ → ℕ → Bool → Bool
hole_fit_step counts k s = s && leb (get_or counts k 0) 32

unfoldable pub holes_fit : List ℕ → ℕ → Bool
holes_fit counts holes = rounds (hole_fit_step counts) holes true

-- ---- 20: what a write of these bytes answers

unfoldable pub bytes_answered : List ℕ → List ℕ → Answered
bytes_answered bytes out = record { refusal = bytes_refusal bytes out; count = cond (leb (length bytes) (length out)) (length bytes) 0 }

-- what the write of an answer line answers, and the lent bytes afterwards
unfoldable pub answered : RegionOffset → List ℕ → Answered
answered a out = cond (writable a) (bytes_answered (answer_bytes a) out) (record { refusal = Shape; count = 0 })

unfoldable pub answer_written : RegionOffset → List ℕ → List ℕ
answer_written a out = cond (writable a) (bytes_written (answer_bytes a) out) out

-- ---- the same bytes, part by part

-- the counts of the first holes, each after its comma
unfoldable pub counts_bytes_step : List ℕ → ℕ → List ℕ → List ℕ
counts_bytes_step counts k line = line ++ comma ∷ count_digits (get_or counts k 0)

unfoldable pub counts_bytes : List ℕ → ℕ → List ℕ
counts_bytes counts n = rounds (counts_bytes_step counts) n []

-- their coordinates
unfoldable pub hole_numbers : List Float → List ℕ → ℕ → List Float
hole_numbers points counts k = take (2 * get_or counts k 0) (drop (64 * k) points)

unfoldable pub holes_bytes_step : List Float → List ℕ → ℕ → List ℕ → List ℕ
holes_bytes_step points counts k line = line ++ with_floats (hole_numbers points counts k) []

unfoldable pub holes_bytes : List Float → List ℕ → ℕ → List ℕ
holes_bytes points counts n = rounds (holes_bytes_step points counts) n []

unfoldable pub vertices_step : List ℕ → ℕ → ℕ → ℕ
vertices_step counts k s = s + get_or counts k 0

unfoldable pub hole_vertices : List ℕ → ℕ → ℕ
hole_vertices counts n = rounds (vertices_step counts) n 0

-- `ok`, ring count, vertex counts
unfoldable pub head_bytes : ℕ → List ℕ → ℕ → List ℕ
head_bytes count counts holes =
    ((ok_word ++ comma ∷ count_digits (holes + 1)) ++ comma ∷ count_digits count) ++ counts_bytes counts holes

-- an answer line of an outer ring and its holes
unfoldable pub shape_bytes : List Float → ℕ → List Float → List ℕ → ℕ → List ℕ
shape_bytes outer count points counts holes =
    (head_bytes count counts holes ++ with_floats (take (2 * count) outer) []) ++ holes_bytes points counts holes

-- opens every definition above, for a proof that computes with all of them
unfoldable pub open_writing : Unit {0}
unfolding writable hole_fit_step holes_fit bytes_answered answered answer_written counts_bytes_step counts_bytes hole_numbers
    holes_bytes_step holes_bytes vertices_step hole_vertices head_bytes shape_bytes
open_writing = tt
