-- 01, "Job lines": a stream of bytes as lines, one job a line, and the bytes that the program writes for them: one answer line a job, each
-- with its LF.
-- `answers` says it of the whole input; the machine takes one byte at a time, and its laws, proved in `proofs/Stream.antt`, say that the
-- two agree wherever the input is cut into blocks. Assumes nothing.
use Rattle.std.specs.Prelude.{ℕ, ◌+◌, Bool, true, false, cond, ◌≡◌, List, [], ◌∷◌, ◌++◌, ltb, eqb, get_or, length}
use Rattle.base.specs.Loop.{rounds}
use Rattle.format.specs.Fields.{line_feed, lines}
use Rattle.format.specs.Lines.{longest_line}
use Rattle.job.specs.AnswerLines.{answer_line}

-- ---- the whole input

-- "The program prints one line a job"
unfoldable pub answered : List ℕ → List ℕ
answered line = answer_line line ++ line_feed ∷ []

unfoldable pub all_answered : List (List ℕ) → List ℕ
all_answered [] = []
all_answered (line ∷ rest) = answered line ++ all_answered rest

unfoldable pub answers : List ℕ → List ℕ
answers input = all_answered (lines input)

-- ---- the same, a byte at a time

-- `line` has the bytes since the last LF, or the first 16,385 of them, and `output` what has been written so far.
pub record StreamState : Type 0 where
  pub line : List ℕ
  pub output : List ℕ

unfoldable pub stream_start : StreamState
stream_start = record { line = []; output = [] }

-- a line above 16,384 bytes "is passed over to its LF": one byte past the limit is kept, which makes it a line above the limit
unfoldable pub kept_byte : List ℕ → ℕ → List ℕ
kept_byte line b = cond (ltb (length line) (longest_line + 1)) (line ++ b ∷ []) line

unfoldable pub with_byte : StreamState → ℕ → StreamState
with_byte s b = record { line = kept_byte s.line b; output = s.output }

unfoldable pub with_answer : StreamState → StreamState
with_answer s = record { line = []; output = s.output ++ answered s.line }

unfoldable pub byte_by : Bool → StreamState → ℕ → StreamState
byte_by true s b = with_answer s
byte_by false s b = with_byte s b

unfoldable pub byte_taken : StreamState → ℕ → StreamState
byte_taken s b = byte_by (eqb b line_feed) s b

unfoldable pub block_step : List ℕ → ℕ → StreamState → StreamState
block_step block k s = byte_taken s (get_or block k 0)

-- a block of bytes, one after the other
unfoldable pub block_taken : StreamState → List ℕ → StreamState
block_taken s block = rounds (block_step block) (length block) s

-- the end of input ends a line that has a byte
unfoldable pub ended_by : List ℕ → StreamState → StreamState
ended_by [] s = s
ended_by (b ∷ line) s = with_answer s

unfoldable pub written : StreamState → List ℕ
written s = (ended_by s.line s).output

-- ---- blocks

unfoldable pub blocks_taken : StreamState → List (List ℕ) → StreamState
blocks_taken s [] = s
blocks_taken s (block ∷ rest) = blocks_taken (block_taken s block) rest

unfoldable pub joined : List (List ℕ) → List ℕ
joined [] = []
joined (block ∷ rest) = block ++ joined rest

-- ---- what is to hold

-- the machine with `output` written before what it has written
unfoldable pub after_output : List ℕ → StreamState → StreamState
after_output output s = record { line = s.line; output = output ++ s.output }

-- the machine, fed a whole input and ended, has written its answers
abbrev pub MachineAnswers : Type 0
MachineAnswers = (input : List ℕ) → written (block_taken stream_start input) ≡ answers input

-- to feed a concatenation is to feed one part after the other
abbrev pub FeedingParts : Type 0
FeedingParts = (s : StreamState) (front back : List ℕ) → block_taken s (front ++ back) ≡ block_taken (block_taken s front) back

-- what was written before does not matter: a call that starts with no output writes what is added to it
abbrev pub OutputAdded : Type 0
OutputAdded = (line output block : List ℕ) →
    block_taken (record { line = line; output = output }) block ≡ after_output output
    (block_taken (record { line = line; output = [] }) block)

-- wherever the input is cut into blocks, the answers are those of the whole
abbrev pub AnyBlocks : Type 0
AnyBlocks = (blocks : List (List ℕ)) → written (blocks_taken stream_start blocks) ≡ answers (joined blocks)

-- opens every definition above, for a proof that computes with all of them
unfoldable pub open_stream : Unit {0}
unfolding answered all_answered answers stream_start kept_byte with_byte with_answer byte_by byte_taken block_step block_taken ended_by
    written blocks_taken joined after_output
open_stream = tt
