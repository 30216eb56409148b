-- That the stream goes on: a call stops before the block's end only where the next answer does not fit its output, and with 16,385 bytes of
-- output each call takes a line or all that is left, because no answer line has more than 16,384 bytes (`AnswerInLine`). So a loop of calls
-- takes every block that is read, and every line is answered. Proved in `proofs/Progress.antt`. Assumes nothing.
use Rattle.std.specs.Prelude.{ℕ, suc, ◌+◌, ◌≤◌, ◌<◌, Bool, true, false, ◌⊎◌, ◌≡◌, List, [], ◌∷◌, ◌++◌, eqb, length, take, drop}
use Rattle.base.specs.Loop.{rounds}
use Rattle.format.specs.Fields.{line_feed}
use Rattle.job.specs.Stream.{answered, answers, block_taken, joined, written}
use Rattle.job_stream.specs.Feeding.{before_feed, line_part, is_ended, most_held, Feed, fed, machine}

-- ---- one call

-- the answer of the line that is cut out next, with its LF: what is held of the line and what the block still has of it
unfoldable pub next_answer : List ℕ → Feed → List ℕ
next_answer block s = answered (take s.count s.held ++ line_part block s.at)

-- an LF is ahead in the block, and the answer of the line that it ends, whose bytes are told, does not fit what is left of the output
pub record NextUnfit (block : List ℕ) (s : Feed) : Type 0 where
  pub ahead : is_ended block s.at ≡ true
  pub needed : s.needed ≡ length (next_answer block s)
  pub unfit : length s.out < s.used + length (next_answer block s)

-- A call takes its whole block, or stops there.
abbrev pub StopsFull : Type 0
StopsFull =
    (block held : List ℕ) (count : ℕ) (out : List ℕ) → count ≤ most_held → most_held ≤ length held
    → ((fed block held count out).at ≡ length block) ⊎ NextUnfit block (fed block held count out)

-- Where all answers of its lines fit the output, it takes the whole block. They are what the byte machine writes.
abbrev pub TakesAll : Type 0
TakesAll =
    (block held : List ℕ) (count : ℕ) (out : List ℕ) → count ≤ most_held → most_held ≤ length held
    → length (block_taken (machine held count []) block).output ≤ length out → (fed block held count out).at ≡ length block

-- the bytes of an output that any answer line fits, with its LF
abbrev pub enough_output : ℕ
enough_output = 16385

-- With as much output, a call takes the whole block, or its first line with the LF, if not more.
abbrev pub TakesALine : Type 0
TakesALine =
    (block held : List ℕ) (count : ℕ) (out : List ℕ) → count ≤ most_held → most_held ≤ length held →
    enough_output ≤ length out
    → ((fed block held count out).at ≡ length block) ⊎ (before_feed block < (fed block held count out).at)

-- ---- the program's loop: calls on what is left of a block, with the same output again and again

pub record Rounds : Type 0 where
  pub rest : List ℕ
  pub held : List ℕ
  pub count : ℕ
  pub out : List ℕ
  pub sent : List ℕ

unfoldable pub round_made : Rounds → Feed → Rounds
round_made t s =
    record { rest = drop s.at t.rest; held = s.held; count = s.count; out = s.out; sent = t.sent ++ take s.used s.out }

unfoldable pub round : ℕ → Rounds → Rounds
round k t = round_made t (fed t.rest t.held t.count t.out)

-- how many lines end in a block
unfoldable pub feeds_by : Bool → ℕ → ℕ
feeds_by true n = suc n
feeds_by false n = n

unfoldable pub line_feeds : List ℕ → ℕ
line_feeds [] = 0
line_feeds (b ∷ bytes) = feeds_by (eqb b line_feed) (line_feeds bytes)

-- what a block's rounds begin with
unfoldable pub with_block : Rounds → List ℕ → Rounds
with_block t block = record { rest = block; held = t.held; count = t.count; out = t.out; sent = t.sent }

-- all of the block is taken, and the machine, fed it, holds the same line and has written what was sent
pub record Taken (t : Rounds) (block : List ℕ) (u : Rounds) : Type 0 where
  pub rest : u.rest ≡ []
  pub most : u.count ≤ most_held
  pub room : length u.held ≡ length t.held
  pub size : length u.out ≡ length t.out
  pub same : block_taken (machine t.held t.count t.sent) block ≡ machine u.held u.count u.sent

-- After one call a line that ends in it, and one more, no byte of a block is left.
abbrev pub BlockTaken : Type 0
BlockTaken =
    (t : Rounds) (block : List ℕ) (n : ℕ) → t.count ≤ most_held → most_held ≤ length t.held →
    enough_output ≤ length t.out
    → line_feeds block + 1 ≤ n → Taken t block (rounds round n (with_block t block))

-- ---- the program: block after block, and then the end of the input

unfoldable pub block_taken_in : Rounds → List ℕ → Rounds
block_taken_in t block = rounds round (line_feeds block + 1) (with_block t block)

unfoldable pub blocks_taken_in : Rounds → List (List ℕ) → Rounds
blocks_taken_in t [] = t
blocks_taken_in t (block ∷ rest) = blocks_taken_in (block_taken_in t block) rest

unfoldable pub rounds_start : List ℕ → List ℕ → Rounds
rounds_start held out = record { rest = []; held = held; count = 0; out = out; sent = [] }

-- what is sent and then the answer of a last line without LF
unfoldable pub all_sent : Rounds → List ℕ
all_sent t = t.sent ++ written (machine t.held t.count [])

-- Wherever the input is cut into blocks: what is sent is the answers of every line.
abbrev pub EveryLine : Type 0
EveryLine =
    (held out : List ℕ) (blocks : List (List ℕ)) → most_held ≤ length held → enough_output ≤ length out
    → all_sent (blocks_taken_in (rounds_start held out) blocks) ≡ answers (joined blocks)

-- opens every definition above, for a proof that computes with all of them
unfoldable pub open_progress : Unit {0}
unfolding next_answer round_made round feeds_by line_feeds with_block block_taken_in blocks_taken_in rounds_start all_sent
open_progress = tt
