-- The stream of lines, a block of bytes at a time. A line that lies whole in a block is answered where it is; of one that a block's end
-- cuts, the bytes are held in lent memory, at most 16,385 of them. `Feeds` and `AnyCalls`, proved in `proofs/Machine.antt`, tie this to the
-- byte machine of `Stream`. Assumes nothing.
use Rattle.std.specs.Prelude.{ℕ, suc, ◌+◌, ◌-◌, ◌≤◌, Bool, true, false, cond, ◌&&◌, ◌≡◌, List, [], ◌∷◌, ◌++◌, leb, ltb, eqb, length, take, drop}
use Rattle.base.specs.Loop.{rounds}
use Rattle.format_digits.specs.Stores.{put}
use Rattle.format.specs.Fields.{line_feed}
use Rattle.error.specs.declared.Refusal.{Refusal}
use Rattle.error.specs.declared.Refusal.TheVariants.{Granted, Short, Shape}
use Rattle.job_stream.specs.declared.Next.{Next}
use Rattle.job_stream.specs.declared.Outcome.{Outcome}
use Rattle.job_stream.specs.declared.Outcome.TheVariants.{Whole, Full, Unheld, Miscounted}
use Rattle.job.specs.Stream.{StreamState, answered, answers, block_taken, joined, written}

-- ---- where a line ends

unfoldable pub before_by : Bool → ℕ → ℕ
before_by true n = 0
before_by false n = suc n

-- how many bytes stand before the first LF, or all of them
unfoldable pub before_feed : List ℕ → ℕ
before_feed [] = 0
before_feed (b ∷ bytes) = before_by (eqb b line_feed) (before_feed bytes)

-- the place of the first LF from `at` on, or the end of the block
unfoldable pub line_end : List ℕ → ℕ → ℕ
line_end block at = at + before_feed (drop at block)

-- the bytes from `at` up to there
unfoldable pub line_part : List ℕ → ℕ → List ℕ
line_part block at = take (before_feed (drop at block)) (drop at block)

-- ---- the bytes of a cut line: 16,384 and one that makes it a line above the limit

abbrev pub most_held : ℕ
most_held = 16385

unfoldable pub held_with : List ℕ → ℕ → List ℕ → List ℕ
held_with held count part = put held count (take (most_held - count) part)

unfoldable pub count_with : ℕ → List ℕ → ℕ
count_with count part = count + length (take (most_held - count) part)

-- ---- the next line of a block

unfoldable pub is_ended : List ℕ → ℕ → Bool
is_ended block at = ltb (line_end block at) (length block)

unfoldable pub is_direct : List ℕ → ℕ → ℕ → Bool
is_direct block at count = is_ended block at && eqb count 0

unfoldable pub next_count : List ℕ → ℕ → ℕ → ℕ
next_count block at count = cond (is_direct block at count) count (count_with count (line_part block at))

unfoldable pub next_held : List ℕ → ℕ → List ℕ → ℕ → List ℕ
next_held block at held count = cond (is_direct block at count) held (held_with held count (line_part block at))

-- the bytes of the line
unfoldable pub next_bytes : List ℕ → ℕ → List ℕ → ℕ → List ℕ
next_bytes block at held count =
    cond (is_direct block at count) (line_part block at) (take (next_count block at count) (next_held block at held count))

-- what the search for the next line answers
unfoldable pub next_of : List ℕ → ℕ → ℕ → Next
next_of block at count =
    record { stop = line_end block at; ended = is_ended block at; direct = is_direct block at count; count = next_count block at count }

-- ---- a block

-- `at` bytes of the block are taken, `used` bytes of the output written; `more` until the block is taken or an answer does not fit the
-- output, which then has `needed` bytes with its LF.
pub record Feed : Type 0 where
  pub at : ℕ
  pub held : List ℕ
  pub count : ℕ
  pub out : List ℕ
  pub used : ℕ
  pub needed : ℕ
  pub more : Bool

-- the block's end cuts the line
unfoldable pub feed_cut : List ℕ → Feed → Feed
feed_cut block s =
    record {
      at = line_end block s.at;
      held = next_held block s.at s.held s.count;
      count = next_count block s.at s.count;
      out = s.out;
      used = s.used;
      needed = 0;
      more = false;
    }

-- the line is answered
unfoldable pub feed_answered : List ℕ → Feed → List ℕ → Feed
feed_answered block s bytes =
    record {
      at = line_end block s.at + 1;
      held = next_held block s.at s.held s.count;
      count = 0;
      out = put s.out s.used bytes;
      used = s.used + length bytes;
      needed = 0;
      more = true;
    }

-- the answer does not fit: its LF is not taken
unfoldable pub feed_full : List ℕ → Feed → List ℕ → Feed
feed_full block s bytes =
    record {
      at = cond (is_direct block s.at s.count) s.at (line_end block s.at);
      held = next_held block s.at s.held s.count;
      count = next_count block s.at s.count;
      out = s.out;
      used = s.used;
      needed = length bytes;
      more = false;
    }

unfoldable pub feed_ended : List ℕ → Feed → List ℕ → Feed
feed_ended block s bytes = cond (leb (s.used + length bytes) (length s.out)) (feed_answered block s bytes) (feed_full block s bytes)

unfoldable pub feed_line : List ℕ → Feed → Feed
feed_line block s =
    cond (is_ended block s.at) (feed_ended block s (answered (next_bytes block s.at s.held s.count))) (feed_cut block s)

unfoldable pub feed_step : List ℕ → ℕ → Feed → Feed
feed_step block k s = cond s.more (feed_line block s) s

unfoldable pub feed_start : List ℕ → ℕ → List ℕ → Feed
feed_start held count out = record { at = 0; held = held; count = count; out = out; used = 0; needed = 0; more = true }

unfoldable pub fed : List ℕ → List ℕ → ℕ → List ℕ → Feed
fed block held count out = rounds (feed_step block) (length block + 1) (feed_start held count out)

-- ---- how a call ended

-- where its memory has the room: all is taken, or an answer does not fit the output
unfoldable pub how_ended : Bool → ℕ → Outcome
how_ended whole needed = cond whole Whole (Full needed)

-- first the memory lent for a cut line, then the count of what it is said to hold
unfoldable pub memory_outcome : List ℕ → ℕ → Outcome → Outcome
memory_outcome held count o = cond (leb most_held (length held)) (cond (leb count most_held) o Miscounted) Unheld

-- "When an answer is an enum, a definition gives this paper's number and values for each of its cases": 20 with the bytes needed, of
-- the output or of the memory for a cut line, and 21 of a count that no call hands back
unfoldable pub outcome_refusal : Outcome → Refusal
outcome_refusal Whole = Granted
outcome_refusal (Full needed) = Short needed
outcome_refusal Unheld = Short most_held
outcome_refusal Miscounted = Shape

-- ---- what is to hold

-- the machine in the state that is held
abbrev pub machine : List ℕ → ℕ → List ℕ → StreamState
machine held count output = record { line = take count held; output = output }

-- The byte machine, fed the bytes that are taken, holds the same line and has written the same bytes.
pub record Fed (block held : List ℕ) (count : ℕ) (out : List ℕ) (s : Feed) : Type 0 where
  pub taken : s.at ≤ length block
  pub most : s.count ≤ most_held
  pub room : length s.held ≡ length held
  pub used : s.used ≤ length out
  pub size : length s.out ≡ length out
  pub same : block_taken (machine held count []) (take s.at block) ≡ machine s.held s.count (take s.used s.out)

abbrev pub Feeds : Type 0
Feeds = (block held : List ℕ) (count : ℕ) (out : List ℕ) → count ≤ most_held → most_held ≤ length held →
    Fed block held count out (fed block held count out)

-- Calls one after the other, each with any block and any output. What each call takes of its block, and what it writes:
pub record Call : Type 0 where
  pub block : List ℕ
  pub out : List ℕ

unfoldable pub call_fed : List ℕ → ℕ → Call → Feed
call_fed held count c = fed c.block held count c.out

unfoldable pub all_taken : List ℕ → ℕ → List Call → List (List ℕ)
all_taken held count [] = []
all_taken held count (c ∷ calls) =
    take (call_fed held count c).at c.block ∷ all_taken (call_fed held count c).held (call_fed held count c).count calls

-- what they write together, and then the answer of a last line without LF
unfoldable pub all_written : List ℕ → ℕ → List Call → List ℕ
all_written held count [] = written (machine held count [])
all_written held count (c ∷ calls) =
    take (call_fed held count c).used (call_fed held count c).out ++ all_written (call_fed held count c).held
    (call_fed held count c).count calls

-- Wherever the input is cut into blocks, and however short the outputs: what is written is the answers of what is taken.
abbrev pub AnyCalls : Type 0
AnyCalls = (held : List ℕ) (calls : List Call) → most_held ≤ length held →
    all_written held 0 calls ≡ answers (joined (all_taken held 0 calls))

-- opens every definition above, for a proof that computes with all of them
unfoldable pub open_feeding : Unit {0}
unfolding before_by before_feed line_end line_part held_with count_with is_ended is_direct next_count next_held next_bytes next_of feed_cut
    feed_answered feed_full feed_ended feed_line feed_step feed_start fed how_ended memory_outcome outcome_refusal call_fed all_taken
    all_written
open_feeding = tt
