-- One line of bytes to one line of bytes, and the stream of lines, with the memory that is lent. Assumes nothing.
use Rattle.std.specs.Prelude.{ℕ, ◌+◌, ◌-◌, ◌≤◌, ◌<◌, Bool, true, false, cond, ◌&&◌, ◌⊎◌, ◌≡◌, List, [], leb, eqb, length, take, drop, Float}
use Rattle.format_digits.specs.Stores.{put}
use Rattle.job.specs.Jobs.{job}
use Rattle.job.specs.Stream.{answered, written}
use Rattle.job_answer.specs.Writing.{writable}
use Rattle.job_answer.specs.declared.Answered.{Answered}
use Rattle.error.specs.Carries.{carried}
use Rattle.job_stream.specs.Feeding.{most_held, Feed, fed, machine, how_ended, memory_outcome}
use Rattle.job_stream.specs.Progress.{enough_output, next_answer, NextUnfit}
use Rattle.job_stream.specs.declared.Outcome.TheVariants.{Whole, Full, Unheld, Miscounted}
use Rattle.job_lines.specs.declared.Put.{Put}
use Rattle.job_lines.specs.declared.Fed.{Fed}
use Rattle.job_lines.specs.declared.Taken.{Taken}
use Rattle.job_lines.specs.declared.Last.{Last}
use Rattle.job_lines.specs.declared.Step.{Step}
use Rattle.job_stream.specs.declared.Next.{Next}

-- ---- an answer line with its LF, to lent bytes from `used` on

unfoldable pub answer_fits : List ℕ → List ℕ → ℕ → Bool
answer_fits line out used = leb (used + length (answered line)) (length out)

unfoldable pub answer_put : List ℕ → List ℕ → ℕ → Put
answer_put line out used =
    record {
      fits = answer_fits line out used;
      used = cond (answer_fits line out used) (used + length (answered line)) used;
      needed = length (answered line);
    }

-- what the write of an answer line answered tells its bytes: those that are written, or those that question 20 carries
unfoldable pub needed_by : Answered → ℕ
needed_by a = a.count + (carried a.refusal).first + 1

unfoldable pub put_written : List ℕ → List ℕ → ℕ → List ℕ
put_written line out used = cond (answer_fits line out used) (put out used (answered line)) out

-- ---- the stream

-- the bytes of the line that was found
unfoldable pub line_of : List ℕ → ℕ → Next → List ℕ → List ℕ
line_of block at next held = cond next.direct (take (next.stop - at) (drop at block)) (take next.count held)

-- the stream before a line of a block, and what is handed back after it
unfoldable pub feed_of : ℕ → List ℕ → ℕ → List ℕ → ℕ → Feed
feed_of at held count out used = record { at = at; held = held; count = count; out = out; used = used; needed = 0; more = true }

unfoldable pub step_told : Feed → Step
step_told s = record { at = s.at; count = s.count; used = s.used; needed = s.needed; more = s.more }

unfoldable pub held_of : Feed → List ℕ
held_of s = s.held

unfoldable pub out_of : Feed → List ℕ
out_of s = s.out

-- the memory lent for a cut line has its room
unfoldable pub holds : List ℕ → ℕ → Bool
holds held count = leb most_held (length held) && leb count most_held

-- where it has not, nothing is taken
unfoldable pub stuck : List ℕ → ℕ → List ℕ → Feed
stuck held count out = record { at = 0; held = held; count = count; out = out; used = 0; needed = 0; more = false }

unfoldable pub stream_fed : List ℕ → List ℕ → ℕ → List ℕ → Feed
stream_fed block held count out = cond (holds held count) (fed block held count out) (stuck held count out)

unfoldable pub told : Feed → Taken
told s = record { at = s.at; count = s.count; used = s.used; needed = s.needed }

-- and how the call ended
unfoldable pub feed_as : List ℕ → List ℕ → ℕ → Feed → Fed
feed_as block held count s =
    record {
      taken = s.at;
      count = s.count;
      used = s.used;
      outcome = memory_outcome held count (how_ended (eqb s.at (length block)) s.needed);
    }

unfoldable pub feed_told : List ℕ → List ℕ → ℕ → List ℕ → Fed
feed_told block held count out = feed_as block held count (stream_fed block held count out)

-- ---- the end of the input ends a line that has a byte

unfoldable pub last_line : List ℕ → ℕ → Bool
last_line held count = holds held count && leb 1 count

unfoldable pub finished : List ℕ → ℕ → List ℕ → Put
finished held count out =
    cond (last_line held count) (answer_put (take count held) out 0) (record { fits = holds held count; used = 0; needed = 0 })

unfoldable pub finish_written : List ℕ → ℕ → List ℕ → List ℕ
finish_written held count out = cond (last_line held count) (put_written (take count held) out 0) out

unfoldable pub finish_told : List ℕ → ℕ → List ℕ → Last
finish_told held count out =
    record {
      used = (finished held count out).used;
      outcome = memory_outcome held count (how_ended (finished held count out).fits (finished held count out).needed);
    }

-- ---- what is to hold

-- what a job hands back can always be written
abbrev pub JobWritable : Type 0
JobWritable = (outward : Bool) (d : Float) (lengths : List ℕ) (ps : List Float) → writable (job outward d lengths ps) ≡ true

-- after a call with the memory that it needs: the whole block is taken, or the next answer does not fit the output, with its bytes
abbrev pub EndedBy : List ℕ → Feed → Fed → Type 0
EndedBy block s f =
    (f.outcome ≡ Whole × f.taken ≡ length block) ⊎ (f.outcome ≡ Full (length (next_answer block s)) × NextUnfit block s)

-- How a call ended is told apart: too little memory for a cut line; a count that no call hands back; else one of those two.
pub record FeedEnds (block held : List ℕ) (count : ℕ) (out : List ℕ) : Type 0 where
  pub unheld : length held < most_held → (feed_told block held count out).outcome ≡ Unheld
  pub miscounted : most_held ≤ length held → most_held < count → (feed_told block held count out).outcome ≡ Miscounted
  pub enough : holds held count ≡ true → EndedBy block (fed block held count out) (feed_told block held count out)

abbrev pub EndsApart : Type 0
EndsApart = (block held : List ℕ) (count : ℕ) (out : List ℕ) → FeedEnds block held count out

-- with 16,385 bytes of output the end of the input is answered, and what is written is what the machine then writes
abbrev pub Finishes : Type 0
Finishes =
    (held : List ℕ) (count : ℕ) (out : List ℕ) → holds held count ≡ true → enough_output ≤ length out
    → ((finish_told held count out).outcome ≡ Whole)
    × (take (finish_told held count out).used (finish_written held count out) ≡ written (machine held count []))

-- with less, too, where the answer fits
abbrev pub FinishesFitting : Type 0
FinishesFitting =
    (held : List ℕ) (count : ℕ) (out : List ℕ) → holds held count ≡ true → (finished held count out).fits ≡ true
    → take (finish_told held count out).used (finish_written held count out) ≡ written (machine held count [])

-- the input's end ends a line, and its answer does not fit the output
pub record LastUnfit (held : List ℕ) (count : ℕ) (out : List ℕ) : Type 0 where
  pub last : 1 ≤ count
  pub unfit : length out < length (answered (take count held))

-- after a call at the input's end with the memory that it needs: what is written is what the machine then writes, or the last line's answer
-- does not fit the output, with its bytes
abbrev pub FinishedBy : List ℕ → ℕ → List ℕ → Type 0
FinishedBy held count out =
    ((finish_told held count out).outcome ≡ Whole
    × take (finish_told held count out).used (finish_written held count out) ≡ written (machine held count []))
    ⊎ ((finish_told held count out).outcome ≡ Full (length (answered (take count held))) × LastUnfit held count out)

-- How the input's end was answered is told apart as a block's is.
pub record FinishEnds (held : List ℕ) (count : ℕ) (out : List ℕ) : Type 0 where
  pub unheld : length held < most_held → (finish_told held count out).outcome ≡ Unheld
  pub miscounted : most_held ≤ length held → most_held < count → (finish_told held count out).outcome ≡ Miscounted
  pub enough : holds held count ≡ true → FinishedBy held count out

abbrev pub FinishApart : Type 0
FinishApart = (held : List ℕ) (count : ℕ) (out : List ℕ) → FinishEnds held count out

-- opens every definition above, for a proof that computes with all of them
unfoldable pub open_wire : Unit {0}
unfolding answer_fits answer_put needed_by put_written line_of feed_of step_told held_of out_of holds stuck stream_fed told feed_as
    feed_told last_line finished finish_written finish_told
open_wire = tt
