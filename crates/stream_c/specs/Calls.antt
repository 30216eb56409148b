-- What the calls for C on a stream answer, and the state and the output after them. Assumes nothing.
use Rattle.std.specs.Prelude.{ℕ, cond, List, leb, eqb, length}
use Rattle.error.specs.declared.Refusal.{Refusal}
use Rattle.error.specs.declared.Refusal.TheVariants.{Granted, Short}
use Rattle.error.specs.declared.Carried.{Carried}
use Rattle.error.specs.Refusals.{granted}
use Rattle.error.specs.Carries.{carried}
use Rattle.told.specs.declared.LwLine.{LwLine}
use Rattle.told.specs.Told.{line_answer}
use Rattle.job_stream.specs.declared.Outcome.{Outcome}
use Rattle.job_stream.specs.Feeding.{Feed, outcome_refusal}
use Rattle.job_lines.specs.declared.Fed.{Fed}
use Rattle.job_lines.specs.declared.Last.{Last}
use Rattle.job_lines.specs.Wire.{feed_told, stream_fed, held_of, out_of, finish_told, finish_written}
use Rattle.stream_c.specs.declared.LwFed.{LwFed}
use Rattle.stream_c.specs.State.{state_size, said, saying, room, with_room, judged, passes}

-- ---- a state is made: it holds nothing

unfoldable pub made_refusal : List ℕ → Refusal
made_refusal state = cond (leb state_size (length state)) Granted (Short state_size)

unfoldable pub made : List ℕ → LwLine
made state = line_answer (made_refusal state) (carried (made_refusal state)) state_size

unfoldable pub made_state : List ℕ → List ℕ
made_state state = cond (leb state_size (length state)) (saying state 0) state

-- ---- the next bytes of the input

unfoldable pub fed_answer : Carried → ℕ → ℕ → LwFed
fed_answer c taken written = record { refusal = c.question; first = c.first; taken = taken; written = written }

-- That the output is full is a refusal only where nothing is written: else the caller goes on from what is taken.
unfoldable pub heard : Outcome → ℕ → Refusal
heard o written = cond (eqb written 0) (outcome_refusal o) Granted

unfoldable pub feed_answer : Fed → LwFed
feed_answer f = fed_answer (carried (heard f.outcome f.used)) f.taken f.used

unfoldable pub feed_state : List ℕ → Feed → List ℕ
feed_state state s = saying (with_room state (held_of s)) s.count

-- `lw_feed`: what it answers, and the state and the output after it
unfoldable pub lw_feed : List ℕ → List ℕ → List ℕ → LwFed
lw_feed block state out =
    cond (passes state) (feed_answer (feed_told block (room state) (said state) out)) (fed_answer (carried (judged state)) 0 0)

unfoldable pub lw_feed_state : List ℕ → List ℕ → List ℕ → List ℕ
lw_feed_state block state out = cond (passes state) (feed_state state (stream_fed block (room state) (said state) out)) state

unfoldable pub lw_feed_out : List ℕ → List ℕ → List ℕ → List ℕ
lw_feed_out block state out = cond (passes state) (out_of (stream_fed block (room state) (said state) out)) out

-- ---- the end of the input

unfoldable pub finish_answer : Last → LwFed
finish_answer l = fed_answer (carried (outcome_refusal l.outcome)) 0 l.used

-- once it is granted, nothing is held
unfoldable pub finish_state : List ℕ → Last → List ℕ
finish_state state l = cond (granted (outcome_refusal l.outcome)) (saying state 0) state

-- `lw_finish`: what it answers, and the state and the output after it
unfoldable pub lw_finish : List ℕ → List ℕ → LwFed
lw_finish state out =
    cond (passes state) (finish_answer (finish_told (room state) (said state) out)) (fed_answer (carried (judged state)) 0 0)

unfoldable pub lw_finish_state : List ℕ → List ℕ → List ℕ
lw_finish_state state out = cond (passes state) (finish_state state (finish_told (room state) (said state) out)) state

unfoldable pub lw_finish_out : List ℕ → List ℕ → List ℕ
lw_finish_out state out = cond (passes state) (finish_written (room state) (said state) out) out

-- opens every definition above, for a proof that computes with all of them
unfoldable pub open_calls : Unit {0}
unfolding made_refusal made made_state fed_answer heard feed_answer feed_state lw_feed lw_feed_state lw_feed_out finish_answer finish_state
    lw_finish lw_finish_state lw_finish_out
open_calls = tt
