-- What is to hold of the calls for C on a stream, proved in `proofs/Streamed.antt`. Assumes nothing.
use Rattle.std.specs.Prelude.{ℕ, ◌≤◌, ◌<◌, true, ◌⊎◌, ◌≡◌, List, [], ◌∷◌, ◌++◌, length, take, drop}
use Rattle.told.specs.declared.LwLine.{LwLine}
use Rattle.job.specs.Stream.{answered, answers, joined, written}
use Rattle.job_stream.specs.Feeding.{most_held, Call, fed, machine}
use Rattle.job_stream.specs.Progress.{enough_output, next_answer}
use Rattle.stream_c.specs.declared.LwFed.{LwFed}
use Rattle.stream_c.specs.State.{state_size, said, room, passes}
use Rattle.stream_c.specs.Calls.{made, made_state, lw_feed, lw_feed_state, lw_feed_out, lw_finish, lw_finish_state, lw_finish_out}

-- ---- a state is made

-- granted where there are bytes enough, and else 20 and none is touched; either way `count` says how many they have to be
pub record Made (state after : List ℕ) (a : LwLine) : Type 0 where
  pub enough : state_size ≤ length state → a.refusal ≡ 0
  pub short : length state < state_size → (a.refusal ≡ 20) × (after ≡ state)
  pub count : a.count ≡ state_size

abbrev pub MadeTells : Type 0
MadeTells = (state : List ℕ) → Made state (made_state state) (made state)

-- ---- a state that passes passes again

-- the bytes of a state before and after a call; those past its size are the caller's
pub record Kept (before after : List ℕ) : Type 0 where
  pub size : length after ≡ length before
  pub past : drop state_size after ≡ drop state_size before
  pub passed : passes before ≡ true → passes after ≡ true

abbrev pub MadeKeeps : Type 0
MadeKeeps = (state : List ℕ) → Kept state (made_state state)

abbrev pub MadePasses : Type 0
MadePasses = (state : List ℕ) → state_size ≤ length state → (passes (made_state state) ≡ true) × (said (made_state state) ≡ 0)

-- So no call on a state that `lw_stream` made is refused with 21.
abbrev pub FeedKeeps : Type 0
FeedKeeps = (block state out : List ℕ) → Kept state (lw_feed_state block state out)

abbrev pub FinishKeeps : Type 0
FinishKeeps = (state out : List ℕ) → Kept state (lw_finish_state state out)

-- ---- what a call does not write is as it was

-- the output before and after a call that wrote so many bytes
pub record Behind (written : ℕ) (before after : List ℕ) : Type 0 where
  pub size : length after ≡ length before
  pub rest : drop written after ≡ drop written before

abbrev pub FeedLeaves : Type 0
FeedLeaves = (block state out : List ℕ) → Behind (lw_feed block state out).written out (lw_feed_out block state out)

abbrev pub FinishLeaves : Type 0
FinishLeaves = (state out : List ℕ) → Behind (lw_finish state out).written out (lw_finish_out state out)

-- ---- a state that no call can work on

pub record Untouched (a : LwFed) (state after out put : List ℕ) : Type 0 where
  pub taken : a.taken ≡ 0
  pub written : a.written ≡ 0
  pub state_kept : after ≡ state
  pub out_kept : put ≡ out

-- 20 of one with too few bytes, then 21 of one that says it holds more than it has room for; nothing is touched
pub record Judged (a : LwFed) (state after out put : List ℕ) : Type 0 where
  pub short : length state < state_size → (a.refusal ≡ 20) × (a.first ≡ state_size) × Untouched a state after out put
  pub miscounted : state_size ≤ length state → most_held < said state → (a.refusal ≡ 21) × Untouched a state after out put

abbrev pub FeedJudges : Type 0
FeedJudges = (block state out : List ℕ) →
    Judged (lw_feed block state out) state (lw_feed_state block state out) out (lw_feed_out block state out)

abbrev pub FinishJudges : Type 0
FinishJudges = (state out : List ℕ) → Judged (lw_finish state out) state (lw_finish_state state out) out (lw_finish_out state out)

-- ---- one call on a state that passes

-- granted: the whole block is taken, or something is written
pub record FeedGranted (block : List ℕ) (a : LwFed) : Type 0 where
  pub granted : a.refusal ≡ 0
  pub goes : (a.taken ≡ length block) ⊎ (1 ≤ a.written)

-- 20: the next answer, whose bytes are told, does not fit the output; nothing is written, and the line's LF is left in the block
pub record FeedShort (block state out : List ℕ) (a : LwFed) : Type 0 where
  pub short : a.refusal ≡ 20
  pub needed : a.first ≡ length (next_answer block (fed block (room state) (said state) out))
  pub unfit : length out < a.first
  pub left : a.taken < length block
  pub none : a.written ≡ 0
  pub untouched : lw_feed_out block state out ≡ out

abbrev pub FeedsOn : Type 0
FeedsOn = (block state out : List ℕ) → passes state ≡ true
    → FeedGranted block (lw_feed block state out) ⊎ FeedShort block state out (lw_feed block state out)

-- 20 does not come where the output has 16,385 bytes.
abbrev pub FeedsEnough : Type 0
FeedsEnough = (block state out : List ℕ) → passes state ≡ true → enough_output ≤ length out
    → FeedGranted block (lw_feed block state out)

-- the input's end: granted, the line that is held is answered, and nothing is held then; or 20 with the bytes of its answer, and all is as
-- it was
pub record FinishGranted (state out : List ℕ) (a : LwFed) : Type 0 where
  pub granted : a.refusal ≡ 0
  pub last : take a.written (lw_finish_out state out) ≡ written (machine (room state) (said state) [])
  pub nothing : said (lw_finish_state state out) ≡ 0

pub record FinishShort (state out : List ℕ) (a : LwFed) : Type 0 where
  pub short : a.refusal ≡ 20
  pub needed : a.first ≡ length (answered (take (said state) (room state)))
  pub unfit : length out < a.first
  pub none : a.written ≡ 0
  pub as_it_was : lw_finish_state state out ≡ state
  pub untouched : lw_finish_out state out ≡ out

abbrev pub FinishesOn : Type 0
FinishesOn = (state out : List ℕ) → passes state ≡ true
    → FinishGranted state out (lw_finish state out) ⊎ FinishShort state out (lw_finish state out)

-- ---- a whole stream: calls one after the other, each with any block and any output, and then the end of the input

unfoldable pub all_fed : List ℕ → List Call → List (List ℕ)
all_fed state [] = []
all_fed state (c ∷ calls) =
    take (lw_feed c.block state c.out).taken c.block ∷ all_fed (lw_feed_state c.block state c.out) calls

unfoldable pub all_answered : List ℕ → List Call → List ℕ → List ℕ
all_answered state [] out = take (lw_finish state out).written (lw_finish_out state out)
all_answered state (c ∷ calls) out =
    take (lw_feed c.block state c.out).written (lw_feed_out c.block state c.out)
    ++ all_answered (lw_feed_state c.block state c.out) calls out

-- From a state that holds nothing, as `lw_stream` makes it and `lw_finish` leaves it: what is written, joined, is the answers of what is
-- taken, joined.
abbrev pub AnyStream : Type 0
AnyStream = (state : List ℕ) (calls : List Call) (out : List ℕ) →
    passes state ≡ true → said state ≡ 0 → enough_output ≤ length out
    → all_answered state calls out ≡ answers (joined (all_fed state calls))

-- opens every definition above, for a proof that computes with all of them
unfoldable pub open_streamed : Unit {0}
unfolding all_fed all_answered
open_streamed = tt
