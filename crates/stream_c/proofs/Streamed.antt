-- A stream of calls answers what it takes, and a state that passes passes again. Assumes nothing.
use Prim.Native.Nat.{ℕ, zero, suc, ◌+◌, ◌≤◌, ◌<◌, zero-le}
use native.Mathlib.Nat.{le_of_eq, lt_of_le_of_lt}
use native.Mathlib.Omega.{arith}
use mathlib.Core.Bool.{Bool, true, false, cond}
use mathlib.Core.Logic.{◌⊎◌, inl, inr}
use mathlib.Core.Path.{◌≡◌, refl, sym, ap, ◌∙◌, subst}
use mathlib.Core.List.{List, [], ◌∷◌, ◌++◌}
use lib.Dec.{leb, eqb}
use lib.ListN.{length, take, drop}
use borrow.Author.Tests.{ltb-true, le-leb, lt-leb, eq-eqb, ne_eqb, eqb-true, eqb-false}
use Rattle.error.specs.declared.Refusal.{Refusal}
use Rattle.error.specs.declared.Refusal.TheVariants.{Granted, Short}
use Rattle.error.specs.Refusals.{granted, open_refusals}
use Rattle.error.specs.Carries.{told, carried_of, carried}
use Rattle.job.specs.Stream.{answered, answers, joined, written}
use Rattle.job_stream.specs.declared.Outcome.{Outcome}
use Rattle.job_stream.specs.declared.Outcome.TheVariants.{Whole, Full}
use Rattle.job_stream.specs.Feeding.{line_end, is_ended, Feed, fed, machine}
use Rattle.job_stream.specs.Feeding.{outcome_refusal, Call, call_fed, all_taken, all_written}
use Rattle.job_stream.specs.Feeding as feeding
use Rattle.job_stream.specs.Progress.{next_answer, NextUnfit}
use Rattle.job_stream.proofs.Machine.{feeds, any_calls}
use Rattle.job_stream.proofs.Behind.{fed_behind}
use Rattle.job_stream.proofs.Parts.{end_from}
use Rattle.job_stream.proofs.Progress.{answered_room}
use Rattle.job_lines.specs.declared.Fed.{Fed}
use Rattle.job_lines.specs.declared.Last.{Last}
use Rattle.job_lines.specs.Wire.{answer_fits, answer_put, put_written, holds, stream_fed, feed_as, feed_told, held_of, out_of, last_line, finished, finish_told, finish_written}
use Rattle.job_lines.specs.Wire.{EndedBy, FinishedBy, LastUnfit}
use Rattle.job_lines.proofs.BlockByLines.{is_fed}
use Rattle.job_lines.proofs.Ends.{ends_apart, finish_apart, finishes, finish_size, finish_behind}
use Rattle.stream_c.specs.declared.LwFed.{LwFed}
use Rattle.stream_c.specs.State.{said, saying, room, with_room, judged, passes}
use Rattle.told.specs.Told.{line_answer}
use Rattle.stream_c.specs.Calls.{made_refusal, made, made_state, fed_answer, heard, feed_answer, feed_state, lw_feed, lw_feed_state, lw_feed_out}
use Rattle.stream_c.specs.Calls.{finish_answer, finish_state, lw_finish, lw_finish_state, lw_finish_out}
use Rattle.stream_c.specs.Streamed.{MadeTells, Kept, Behind, MadeKeeps, MadePasses, FeedKeeps, FinishKeeps, FeedLeaves, FinishLeaves, Untouched, Judged, FeedJudges, FinishJudges}
use Rattle.stream_c.specs.Streamed.{FeedGranted, FeedShort, FeedsOn, FeedsEnough, FinishGranted, FinishShort, FinishesOn}
use Rattle.stream_c.specs.Streamed.{all_fed, all_answered, AnyStream}
use Rattle.stream_c.proofs.States.{judged_short, judged_much, fine_size, fine_count, two_bytes, room_size, saying_size, said_back, room_kept, room_back, saying_past, room_past, full_room, passes_by}
use Rattle.stream_c.proofs.Answers.{not_fed, not_fed_state, not_fed_out, not_finished, not_finished_state, not_finished_out}

-- ---- where nothing is written the output is as it was

unused : (block held : List ℕ) (count : ℕ) (out : List ℕ) → (fed block held count out).used ≡ 0 → (fed block held count out).out ≡ out
unused block held count out e = fed_behind block held count out 0 (le_of_eq e)

-- ---- what the stream does with a state's room and count

abbrev fed_of : List ℕ → List ℕ → List ℕ → Feed
fed_of block s out = fed block (room s) (said s) out

abbrev told_of : List ℕ → List ℕ → List ℕ → Fed
told_of block s out = feed_told block (room s) (said s) out

abbrev last_of : List ℕ → List ℕ → Last
last_of s out = finish_told (room s) (said s) out

-- ---- a state that passes

module _ (s : List ℕ) (y : passes s ≡ true) where
  size : 16387 ≤ length s
  unfolding passes
  size = fine_size s y

  most : said s ≤ 16385
  unfolding passes
  most = fine_count s y

  full : 16385 ≤ length (room s)
  full = le_of_eq (sym (full_room s size))

  held_in : holds (room s) (said s) ≡ true
  unfolding holds
  held_in = rw (le-leb 16385 (length (room s)) full, le-leb (said s) 16385 most) refl

  said_none : said (saying s 0) ≡ 0
  said_none = said_back s 0 size zero-le

  none_passes : passes (saying s 0) ≡ true
  none_passes = passes_by (saying s 0) (subst (λ (n : ℕ). 16387 ≤ n) (sym (saying_size s 0)) size) (subst (λ (n : ℕ). n ≤ 16385) (sym said_none) zero-le)

-- ---- the next bytes of the input

module _ (block s out : List ℕ) (y : passes s ≡ true) where
  by_feed : feeding.Fed block (room s) (said s) out (fed_of block s out)
  by_feed = feeds block (room s) (said s) out (most s y) (full s y)

  same : stream_fed block (room s) (said s) out ≡ fed block (room s) (said s) out
  same = is_fed block (room s) (said s) out (full s y) (most s y)

  answer_is : lw_feed block s out ≡ feed_answer (told_of block s out)
  unfolding lw_feed
  answer_is = rw y refl

  taken_is : (lw_feed block s out).taken ≡ (fed_of block s out).at
  unfolding feed_answer fed_answer feed_told feed_as
  taken_is = ap (λ (a : LwFed). a.taken) answer_is ∙ ap (λ (f : Feed). f.at) same

  written_is : (lw_feed block s out).written ≡ (fed_of block s out).used
  unfolding feed_answer fed_answer feed_told feed_as
  written_is = ap (λ (a : LwFed). a.written) answer_is ∙ ap (λ (f : Feed). f.used) same

  out_is : lw_feed_out block s out ≡ (fed_of block s out).out
  unfolding lw_feed_out out_of
  out_is = rw y (ap out_of same)

  state_is : lw_feed_state block s out ≡ saying (with_room s (fed_of block s out).held) (fed_of block s out).count
  unfolding lw_feed_state feed_state held_of
  state_is = rw y (ap (feed_state s) same)

  held_size : length (fed_of block s out).held ≡ 16385
  held_size = by_feed.room ∙ full_room s (size s y)

  mid_size : length (with_room s (fed_of block s out).held) ≡ length s
  unfolding with_room room
  mid_size = room_size s (fed_of block s out).held by_feed.room

  next_size : length (lw_feed_state block s out) ≡ length s
  next_size = ap length state_is ∙ saying_size (with_room s (fed_of block s out).held) (fed_of block s out).count ∙ mid_size

  next_said : said (lw_feed_state block s out) ≡ (fed_of block s out).count
  next_said = ap said state_is ∙ said_back (with_room s (fed_of block s out).held) (fed_of block s out).count (subst (λ (n : ℕ). 16387 ≤ n) (sym mid_size) (size s y)) by_feed.most

  next_room : room (lw_feed_state block s out) ≡ (fed_of block s out).held
  next_room =
      ap room state_is ∙ room_kept (with_room s (fed_of block s out).held) (fed_of block s out).count
      ∙ room_back s (fed_of block s out).held (two_bytes s (size s y)) held_size

  next_past : drop 16387 (lw_feed_state block s out) ≡ drop 16387 s
  next_past =
      ap (drop 16387) state_is ∙ saying_past (with_room s (fed_of block s out).held) (fed_of block s out).count
      ∙ room_past s (fed_of block s out).held (two_bytes s (size s y)) held_size

  next_passes : passes (lw_feed_state block s out) ≡ true
  next_passes =
      passes_by (lw_feed_state block s out) (subst (λ (n : ℕ). 16387 ≤ n) (sym next_size) (size s y)) (subst (λ (n : ℕ). n ≤ 16385) (sym next_said) by_feed.most)

-- ---- a state is made

pub made_tells : MadeTells
unfolding made made_refusal made_state line_answer carried carried_of told open_refusals
made_tells s =
    record {
      enough = λ h. rw (le-leb 16387 (length s) h) refl;
      short = λ h. (rw (lt-leb 16387 (length s) h) refl, rw (lt-leb 16387 (length s) h) refl);
      count = go (leb 16387 (length s));
    }
  where
    go : (t : Bool) → (line_answer (cond t Granted (Short 16387)) (carried (cond t Granted (Short 16387))) 16387).count ≡ 16387
    go true = refl
    go false = refl

-- ---- a state that passes passes again

made_either : (s : List ℕ) → (made_state s ≡ saying s 0) ⊎ (made_state s ≡ s)
unfolding made_state
made_either s = go (leb 16387 (length s))
  where
    go : (t : Bool) → (cond t (saying s 0) s ≡ saying s 0) ⊎ (cond t (saying s 0) s ≡ s)
    go true = inl refl
    go false = inr refl

-- a state with another count, or as it was
kept_by : (s after : List ℕ) → (after ≡ saying s 0) ⊎ (after ≡ s) → Kept s after
kept_by s after (inl e) =
    record { size = ap length e ∙ saying_size s 0; past = ap (drop 16387) e ∙ saying_past s 0; passed = λ y. ap passes e ∙ none_passes s y }
kept_by s after (inr e) = record { size = ap length e; past = ap (drop 16387) e; passed = λ y. ap passes e ∙ y }

pub made_keeps : MadeKeeps
made_keeps s = kept_by s (made_state s) (made_either s)

pub made_passes : MadePasses
unfolding made_state
made_passes s h = rw (le-leb 16387 (length s) h) (passed, none)
  where
    none : said (saying s 0) ≡ 0
    none = said_back s 0 h zero-le

    passed : passes (saying s 0) ≡ true
    passed = passes_by (saying s 0) (subst (λ (n : ℕ). 16387 ≤ n) (sym (saying_size s 0)) h) (subst (λ (n : ℕ). n ≤ 16385) (sym none) zero-le)

pub feed_keeps : FeedKeeps
feed_keeps block s out = go (passes s) refl
  where
    go : (t : Bool) → passes s ≡ t → Kept s (lw_feed_state block s out)
    go true y = record { size = next_size block s out y; past = next_past block s out y; passed = next_passes block s out }
    go false n = kept_by s (lw_feed_state block s out) (inr (sym (not_fed_state block s out n)))

-- ---- what a call does not write is as it was

all_left : (n : ℕ) (out put : List ℕ) → put ≡ out → Behind n out put
all_left n out put e = record { size = ap length e; rest = ap (drop n) e }

pub feed_leaves : FeedLeaves
feed_leaves block s out = go (passes s) refl
  where
    n : ℕ
    n = (lw_feed block s out).written

    go : (t : Bool) → passes s ≡ t → Behind n out (lw_feed_out block s out)
    go true y =
        record {
          size = ap length (out_is block s out y) ∙ (by_feed block s out y).size;
          rest = ap (drop n) (out_is block s out y) ∙ fed_behind block (room s) (said s) out n (le_of_eq (sym (written_is block s out y)));
        }
    go false e = all_left n out (lw_feed_out block s out) (sym (not_fed_out block s out e))

-- ---- a state that no call can work on

module _ (s : List ℕ) where
  pub short_passes : length s < 16387 → passes s ≡ false
  unfolding passes open_refusals
  short_passes h = ap granted (sym (judged_short s h))

  pub much_passes : 16387 ≤ length s → 16385 < said s → passes s ≡ false
  unfolding passes open_refusals
  much_passes h l = ap granted (sym (judged_much s h (said s) refl l))

module _ (s : List ℕ) (a : LwFed) (after out put : List ℕ) (e : passes s ≡ false → a ≡ fed_answer (carried (judged s)) 0 0)
    (t : passes s ≡ false → after ≡ s) (o : passes s ≡ false → put ≡ out) where
  untouched : passes s ≡ false → Untouched a s after out put
  unfolding fed_answer
  untouched n = record { taken = ap (λ (x : LwFed). x.taken) (e n); written = ap (λ (x : LwFed). x.written) (e n); state_kept = t n; out_kept = o n }

  judges : Judged a s after out put
  unfolding fed_answer carried carried_of told open_refusals
  judges =
      record {
        short = λ h.
            let n = short_passes s h in
            let x = e n ∙ ap (λ (u : Refusal). fed_answer (carried u) 0 0) (sym (judged_short s h)) in
            (ap (λ (y : LwFed). y.refusal) x, ap (λ (y : LwFed). y.first) x, untouched n);
        miscounted = λ h l.
            let n = much_passes s h l in
            let x = e n ∙ ap (λ (u : Refusal). fed_answer (carried u) 0 0) (sym (judged_much s h (said s) refl l)) in
            (ap (λ (y : LwFed). y.refusal) x, untouched n);
      }

pub feed_judges : FeedJudges
feed_judges block s out =
    judges s (lw_feed block s out) (lw_feed_state block s out) out (lw_feed_out block s out) (λ n. sym (not_fed block s out n (judged s) refl _ refl))
    (λ n. sym (not_fed_state block s out n)) (λ n. sym (not_fed_out block s out n))

pub finish_judges : FinishJudges
finish_judges s out =
    judges s (lw_finish s out) (lw_finish_state s out) out (lw_finish_out s out) (λ n. sym (not_finished s out n (judged s) refl _ refl))
    (λ n. sym (not_finished_state s out n)) (λ n. sym (not_finished_out s out n))

-- ---- how a call on a block ended

refusal_of : (block s out : List ℕ) → passes s ≡ true → (u : Refusal) → heard (told_of block s out).outcome (told_of block s out).used ≡ u
    → ((lw_feed block s out).refusal ≡ (carried u).question) × ((lw_feed block s out).first ≡ (carried u).first)
unfolding feed_answer fed_answer
refusal_of block s out y u e =
    let a = answer_is block s out y in
    (ap (λ (x : LwFed). x.refusal) a ∙ ap (λ (v : Refusal). (carried v).question) e, ap (λ (x : LwFed). x.first) a ∙ ap (λ (v : Refusal). (carried v).first) e)

used_is : (block s out : List ℕ) → passes s ≡ true → (told_of block s out).used ≡ (fed_of block s out).used
unfolding feed_told feed_as
used_is block s out y = ap (λ (f : Feed). f.used) (same block s out y)

granted_none : (carried Granted).question ≡ 0
unfolding carried carried_of told open_refusals
granted_none = refl

short_told : (n : ℕ) → ((carried (Short n)).question ≡ 20) × ((carried (Short n)).first ≡ n)
unfolding carried carried_of told open_refusals
short_told n = (refl, refl)

heard_whole : (n : ℕ) → heard Whole n ≡ Granted
unfolding heard outcome_refusal
heard_whole n = go (eqb n 0)
  where
    go : (t : Bool) → cond t (outcome_refusal Whole) Granted ≡ Granted
    go true = refl
    go false = refl

heard_full : (k n : ℕ) → n ≡ 0 → heard (Full k) n ≡ Short k
unfolding heard outcome_refusal
heard_full k n z = rw (eq-eqb n 0 z) refl

heard_on : (o : Outcome) (n : ℕ) → (n ≡ 0 → ⊥) → heard o n ≡ Granted
unfolding heard
heard_on o n z = rw (ne_eqb n 0 z) refl

-- an LF that is ahead is in the block
feed_left : (block : List ℕ) (at : ℕ) → is_ended block at ≡ true → at < length block
unfolding is_ended
feed_left block at e = lt_of_le_of_lt (end_from block at) (ltb-true (line_end block at) (length block) e)

some_of : (n : ℕ) → (n ≡ 0 → ⊥) → 1 ≤ n
some_of zero f = absurd (f refl)
some_of (suc n) f = omega arith

module _ (block s out : List ℕ) (y : passes s ≡ true) where
  the_use : (told_of block s out).used ≡ (fed_of block s out).used
  the_use = used_is block s out y

  whole : (told_of block s out).outcome ≡ Whole → (told_of block s out).taken ≡ length block → FeedGranted block (lw_feed block s out)
  unfolding feed_answer fed_answer
  whole o t =
      record {
        granted = (refusal_of block s out y Granted (ap (λ (x : Outcome). heard x (told_of block s out).used) o ∙ heard_whole (told_of block s out).used)).0 ∙ granted_none;
        goes = inl (ap (λ (x : LwFed). x.taken) (answer_is block s out y) ∙ t);
      }

  goes_on : ((told_of block s out).used ≡ 0 → ⊥) → FeedGranted block (lw_feed block s out)
  goes_on z =
      record {
        granted = (refusal_of block s out y Granted (heard_on (told_of block s out).outcome (told_of block s out).used z)).0 ∙ granted_none;
        goes = inr (subst (λ (n : ℕ). 1 ≤ n) (the_use ∙ sym (written_is block s out y)) (some_of (told_of block s out).used z));
      }

  stops : (k : ℕ) → k ≡ length (next_answer block (fed_of block s out)) → (told_of block s out).outcome ≡ Full k → NextUnfit block (fed_of block s out)
      → (told_of block s out).used ≡ 0 → FeedShort block s out (lw_feed block s out)
  stops k e o u z =
      let r = refusal_of block s out y (Short k) (ap (λ (x : Outcome). heard x (told_of block s out).used) o ∙ heard_full k (told_of block s out).used z) in
      let n = sym the_use ∙ z in
      record {
        short = r.0 ∙ (short_told k).0;
        needed = r.1 ∙ (short_told k).1 ∙ e;
        unfit = subst (λ (m : ℕ). length out < m) (sym (r.1 ∙ (short_told k).1 ∙ e))
            (past _ (length out) (fed_of block s out).used (length (next_answer block (fed_of block s out))) (by_feed block s out y).size n u.unfit);
        left = subst (λ (m : ℕ). m < length block) (sym (taken_is block s out y)) (feed_left block (fed_of block s out).at u.ahead);
        none = written_is block s out y ∙ n;
        untouched = out_is block s out y ∙ unused block (room s) (said s) out n;
      }
    where
      past : (a b c d : ℕ) → a ≡ b → c ≡ 0 → a < c + d → b < d
      past a b c d p q h = omega arith

  by_use : (t : Bool) → eqb (told_of block s out).used 0 ≡ t → (told_of block s out).outcome ≡ Full (length (next_answer block (fed_of block s out))) → NextUnfit block (fed_of block s out)
      → FeedGranted block (lw_feed block s out) ⊎ FeedShort block s out (lw_feed block s out)
  by_use true e o u = inr (stops (length (next_answer block (fed_of block s out))) refl o u (eqb-true (told_of block s out).used 0 e))
  by_use false e o u = inl (goes_on (eqb-false (told_of block s out).used 0 e))

  by_end : EndedBy block (fed_of block s out) (told_of block s out) → FeedGranted block (lw_feed block s out) ⊎ FeedShort block s out (lw_feed block s out)
  by_end (inl (o, t)) = inl (whole o t)
  by_end (inr (o, u)) = by_use (eqb (told_of block s out).used 0) refl o u

pub feeds_on : FeedsOn
feeds_on block s out y = by_end block s out y ((ends_apart block (room s) (said s) out).enough (held_in s y))

pub feeds_enough : FeedsEnough
unfolding next_answer
feeds_enough block s out y o = go (feeds_on block s out y)
  where
    over : (a b : ℕ) → a < b → b ≤ 16385 → 16385 ≤ a → ⊥
    over a b p q r = omega arith

    go : FeedGranted block (lw_feed block s out) ⊎ FeedShort block s out (lw_feed block s out) → FeedGranted block (lw_feed block s out)
    go (inl g) = g
    go (inr u) = absurd (over (length out) (lw_feed block s out).first u.unfit (subst (λ (n : ℕ). n ≤ 16385) (sym u.needed) (answered_room _)) o)

-- ---- the end of the input

last_state : (s out : List ℕ) → passes s ≡ true → lw_finish_state s out ≡ finish_state s (last_of s out)
unfolding lw_finish_state
last_state s out y = rw y refl

last_answer : (s out : List ℕ) → passes s ≡ true → lw_finish s out ≡ finish_answer (last_of s out)
unfolding lw_finish
last_answer s out y = rw y refl

last_out : (s out : List ℕ) → passes s ≡ true → lw_finish_out s out ≡ finish_written (room s) (said s) out
unfolding lw_finish_out
last_out s out y = rw y refl

state_whole : (s : List ℕ) (l : Last) → l.outcome ≡ Whole → finish_state s l ≡ saying s 0
unfolding finish_state outcome_refusal open_refusals
state_whole s l e = rw e refl

state_full : (s : List ℕ) (l : Last) (n : ℕ) → l.outcome ≡ Full n → finish_state s l ≡ s
unfolding finish_state outcome_refusal open_refusals
state_full s l n e = rw e refl

ended_refusal : (s out : List ℕ) → passes s ≡ true → (o : Outcome) → (last_of s out).outcome ≡ o
    → ((lw_finish s out).refusal ≡ (carried (outcome_refusal o)).question) × ((lw_finish s out).first ≡ (carried (outcome_refusal o)).first)
unfolding finish_answer fed_answer
ended_refusal s out y o e =
    let a = last_answer s out y in (
      ap (λ (x : LwFed). x.refusal) a ∙ ap (λ (v : Outcome). (carried (outcome_refusal v)).question) e,
      ap (λ (x : LwFed). x.first) a ∙ ap (λ (v : Outcome). (carried (outcome_refusal v)).first) e,
    )

-- an answer that does not fit is not written
module _ (held : List ℕ) (count : ℕ) (out : List ℕ) (h : holds held count ≡ true) (u : LastUnfit held count out) where
  is_last : last_line held count ≡ true
  unfolding last_line
  is_last = rw (h, le-leb 1 count u.last) refl

  no_fit : answer_fits (take count held) out 0 ≡ false
  unfolding answer_fits
  no_fit = lt-leb (0 + length (answered (take count held))) (length out) (bare (length out) (length (answered (take count held))) u.unfit)
    where
      bare : (a b : ℕ) → a < b → a < 0 + b
      bare a b p = omega arith

  none_used : (finish_told held count out).used ≡ 0
  unfolding finish_told finished answer_put
  none_used = rw (is_last, no_fit) refl

  none_put : finish_written held count out ≡ out
  unfolding finish_written put_written
  none_put = rw (is_last, no_fit) refl

pub finishes_on : FinishesOn
unfolding finish_answer fed_answer outcome_refusal
finishes_on s out y = go ((finish_apart (room s) (said s) out).enough (held_in s y))
  where
    go : FinishedBy (room s) (said s) out → FinishGranted s out (lw_finish s out) ⊎ FinishShort s out (lw_finish s out)
    go (inl (o, w)) =
        inl (record {
          granted = (ended_refusal s out y Whole o).0 ∙ granted_none;
          last = ap (λ (x : LwFed). take x.written (lw_finish_out s out)) (last_answer s out y)
              ∙ ap (take (last_of s out).used) (last_out s out y) ∙ w;
          nothing = ap said (last_state s out y ∙ state_whole s (last_of s out) o) ∙ said_none s y;
        })
    go (inr (o, u)) =
        let n = length (answered (take (said s) (room s))) in
        let r = ended_refusal s out y (Full n) o in
        inr (record {
          short = r.0 ∙ (short_told n).0;
          needed = r.1 ∙ (short_told n).1;
          unfit = subst (λ (m : ℕ). length out < m) (sym (r.1 ∙ (short_told n).1)) u.unfit;
          none = ap (λ (x : LwFed). x.written) (last_answer s out y) ∙ none_used (room s) (said s) out (held_in s y) u;
          as_it_was = last_state s out y ∙ state_full s (last_of s out) n o;
          untouched = last_out s out y ∙ none_put (room s) (said s) out (held_in s y) u;
        })

either_state : (s : List ℕ) (l : Last) → (finish_state s l ≡ saying s 0) ⊎ (finish_state s l ≡ s)
unfolding finish_state
either_state s l = go (granted (outcome_refusal l.outcome))
  where
    go : (t : Bool) → (cond t (saying s 0) s ≡ saying s 0) ⊎ (cond t (saying s 0) s ≡ s)
    go true = inl refl
    go false = inr refl

pub finish_keeps : FinishKeeps
finish_keeps s out = go (passes s) refl
  where
    go : (t : Bool) → passes s ≡ t → Kept s (lw_finish_state s out)
    go true y = subst (Kept s) (sym (last_state s out y)) (kept_by s (finish_state s (last_of s out)) (either_state s (last_of s out)))
    go false n = kept_by s (lw_finish_state s out) (inr (sym (not_finished_state s out n)))

pub finish_leaves : FinishLeaves
unfolding finish_answer fed_answer
finish_leaves s out = go (passes s) refl
  where
    n : ℕ
    n = (lw_finish s out).written

    go : (t : Bool) → passes s ≡ t → Behind n out (lw_finish_out s out)
    go true y =
        let w = ap (λ (a : LwFed). a.written) (last_answer s out y) in
        record {
          size = ap length (last_out s out y) ∙ finish_size (room s) (said s) out;
          rest = ap (drop n) (last_out s out y) ∙ ap (λ (k : ℕ). drop k (finish_written (room s) (said s) out)) w
              ∙ finish_behind (room s) (said s) out ∙ ap (λ (k : ℕ). drop k out) (sym w);
        }
    go false e = all_left n out (lw_finish_out s out) (sym (not_finished_out s out e))

-- ---- a whole stream

fed_same : (calls : List Call) (s : List ℕ) → passes s ≡ true → all_fed s calls ≡ all_taken (room s) (said s) calls
unfolding all_fed all_taken call_fed
fed_same [] s y = refl
fed_same (c ∷ calls) s y =
    ap (λ (n : ℕ). take n c.block ∷ all_fed (lw_feed_state c.block s c.out) calls) (taken_is c.block s c.out y)
    ∙ ap (λ (l : List (List ℕ)). take (fed_of c.block s c.out).at c.block ∷ l)
    (fed_same calls (lw_feed_state c.block s c.out) (next_passes c.block s c.out y)
    ∙ ap (λ (h : List ℕ). all_taken h (said (lw_feed_state c.block s c.out)) calls) (next_room c.block s c.out y)
    ∙ ap (λ (n : ℕ). all_taken (fed_of c.block s c.out).held n calls) (next_said c.block s c.out y))

last_same : (s out : List ℕ) → passes s ≡ true → 16385 ≤ length out → take (lw_finish s out).written (lw_finish_out s out) ≡ written (machine (room s) (said s) [])
unfolding lw_finish lw_finish_out finish_answer fed_answer
last_same s out y o = rw y (finishes (room s) (said s) out (held_in s y) o).1

answered_same : (calls : List Call) (s out : List ℕ) → passes s ≡ true → 16385 ≤ length out → all_answered s calls out ≡ all_written (room s) (said s) calls
unfolding all_answered all_written call_fed
answered_same [] s out y o = last_same s out y o
answered_same (c ∷ calls) s out y o =
    ap (λ (n : ℕ). take n (lw_feed_out c.block s c.out) ++ all_answered (lw_feed_state c.block s c.out) calls out) (written_is c.block s c.out y)
    ∙ ap (λ (l : List ℕ). take (fed_of c.block s c.out).used l ++ all_answered (lw_feed_state c.block s c.out) calls out) (out_is c.block s c.out y)
    ∙ ap (λ (l : List ℕ). take (fed_of c.block s c.out).used (fed_of c.block s c.out).out ++ l)
    (answered_same calls (lw_feed_state c.block s c.out) out (next_passes c.block s c.out y) o
    ∙ ap (λ (h : List ℕ). all_written h (said (lw_feed_state c.block s c.out)) calls) (next_room c.block s c.out y)
    ∙ ap (λ (n : ℕ). all_written (fed_of c.block s c.out).held n calls) (next_said c.block s c.out y))

pub any_stream : AnyStream
any_stream s calls out y z o =
    answered_same calls s out y o ∙ ap (λ (n : ℕ). all_written (room s) n calls) z ∙ any_calls (room s) calls (full s y)
    ∙ ap (λ (n : ℕ). answers (joined (all_taken (room s) n calls))) (sym z) ∙ ap (λ (l : List (List ℕ)). answers (joined l)) (sym (fed_same calls s y))
