-- The stream goes on, and a loop of calls answers every line. Assumes nothing.
use Prim.Native.Nat.{ℕ, zero, suc, ◌+◌, ◌-◌, ◌≤◌, ◌<◌, zero-le, suc-le-suc}
use native.Mathlib.Nat.{le_refl, le_trans, le_of_lt, le_of_eq, le-add_right, le_antisymm, add-zero, zero-add}
use native.Mathlib.Numerals.{add-one}
use native.Mathlib.Omega.{arith}
use mathlib.Core.Bool.{Bool, true, false, cond}
use mathlib.Core.Logic.{◌⊎◌, inl, inr}
use mathlib.Core.Path.{◌≡◌, refl, sym, ap, ◌∙◌, subst}
use mathlib.Core.List.{List, [], ◌∷◌, ◌++◌, append-nil}
use lib.Dec.{leb, eqb}
use lib.ListN.{length, take, drop, length-append, length-drop, take-append-drop}
use lib.Seq.{take_all, length-take-le, drop-nil, drop-length}
use borrow.Author.Tests.{leb-false, le-leb, ltb-true, ltb-false, lt-ltb}
use Rattle.base.specs.Loop.{rounds}
use Rattle.base.proofs.Laws.{rounds_keep, steady}
use Rattle.format.specs.Fields.{line_feed}
use Rattle.job.specs.AnswerLines.{answer_line}
use Rattle.job.specs.Stream.{StreamState, stream_start, answered, with_answer, byte_by, byte_taken, block_taken, joined, written, after_output}
use Rattle.job.proofs.Sizes.{answer_in_line}
use Rattle.job.proofs.Stream.{block_nil, block_cons, feeding_parts, cut_answer, machine_answers, output_added}
use Rattle.job_stream.specs.Feeding.{before_by, before_feed, line_end, line_part, is_ended, is_direct, next_count, next_held, next_bytes}
use Rattle.job_stream.specs.Feeding.{most_held, held_with, count_with, Feed, feed_cut, feed_answered, feed_full, feed_ended, feed_line, feed_step, feed_start, fed, machine, Fed}
use Rattle.job_stream.specs.Progress.{next_answer, NextUnfit, StopsFull, TakesAll, TakesALine, Rounds, round_made, round, feeds_by, line_feeds, with_block, BlockTaken, block_taken_in, blocks_taken_in, rounds_start, all_sent}
use Rattle.job_stream.specs.Progress.{EveryLine}
use Rattle.job_stream.proofs.Parts.{end_from}
use Rattle.job_stream.proofs.Machine.{in_line, part_taken, feed_follows, end_le, end_lt, feed_there, the_line, step_keeps, feeds, feeds_to, written_after}

answered_cut : (line : List ℕ) → answered (take most_held line) ≡ answered line
unfolding answered
answered_cut line = ap (λ (l : List ℕ). l ++ line_feed ∷ []) (cut_answer line)

-- ---- a line of a block that is full

module _ (block held₀ : List ℕ) (count₀ : ℕ) (out₀ : List ℕ) (r : most_held ≤ length held₀) (s : Feed) (f : Fed block held₀ count₀ out₀ s) where
  -- no LF is left: the block's end
  cut_end : is_ended block s.at ≡ false → line_end block s.at ≡ length block
  unfolding is_ended
  cut_end e = le_antisymm (end_le block held₀ count₀ out₀ r s f) (ltb-false (line_end block s.at) (length block) e)

  module _ (e : is_ended block s.at ≡ true) where
    -- the answer that the code tests is that of the line that is cut out
    same_answer : answered (next_bytes block s.at s.held s.count) ≡ next_answer block s
    unfolding next_answer
    same_answer = sym (the_line block held₀ count₀ out₀ r s f e) ∙ answered_cut (take s.count s.held ++ line_part block s.at)

    at_feed : before_feed (drop (line_end block s.at) block) ≡ 0
    unfolding before_feed before_by
    at_feed = ap before_feed (feed_there block held₀ count₀ out₀ r s f e)

    still_ended : is_ended block (line_end block s.at) ≡ true
    unfolding is_ended line_end
    still_ended =
        lt-ltb (line_end block s.at + before_feed (drop (line_end block s.at) block)) (length block)
        (subst (λ (n : ℕ). line_end block s.at + n < length block) (sym at_feed) (subst (λ (n : ℕ). n < length block) (sym (add-zero (line_end block s.at))) (end_lt block held₀ count₀ out₀ r s f e)))

    no_part : line_part block (line_end block s.at) ≡ []
    unfolding line_part
    no_part = ap (λ (n : ℕ). take n (drop (line_end block s.at) block)) at_feed

    module _ (u : length s.out < s.used + length (answered (next_bytes block s.at s.held s.count))) where
      full_here : NextUnfit block (feed_full block s (answered (next_bytes block s.at s.held s.count)))
      unfolding feed_full next_held next_count next_bytes next_answer
      full_here = go (is_direct block s.at s.count) refl
        where
          go : (t : Bool) → is_direct block s.at s.count ≡ t → NextUnfit block (record {
            at = cond t s.at (line_end block s.at);
            held = cond t s.held (held_with s.held s.count (line_part block s.at));
            count = cond t s.count (count_with s.count (line_part block s.at));
            out = s.out;
            used = s.used;
            needed = length (answered (next_bytes block s.at s.held s.count));
            more = false;
          })
          go true d = record { ahead = e; needed = ap length same_answer; unfit = subst (λ (l : List ℕ). length s.out < s.used + length l) same_answer u }
          go false d =
              record {
                ahead = still_ended;
                needed = ap length held_answer;
                unfit = subst (λ (l : List ℕ). length s.out < s.used + length l) held_answer u;
              }
            where
              held_answer : answered (next_bytes block s.at s.held s.count)
                  ≡ answered (take (count_with s.count (line_part block s.at)) (held_with s.held s.count (line_part block s.at)) ++ line_part block (line_end block s.at))
              held_answer = rw (d, no_part, append-nil (take (count_with s.count (line_part block s.at)) (held_with s.held s.count (line_part block s.at)))) refl

-- ---- one call

-- while a call goes on it has taken a byte a round; where it stops, all is taken or the output is full
abbrev Going : List ℕ → ℕ → Feed → Bool → Type 0
Going block k s true = k ≤ s.at
Going block k s false = (s.at ≡ length block) ⊎ NextUnfit block s

one_answered : (block : List ℕ) (k : ℕ) (s : Feed) (bytes : List ℕ) → suc k ≤ line_end block s.at + 1
    → Going block (suc k) (feed_answered block s bytes) (feed_answered block s bytes).more
unfolding feed_answered
one_answered block k s bytes h = h

one_full : (block : List ℕ) (k : ℕ) (s : Feed) (bytes : List ℕ) → NextUnfit block (feed_full block s bytes)
    → Going block (suc k) (feed_full block s bytes) (feed_full block s bytes).more
unfolding feed_full
one_full block k s bytes h = inr h

one_cut : (block : List ℕ) (k : ℕ) (s : Feed) → line_end block s.at ≡ length block → Going block (suc k) (feed_cut block s) (feed_cut block s).more
unfolding feed_cut
one_cut block k s h = inl h

module _ (block held : List ℕ) (count : ℕ) (out : List ℕ) (r : most_held ≤ length held) (k : ℕ) (s : Feed) (f : Fed block held count out s) where
  ended_goes : k ≤ s.at → is_ended block s.at ≡ true → (bytes : List ℕ) → answered (next_bytes block s.at s.held s.count) ≡ bytes
      → Going block (suc k) (feed_ended block s bytes) (feed_ended block s bytes).more
  unfolding feed_ended
  ended_goes g e bytes q = go (leb (s.used + length bytes) (length s.out)) refl
    where
      past : (x y z : ℕ) → x ≤ y → y ≤ z → suc x ≤ z + 1
      past x y z h p = omega arith

      go : (t : Bool) → leb (s.used + length bytes) (length s.out) ≡ t
          → Going block (suc k) (cond t (feed_answered block s bytes) (feed_full block s bytes)) (cond t (feed_answered block s bytes) (feed_full block s bytes)).more
      go true h = one_answered block k s bytes (past k s.at (line_end block s.at) g (end_from block s.at))
      go false h =
          one_full block k s bytes
          (subst (λ (l : List ℕ). NextUnfit block (feed_full block s l)) q
          (full_here block held count out r s f e (subst (λ (l : List ℕ). length s.out < s.used + length l) (sym q) (leb-false (s.used + length bytes) (length s.out) h))))

  line_goes : k ≤ s.at → Going block (suc k) (feed_line block s) (feed_line block s).more
  unfolding feed_line
  line_goes g = go (is_ended block s.at) refl
    where
      go : (t : Bool) → is_ended block s.at ≡ t
          → Going block (suc k) (cond t (feed_ended block s (answered (next_bytes block s.at s.held s.count))) (feed_cut block s))
          (cond t (feed_ended block s (answered (next_bytes block s.at s.held s.count))) (feed_cut block s)).more
      go true e = ended_goes g e (answered (next_bytes block s.at s.held s.count)) refl
      go false e = one_cut block k s (cut_end block held count out r s f e)

  step_goes : Going block k s s.more → Going block (suc k) (feed_step block k s) (feed_step block k s).more
  unfolding feed_step
  step_goes g = go s.more refl g
    where
      go : (t : Bool) → s.more ≡ t → Going block k s t → Going block (suc k) (cond t (feed_line block s) s) (cond t (feed_line block s) s).more
      go true e h = line_goes h
      go false e h = subst (λ (t : Bool). Going block (suc k) s t) (sym e) h

-- after as many rounds a call has stopped
pub stops_full : StopsFull
unfolding fed feed_start rounds
stops_full block held count out c r = go last.more (feeds_to block held count out c r (length block + 1)).taken gone
  where
    last : Feed
    last = rounds (feed_step block) (length block + 1) (feed_start held count out)

    gone : Going block (length block + 1) last last.more
    gone =
        (rounds_keep (feed_step block) (λ k s. Fed block held count out s × Going block k s s.more) (feed_start held count out)
        (feeds_to block held count out c r 0, le_refl 0)
        (λ k s h. (step_keeps block held count out r s h.0 k, step_goes block held count out r k s h.0 h.1))
        (length block + 1)).1

    go : (t : Bool) → last.at ≤ length block → Going block (length block + 1) last t → (last.at ≡ length block) ⊎ NextUnfit block last
    go true h g = absurd (over (length block) last.at h g)
      where
        over : (n a : ℕ) → a ≤ n → n + 1 ≤ a → ⊥
        over n a x y = omega arith
    go false h g = g

-- ---- what the machine writes for the rest of a block that has an LF

next_written : (line output bytes : List ℕ) → before_feed bytes < length bytes
    → length output + length (answered (line ++ take (before_feed bytes) bytes)) ≤ length (block_taken (in_line line output) bytes).output
unfolding byte_taken byte_by with_answer after_output
next_written line output bytes h = subst (λ (n : ℕ). length output + length (answered (line ++ part)) ≤ n) (sym whole) (le-add_right (length output + length (answered (line ++ part))) (length more.output))
  where
    part : List ℕ
    part = take (before_feed bytes) bytes

    after : List ℕ
    after = drop (suc (before_feed bytes)) bytes

    more : StreamState
    more = block_taken (record { line = []; output = [] }) after

    split : bytes ≡ part ++ line_feed ∷ after
    split = sym (take-append-drop (before_feed bytes) bytes) ∙ ap (λ (l : List ℕ). part ++ l) (feed_follows bytes h)

    goes : block_taken (in_line line output) bytes ≡ after_output (output ++ answered (take most_held (line ++ part))) more
    goes =
        ap (block_taken (in_line line output)) split
        ∙ feeding_parts (in_line line output) part (line_feed ∷ after)
        ∙ ap (λ (m : StreamState). block_taken m (line_feed ∷ after)) (part_taken bytes line output)
        ∙ block_cons (in_line (line ++ part) output) line_feed after
        ∙ output_added [] (output ++ answered (take most_held (line ++ part))) after

    whole : length (block_taken (in_line line output) bytes).output ≡ length output + length (answered (line ++ part)) + length more.output
    whole =
        ap (λ (m : StreamState). length m.output) goes
        ∙ length-append (output ++ answered (take most_held (line ++ part))) more.output
        ∙ ap (λ (n : ℕ). n + length more.output) (length-append output (answered (take most_held (line ++ part))) ∙ ap (λ (l : List ℕ). length output + length l) (answered_cut (line ++ part)))

-- a full output is too short for the answers of the block
module _ (block held : List ℕ) (count : ℕ) (out : List ℕ) (r : most_held ≤ length held) (s : Feed) (f : Fed block held count out s) (u : NextUnfit block s) where
  line_in : take most_held (take s.count s.held) ≡ take s.count s.held
  line_in =
      take_all most_held (take s.count s.held)
      (subst (λ (n : ℕ). n ≤ most_held) (sym (length-take-le s.count s.held (le_trans f.most (subst (λ (n : ℕ). most_held ≤ n) (sym f.room) r)))) f.most)

  feed_ahead : before_feed (drop s.at block) < length (drop s.at block)
  unfolding is_ended line_end
  feed_ahead =
      subst (λ (n : ℕ). before_feed (drop s.at block) < n) (sym (length-drop s.at block))
      (less s.at (before_feed (drop s.at block)) (length block) (ltb-true (s.at + before_feed (drop s.at block)) (length block) u.ahead))
    where
      less : (a p n : ℕ) → a + p < n → p < n - a
      less a p n h = omega arith

  rest_goes : block_taken (machine held count []) block ≡ block_taken (in_line (take s.count s.held) (take s.used s.out)) (drop s.at block)
  rest_goes =
      ap (block_taken (machine held count [])) (sym (take-append-drop s.at block))
      ∙ feeding_parts (machine held count []) (take s.at block) (drop s.at block)
      ∙ ap (λ (m : StreamState). block_taken m (drop s.at block)) (f.same ∙ ap (λ (l : List ℕ). record { line = l; output = take s.used s.out }) (sym line_in))

  too_long : length out < length (block_taken (machine held count []) block).output
  unfolding next_answer line_part
  too_long =
      subst (λ (m : StreamState). length out < length m.output) (sym rest_goes)
      (sum (length out) s.used (length (take s.used s.out)) (length (answered (take s.count s.held ++ line_part block s.at))) _
      (sym (length-take-le s.used s.out (subst (λ (n : ℕ). s.used ≤ n) (sym f.size) f.used)))
      (subst (λ (n : ℕ). n < s.used + length (answered (take s.count s.held ++ line_part block s.at))) f.size u.unfit)
      (next_written (take s.count s.held) (take s.used s.out) (drop s.at block) feed_ahead))
    where
      sum : (n a b x y : ℕ) → a ≡ b → n < a + x → b + x ≤ y → n < y
      sum n a b x y e h q = omega arith

pub takes_all : TakesAll
takes_all block held count out c r h = go (stops_full block held count out c r)
  where
    over : (a b : ℕ) → a ≤ b → b < a → ⊥
    over a b x y = omega arith

    go : ((fed block held count out).at ≡ length block) ⊎ NextUnfit block (fed block held count out) → (fed block held count out).at ≡ length block
    go (inl e) = e
    go (inr u) = absurd (over _ _ h (too_long block held count out r (fed block held count out) (feeds block held count out c r) u))

-- ---- one line at least

-- what is taken only grows
answered_grows : (block : List ℕ) (s : Feed) (bytes : List ℕ) → s.at ≤ (feed_answered block s bytes).at
unfolding feed_answered
answered_grows block s bytes = le_trans (end_from block s.at) (le-add_right (line_end block s.at) 1)

full_grows : (block : List ℕ) (s : Feed) (bytes : List ℕ) → s.at ≤ (feed_full block s bytes).at
unfolding feed_full
full_grows block s bytes = go (is_direct block s.at s.count)
  where
    go : (t : Bool) → s.at ≤ cond t s.at (line_end block s.at)
    go true = le_refl s.at
    go false = end_from block s.at

cut_grows : (block : List ℕ) (s : Feed) → s.at ≤ (feed_cut block s).at
unfolding feed_cut
cut_grows block s = end_from block s.at

step_grows : (block : List ℕ) (k : ℕ) (s : Feed) → s.at ≤ (feed_step block k s).at
unfolding feed_step feed_line feed_ended
step_grows block k s = go s.more (is_ended block s.at) (leb (s.used + length (answered (next_bytes block s.at s.held s.count))) (length s.out))
  where
    bytes : List ℕ
    bytes = answered (next_bytes block s.at s.held s.count)

    go : (m t u : Bool) → s.at ≤ (cond m (cond t (cond u (feed_answered block s bytes) (feed_full block s bytes)) (feed_cut block s)) s).at
    go true true true = answered_grows block s bytes
    go true true false = full_grows block s bytes
    go true false u = cut_grows block s
    go false t u = le_refl s.at

rounds_grow : (block : List ℕ) (s : Feed) (n : ℕ) → s.at ≤ (rounds (feed_step block) n s).at
rounds_grow block s n = rounds_keep (feed_step block) (λ k x. s.at ≤ x.at) s (le_refl s.at) (λ k x h. le_trans h (step_grows block k x)) n

abbrev Line : List ℕ → ℕ → Type 0
Line block at = (length block ≤ at) ⊎ (before_feed block < at)

line_later : (block : List ℕ) (a b : ℕ) → a ≤ b → Line block a → Line block b
line_later block a b h (inl l) = inl (le_trans l h)
line_later block a b h (inr l) = inr (le_trans l h)

pub answered_room : (line : List ℕ) → length (answered line) ≤ 16385
unfolding answered
answered_room line = subst (λ (n : ℕ). n ≤ 16385) (sym (length-append (answer_line line) (line_feed ∷ []))) (one (length (answer_line line)) (answer_in_line line))
  where
    one : (a : ℕ) → a ≤ 16384 → a + 1 ≤ 16385
    one a h = omega arith

-- the first line of a block is answered, or the block has no LF
first_ended : (block held : List ℕ) (count : ℕ) (out bytes : List ℕ) → length bytes ≤ length out → before_feed block < (feed_ended block (feed_start held count out) bytes).at
unfolding feed_ended feed_answered feed_start line_end
first_ended block held count out bytes h =
    rw (le-leb (0 + length bytes) (length out) (subst (λ (n : ℕ). n ≤ length out) (sym (zero-add (length bytes))) h)) (past (before_feed block))
  where
    past : (n : ℕ) → n < 0 + n + 1
    past n = omega arith

first_cut : (block held : List ℕ) (count : ℕ) (out : List ℕ) → is_ended block 0 ≡ false → length block ≤ (feed_cut block (feed_start held count out)).at
unfolding feed_cut feed_start is_ended
first_cut block held count out e = ltb-false (line_end block 0) (length block) e

first_line : (block held : List ℕ) (count : ℕ) (out : List ℕ) → 16385 ≤ length out → Line block (feed_line block (feed_start held count out)).at
unfolding feed_line feed_start
first_line block held count out o = go (is_ended block 0) refl
  where
    go : (t : Bool) → is_ended block 0 ≡ t → Line block (cond t (feed_ended block (feed_start held count out) (answered (next_bytes block 0 held count))) (feed_cut block (feed_start held count out))).at
    go true e = inr (first_ended block held count out (answered (next_bytes block 0 held count)) (le_trans (answered_room (next_bytes block 0 held count)) o))
    go false e = inl (first_cut block held count out e)

line_taken : (block held : List ℕ) (count : ℕ) (out : List ℕ) → 16385 ≤ length out → Line block (fed block held count out).at
unfolding fed feed_step feed_start
line_taken block held count out o =
    subst (λ (s : Feed). Line block s.at) (sym (ap (λ (n : ℕ). rounds (feed_step block) n (feed_start held count out))
    (add-one (length block)) ∙ steady (feed_step block) (λ k m s. refl) (length block) (feed_start held count out)))
    (line_later block _ _ (rounds_grow block (feed_line block (feed_start held count out)) (length block)) (first_line block held count out o))

pub takes_a_line : TakesALine
takes_a_line block held count out c r o = go (line_taken block held count out o)
  where
    go : Line block (fed block held count out).at → ((fed block held count out).at ≡ length block) ⊎ (before_feed block < (fed block held count out).at)
    go (inl h) = inl (le_antisymm (feeds block held count out c r).taken h)
    go (inr h) = inr h

-- ---- the loop

-- of each line that is taken the LF is gone
drop_feeds_by : (t : Bool) (n m : ℕ) → n ≤ m → n ≤ feeds_by t m
unfolding feeds_by
drop_feeds_by true n m h = le_trans h (le_of_lt (le_refl (suc m)))
drop_feeds_by false n m h = h

drop_feeds : (bytes : List ℕ) (k : ℕ) → line_feeds (drop k bytes) ≤ line_feeds bytes
unfolding line_feeds
drop_feeds [] zero = le_refl 0
drop_feeds [] (suc k) = le_refl 0
drop_feeds (b ∷ bytes) zero = le_refl _
drop_feeds (b ∷ bytes) (suc k) = drop_feeds_by (eqb b line_feed) (line_feeds (drop k bytes)) (line_feeds bytes) (drop_feeds bytes k)

fewer_by : (t : Bool) (bytes : List ℕ) (k : ℕ) → before_by t (before_feed bytes) < suc k → (before_feed bytes < k → line_feeds (drop k bytes) < line_feeds bytes)
    → line_feeds (drop k bytes) < feeds_by t (line_feeds bytes)
unfolding feeds_by before_by
fewer_by true bytes k h ih = suc-le-suc (drop_feeds bytes k)
fewer_by false bytes k h ih = ih (smaller (before_feed bytes) k h)
  where
    smaller : (x y : ℕ) → suc x < suc y → x < y
    smaller x y q = omega arith

fewer_feeds : (bytes : List ℕ) (k : ℕ) → before_feed bytes < k → k ≤ length bytes → line_feeds (drop k bytes) < line_feeds bytes
unfolding line_feeds before_feed
fewer_feeds bytes zero h l = absurd (none (before_feed bytes) h)
  where
    none : (n : ℕ) → n < 0 → ⊥
    none n q = omega arith
fewer_feeds [] (suc k) h l = absurd (none k l)
  where
    none : (n : ℕ) → suc n ≤ 0 → ⊥
    none n q = omega arith
fewer_feeds (b ∷ bytes) (suc k) h l = fewer_by (eqb b line_feed) bytes k h (λ q. fewer_feeds bytes k q (less k (length bytes) l))
  where
    less : (x y : ℕ) → suc x ≤ suc y → x ≤ y
    less x y q = omega arith

-- what each round keeps, from t on
record Kept (t : Rounds) (u : Rounds) : Type 0 where
  most : u.count ≤ most_held
  room : length u.held ≡ length t.held
  size : length u.out ≡ length t.out
  same : block_taken (machine t.held t.count t.sent) t.rest ≡ block_taken (machine u.held u.count u.sent) u.rest

abbrev Left : Rounds → ℕ → Rounds → Type 0
Left t k u = (u.rest ≡ []) ⊎ (line_feeds u.rest + k ≤ line_feeds t.rest)

module _ (t : Rounds) (r : most_held ≤ length t.held) (o : 16385 ≤ length t.out) where
  module _ (k : ℕ) (u : Rounds) (q : Kept t u) where
    s : Feed
    s = fed u.rest u.held u.count u.out

    enough : most_held ≤ length u.held
    enough = subst (λ (n : ℕ). most_held ≤ n) (sym q.room) r

    f : Fed u.rest u.held u.count u.out (fed u.rest u.held u.count u.out)
    f = feeds u.rest u.held u.count u.out q.most enough

    round_same : block_taken (machine u.held u.count u.sent) u.rest
        ≡ block_taken (machine (fed u.rest u.held u.count u.out).held (fed u.rest u.held u.count u.out).count
        (u.sent ++ take (fed u.rest u.held u.count u.out).used (fed u.rest u.held u.count u.out).out)) (drop (fed u.rest u.held u.count u.out).at u.rest)
    unfolding s after_output
    round_same =
        ap (block_taken (machine u.held u.count u.sent)) (sym (take-append-drop s.at u.rest))
        ∙ feeding_parts (machine u.held u.count u.sent) (take s.at u.rest) (drop s.at u.rest)
        ∙ ap (λ (m : StreamState). block_taken m (drop s.at u.rest)) (output_added (take u.count u.held) u.sent (take s.at u.rest) ∙ ap (after_output u.sent) f.same)

    round_keeps : Kept t (round k u)
    unfolding round round_made
    round_keeps = record { most = f.most; room = f.room ∙ q.room; size = f.size ∙ q.size; same = q.same ∙ round_same }

    round_left : Left t k u → Left t (suc k) (round k u)
    unfolding round round_made
    round_left (inl e) = inl (ap (drop (fed u.rest u.held u.count u.out).at) e ∙ drop-nil (fed u.rest u.held u.count u.out).at)
    round_left (inr l) = go (takes_a_line u.rest u.held u.count u.out q.most enough (subst (λ (n : ℕ). 16385 ≤ n) (sym q.size) o))
      where
        sum : (a b c n : ℕ) → a < b → b + n ≤ c → a + suc n ≤ c
        sum a b c n x y = omega arith

        go : ((fed u.rest u.held u.count u.out).at ≡ length u.rest) ⊎ (before_feed u.rest < (fed u.rest u.held u.count u.out).at)
            → (drop (fed u.rest u.held u.count u.out).at u.rest ≡ []) ⊎ (line_feeds (drop (fed u.rest u.held u.count u.out).at u.rest) + suc k ≤ line_feeds t.rest)
        go (inl e) = inl (ap (λ (n : ℕ). drop n u.rest) e ∙ drop-length u.rest)
        go (inr h) = inr (sum _ (line_feeds u.rest) _ k (fewer_feeds u.rest (fed u.rest u.held u.count u.out).at h f.taken) l)

  rounds_kept : t.count ≤ most_held → (n : ℕ) → Kept t (rounds round n t) × Left t n (rounds round n t)
  rounds_kept c n =
      rounds_keep round (λ k u. Kept t u × Left t k u) t
      (record { most = c; room = refl; size = refl; same = refl }, inr (le_of_eq (add-zero (line_feeds t.rest))))
      (λ k u h. (round_keeps k u h.0, round_left k u h.0 h.1))
      n

  rounds_end : t.count ≤ most_held → (n : ℕ) → line_feeds t.rest + 1 ≤ n → (rounds round n t).rest ≡ []
  rounds_end c n h = go (rounds_kept c n).1
    where
      over : (a b m : ℕ) → b + 1 ≤ m → a + m ≤ b → ⊥
      over a b m x y = omega arith

      go : Left t n (rounds round n t) → (rounds round n t).rest ≡ []
      go (inl e) = e
      go (inr l) = absurd (over _ _ n h l)

pub block_taken_whole : BlockTaken
unfolding with_block
block_taken_whole t block n c r o h =
    let u = with_block t block in
    let k = (rounds_kept u r o c n).0 in
    let e = rounds_end u r o c n h in
    record {
      rest = e;
      most = k.most;
      room = k.room;
      size = k.size;
      same = k.same ∙ ap (block_taken (machine (rounds round n u).held (rounds round n u).count (rounds round n u).sent)) e ∙ block_nil _;
    }

-- ---- block after block

sent_ended : (t : Rounds) → all_sent t ≡ written (machine t.held t.count t.sent)
unfolding all_sent after_output
sent_ended t =
    sym (written_after t.sent (machine t.held t.count []))
    ∙ ap (λ (l : List ℕ). written (machine t.held t.count l)) (append-nil t.sent)

blocks_sent : (blocks : List (List ℕ)) (t : Rounds) → t.count ≤ most_held → most_held ≤ length t.held → 16385 ≤ length t.out
    → all_sent (blocks_taken_in t blocks) ≡ written (block_taken (machine t.held t.count t.sent) (joined blocks))
unfolding blocks_taken_in joined block_taken_in
blocks_sent [] t c r o = sent_ended t ∙ ap written (sym (block_nil (machine t.held t.count t.sent)))
blocks_sent (block ∷ rest) t c r o =
    let k = block_taken_whole t block (line_feeds block + 1) c r o (le_refl (line_feeds block + 1)) in
    blocks_sent rest (rounds round (line_feeds block + 1) (with_block t block)) k.most (subst (λ (n : ℕ). most_held ≤ n) (sym k.room) r) (subst (λ (n : ℕ). 16385 ≤ n) (sym k.size) o)
    ∙ ap (λ (m : StreamState). written (block_taken m (joined rest))) (sym k.same)
    ∙ ap written (sym (feeding_parts (machine t.held t.count t.sent) block (joined rest)))

pub every_line : EveryLine
unfolding rounds_start stream_start
every_line held out blocks r o = blocks_sent blocks (rounds_start held out) zero-le r o ∙ machine_answers (joined blocks)
