-- What a block's feeding takes and writes is what the byte machine does with the same bytes. Assumes nothing.
use Prim.Native.Nat.{ℕ, suc, ◌+◌, ◌-◌, ◌≤◌, ◌<◌, min, zero-le, suc-le-suc}
use native.Mathlib.Nat.{le_refl, le_trans, le-add_right, add-suc}
use native.Mathlib.Numerals.{add-one, add-one-le}
use native.Mathlib.Omega.{arith}
use mathlib.Core.Bool.{Bool, true, false, cond, ◌&&◌}
use mathlib.Core.Path.{◌≡◌, refl, sym, ap, ◌∙◌, subst}
use mathlib.Core.List.{List, [], ◌∷◌, ◌++◌, append-nil, append_assoc}
use lib.Dec.{leb, eqb}
use lib.ListN.{length, take, drop, length-append, length-take, length-drop}
use lib.Seq.{take_all, length-take-le, take-append-add, take-add, drop-drop, sets-eq, take_at}
use borrow.Author.Tests.{leb-true, ltb-true, eqb-true}
use Rattle.base.specs.Loop.{rounds}
use Rattle.base.proofs.Laws.{rounds_keep}
use Rattle.format_digits.specs.Stores.{put}
use Rattle.format_digits.proofs.Puts.{put_length}
use Rattle.format.specs.Fields.{line_feed}
use Rattle.job.specs.Stream.{StreamState, stream_start, answered, with_byte, with_answer, byte_by, byte_taken, block_taken, joined, written, ended_by, after_output}
use Rattle.job.proofs.Stream.{block_nil, block_cons, feeding_parts, kept_is, cut_answer, machine_answers, output_added}
use Rattle.job_stream.specs.Feeding.{before_by, before_feed, line_end, line_part, most_held, held_with, count_with, is_ended, is_direct, next_count, next_held, next_bytes, Feed, feed_cut, feed_answered, feed_full, feed_ended}
use Rattle.job_stream.specs.Feeding.{feed_line, feed_step, feed_start, fed, machine, Fed, Feeds, Call, call_fed, all_taken, all_written, AnyCalls}

-- ---- the bytes before the first LF

before_by_le : (t : Bool) (n m : ℕ) → n ≤ m → before_by t n ≤ suc m
unfolding before_by
before_by_le true n m h = zero-le
before_by_le false n m h = suc-le-suc h

pub before_le : (bytes : List ℕ) → before_feed bytes ≤ length bytes
unfolding before_feed
before_le [] = le_refl 0
before_le (b ∷ bytes) = before_by_le (eqb b line_feed) (before_feed bytes) (length bytes) (before_le bytes)

-- the machine after the first bytes of a line
abbrev pub in_line : List ℕ → List ℕ → StreamState
in_line line output = record { line = take most_held line; output = output }

-- bytes without LF are added to the line
one_by : (t : Bool) (b : ℕ) (bytes line output : List ℕ) → eqb b line_feed ≡ t
    → ((more : List ℕ) → block_taken (in_line more output) (take (before_feed bytes) bytes) ≡ in_line (more ++ take (before_feed bytes) bytes) output)
    → block_taken (in_line line output) (take (before_by t (before_feed bytes)) (b ∷ bytes)) ≡ in_line (line ++ take (before_by t (before_feed bytes)) (b ∷ bytes)) output
unfolding before_by byte_taken byte_by with_byte
one_by true b bytes line output e ih = block_nil (in_line line output) ∙ ap (λ (l : List ℕ). in_line l output) (sym (append-nil line))
one_by false b bytes line output e ih =
    block_cons (in_line line output) b (take (before_feed bytes) bytes)
    ∙ ap (λ (t : Bool). block_taken (byte_by t (in_line line output) b) (take (before_feed bytes) bytes)) e
    ∙ ap (λ (l : List ℕ). block_taken (record { line = l; output = output }) (take (before_feed bytes) bytes)) (kept_is line b)
    ∙ ih (line ++ b ∷ [])
    ∙ ap (λ (l : List ℕ). in_line l output) (append_assoc line (b ∷ []) (take (before_feed bytes) bytes))

pub part_taken : (bytes line output : List ℕ) → block_taken (in_line line output) (take (before_feed bytes) bytes) ≡ in_line (line ++ take (before_feed bytes) bytes) output
unfolding before_feed
part_taken [] line output = block_nil (in_line line output) ∙ ap (λ (l : List ℕ). in_line l output) (sym (append-nil line))
part_taken (b ∷ bytes) line output = one_by (eqb b line_feed) b bytes line output refl (λ more. part_taken bytes more output)

-- what follows them is an LF
feed_by : (t : Bool) (b : ℕ) (bytes : List ℕ) → eqb b line_feed ≡ t → before_by t (before_feed bytes) < suc (length bytes)
    → (before_feed bytes < length bytes → drop (before_feed bytes) bytes ≡ line_feed ∷ drop (suc (before_feed bytes)) bytes)
    → drop (before_by t (before_feed bytes)) (b ∷ bytes) ≡ line_feed ∷ drop (suc (before_by t (before_feed bytes))) (b ∷ bytes)
unfolding before_by
feed_by true b bytes e l ih = ap (λ (x : ℕ). x ∷ bytes) (eqb-true b line_feed e)
feed_by false b bytes e l ih = ih (smaller (before_feed bytes) (length bytes) l)
  where
    smaller : (x y : ℕ) → suc x < suc y → x < y
    smaller x y h = omega arith

pub feed_follows : (bytes : List ℕ) → before_feed bytes < length bytes → drop (before_feed bytes) bytes ≡ line_feed ∷ drop (suc (before_feed bytes)) bytes
unfolding before_feed
feed_follows [] l = absurd (none l)
  where
    none : 0 < 0 → ⊥
    none h = omega arith
feed_follows (b ∷ bytes) l = feed_by (eqb b line_feed) b bytes refl l (feed_follows bytes)

-- ---- bytes stored after others

put_take : (l : List ℕ) (at : ℕ) (x : List ℕ) → at + length x ≤ length l → take (at + length x) (put l at x) ≡ take at l ++ x
unfolding put
put_take l at x h =
    ap (λ (m : List ℕ). take (at + length x) m) (sets-eq x l at h)
    ∙ take_at (take at l ++ x) (drop (at + length x) l) (at + length x)
    (length-append (take at l) x ∙ ap (λ (n : ℕ). n + length x) (length-take-le at l (le_trans (le-add_right at (length x)) h)))

-- as many bytes as the held line has room for
pub part_most : (count : ℕ) (part : List ℕ) → count ≤ most_held → count_with count part ≤ most_held
unfolding count_with
part_most count part h = fit count (length (take (most_held - count) part)) h (subst (λ (n : ℕ). n ≤ most_held - count) (sym (length-take (most_held - count) part)) (min_first (most_held - count) (length part)))
  where
    min_first : (a b : ℕ) → min a b ≤ a
    min_first a b = omega arith

    fit : (c x : ℕ) → c ≤ 16385 → x ≤ 16385 - c → c + x ≤ 16385
    fit c x a b = omega arith

count_taken : (held : List ℕ) (count : ℕ) (part : List ℕ) → count_with count part ≤ length held
    → take (count_with count part) (put held count (take (most_held - count) part)) ≡ take count held ++ take (most_held - count) part
unfolding count_with
count_taken held count part h = put_take held count (take (most_held - count) part) h

held_part : (held : List ℕ) (count : ℕ) (part : List ℕ) → count ≤ most_held → most_held ≤ length held
    → take most_held (take count held ++ part) ≡ take (count_with count part) (held_with held count part)
unfolding held_with
held_part held count part h r =
    ap (λ (n : ℕ). take n (take count held ++ part)) (whole count h ∙ ap (λ (n : ℕ). n + (most_held - count)) (sym (length-take-le count held (le_trans h r))))
    ∙ take-append-add (take count held) part (most_held - count)
    ∙ sym (count_taken held count part (le_trans (part_most count part h) r))
  where
    whole : (c : ℕ) → c ≤ 16385 → 16385 ≡ c + (16385 - c)
    whole c a = omega arith

-- ---- one line of a block

not_direct : (block : List ℕ) (at count : ℕ) → is_ended block at ≡ false → is_direct block at count ≡ false
unfolding is_direct
not_direct block at count e = rw e refl

module _ (block held₀ : List ℕ) (count₀ : ℕ) (out₀ : List ℕ) (r : most_held ≤ length held₀) (s : Feed) (f : Fed block held₀ count₀ out₀ s) where
  rest : List ℕ
  rest = drop s.at block

  enough : most_held ≤ length s.held
  enough = subst (λ (n : ℕ). most_held ≤ n) (sym f.room) r

  rest_size : length rest ≡ length block - s.at
  unfolding rest
  rest_size = length-drop s.at block

  pub end_le : line_end block s.at ≤ length block
  unfolding line_end rest
  end_le = sum s.at (before_feed rest) (length block) f.taken (subst (λ (n : ℕ). before_feed rest ≤ n) rest_size (before_le rest))
    where
      sum : (a p l : ℕ) → a ≤ l → p ≤ l - a → a + p ≤ l
      sum a p l h q = omega arith

  -- the machine at the line's end
  at_end : block_taken (machine held₀ count₀ []) (take (line_end block s.at) block) ≡ in_line (take s.count s.held ++ line_part block s.at) (take s.used s.out)
  unfolding line_end line_part rest
  at_end =
      ap (λ (l : List ℕ). block_taken (machine held₀ count₀ []) l) (take-add s.at (before_feed rest) block)
      ∙ feeding_parts (machine held₀ count₀ []) (take s.at block) (take (before_feed rest) rest)
      ∙ ap (λ (m : StreamState). block_taken m (take (before_feed rest) rest)) (f.same ∙ ap (λ (l : List ℕ). record { line = l; output = take s.used s.out }) (sym short))
      ∙ part_taken rest (take s.count s.held) (take s.used s.out)
    where
      short : take most_held (take s.count s.held) ≡ take s.count s.held
      short = take_all most_held (take s.count s.held) (subst (λ (n : ℕ). n ≤ most_held) (sym (length-take-le s.count s.held (le_trans f.most enough))) f.most)

  -- where its part is held
  held_end : block_taken (machine held₀ count₀ []) (take (line_end block s.at) block)
      ≡ machine (held_with s.held s.count (line_part block s.at)) (count_with s.count (line_part block s.at)) (take s.used s.out)
  held_end = at_end ∙ ap (λ (l : List ℕ). record { line = l; output = take s.used s.out }) (held_part s.held s.count (line_part block s.at) f.most enough)

  held_size : (part : List ℕ) → length (held_with s.held s.count part) ≡ length held₀
  unfolding held_with
  held_size part = put_length s.held s.count (take (most_held - s.count) part) ∙ f.room

  cut_keeps : is_direct block s.at s.count ≡ false → Fed block held₀ count₀ out₀ (feed_cut block s)
  unfolding feed_cut next_held next_count
  cut_keeps e = rw e (record { taken = end_le; most = part_most s.count (line_part block s.at) f.most; room = held_size (line_part block s.at); used = f.used; size = f.size; same = held_end })

  full_keeps : (bytes : List ℕ) → Fed block held₀ count₀ out₀ (feed_full block s bytes)
  unfolding feed_full next_held next_count
  full_keeps bytes = go (is_direct block s.at s.count)
    where
      go : (t : Bool) → Fed block held₀ count₀ out₀ (record {
        at = cond t s.at (line_end block s.at);
        held = cond t s.held (held_with s.held s.count (line_part block s.at));
        count = cond t s.count (count_with s.count (line_part block s.at));
        out = s.out;
        used = s.used;
        needed = length bytes;
        more = false;
      })
      go true = record { taken = f.taken; most = f.most; room = f.room; used = f.used; size = f.size; same = f.same }
      go false = record { taken = end_le; most = part_most s.count (line_part block s.at) f.most; room = held_size (line_part block s.at); used = f.used; size = f.size; same = held_end }

  module _ (e : is_ended block s.at ≡ true) where
    pub end_lt : line_end block s.at < length block
    unfolding is_ended
    end_lt = ltb-true (line_end block s.at) (length block) e

    -- the LF after the line
    pub feed_there : drop (line_end block s.at) block ≡ line_feed ∷ drop (line_end block s.at + 1) block
    unfolding line_end rest
    feed_there =
        sym (drop-drop (before_feed rest) s.at block)
        ∙ feed_follows rest (subst (λ (n : ℕ). before_feed rest < n) (sym rest_size) (room s.at (before_feed rest) (length block) end_lt))
        ∙ ap (λ (l : List ℕ). line_feed ∷ l) (drop-drop (suc (before_feed rest)) s.at block ∙ ap (λ (n : ℕ). drop n block) (add-suc s.at (before_feed rest) ∙ sym (add-one (s.at + before_feed rest))))
      where
        room : (a p l : ℕ) → a + p < l → p < l - a
        room a p l h = omega arith

    past_feed : take (line_end block s.at + 1) block ≡ take (line_end block s.at) block ++ line_feed ∷ []
    past_feed =
        take-add (line_end block s.at) 1 block
        ∙ ap (λ (l : List ℕ). take (line_end block s.at) block ++ take 1 l) feed_there

    -- the line that the machine then answers, whole or held
    pub the_line : answered (take most_held (take s.count s.held ++ line_part block s.at)) ≡ answered (next_bytes block s.at s.held s.count)
    unfolding next_bytes next_count next_held answered is_direct
    the_line = go (eqb s.count 0) refl
      where
        none : (n : ℕ) → n ≡ 0 → take n s.held ≡ []
        none n h = ap (λ (k : ℕ). take k s.held) h

        go : (t : Bool) → eqb s.count 0 ≡ t → answered (take most_held (take s.count s.held ++ line_part block s.at))
            ≡ answered (cond (is_ended block s.at && t) (line_part block s.at) (take
            (cond (is_ended block s.at && t) s.count (count_with s.count (line_part block s.at)))
            (cond (is_ended block s.at && t) s.held (held_with s.held s.count (line_part block s.at)))))
        go true h = rw e (ap (λ (l : List ℕ). answered (take most_held (l ++ line_part block s.at))) (none s.count (eqb-true s.count 0 h)) ∙ ap (λ (l : List ℕ). l ++ line_feed ∷ []) (cut_answer (line_part block s.at)))
        go false h = rw e (ap answered (held_part s.held s.count (line_part block s.at) f.most enough))

    answered_end : block_taken (machine held₀ count₀ []) (take (line_end block s.at + 1) block)
        ≡ record { line = []; output = take s.used s.out ++ answered (next_bytes block s.at s.held s.count) }
    unfolding byte_taken byte_by with_answer
    answered_end =
        ap (λ (l : List ℕ). block_taken (machine held₀ count₀ []) l) past_feed
        ∙ feeding_parts (machine held₀ count₀ []) (take (line_end block s.at) block) (line_feed ∷ [])
        ∙ ap (λ (m : StreamState). block_taken m (line_feed ∷ [])) at_end
        ∙ block_cons (in_line (take s.count s.held ++ line_part block s.at) (take s.used s.out)) line_feed []
        ∙ block_nil _
        ∙ ap (λ (l : List ℕ). record { line = []; output = take s.used s.out ++ l }) the_line

    next_size : length (next_held block s.at s.held s.count) ≡ length held₀
    unfolding next_held
    next_size = go (is_direct block s.at s.count)
      where
        go : (t : Bool) → length (cond t s.held (held_with s.held s.count (line_part block s.at))) ≡ length held₀
        go true = f.room
        go false = held_size (line_part block s.at)

    answer_keeps : (bytes : List ℕ) → bytes ≡ answered (next_bytes block s.at s.held s.count) → s.used + length bytes ≤ length s.out
        → Fed block held₀ count₀ out₀ (feed_answered block s bytes)
    unfolding feed_answered
    answer_keeps bytes q h =
        record {
          taken = add-one-le end_lt;
          most = zero-le;
          room = next_size;
          used = subst (λ (n : ℕ). s.used + length bytes ≤ n) f.size h;
          size = put_length s.out s.used bytes ∙ f.size;
          same =
              answered_end
              ∙ ap (λ (l : List ℕ). record { line = []; output = l }) (ap (λ (l : List ℕ). take s.used s.out ++ l) (sym q) ∙ sym (put_take s.out s.used bytes h));
        }

    ended_keeps : Fed block held₀ count₀ out₀ (feed_ended block s (answered (next_bytes block s.at s.held s.count)))
    unfolding feed_ended
    ended_keeps = go (answered (next_bytes block s.at s.held s.count)) refl (leb (s.used + length (answered (next_bytes block s.at s.held s.count))) (length s.out)) refl
      where
        go : (bytes : List ℕ) → bytes ≡ answered (next_bytes block s.at s.held s.count) → (t : Bool) → leb (s.used + length bytes) (length s.out) ≡ t
            → Fed block held₀ count₀ out₀ (cond t (feed_answered block s bytes) (feed_full block s bytes))
        go bytes q true h = answer_keeps bytes q (leb-true (s.used + length bytes) (length s.out) h)
        go bytes q false h = full_keeps bytes

  line_keeps : Fed block held₀ count₀ out₀ (feed_line block s)
  unfolding feed_line
  line_keeps = go (is_ended block s.at) refl
    where
      uncut : is_ended block s.at ≡ false → is_direct block s.at s.count ≡ false
      uncut = not_direct block s.at s.count

      go : (t : Bool) → is_ended block s.at ≡ t → Fed block held₀ count₀ out₀ (cond t (feed_ended block s (answered (next_bytes block s.at s.held s.count))) (feed_cut block s))
      go true e = ended_keeps e
      go false e = cut_keeps (uncut e)

  pub step_keeps : (k : ℕ) → Fed block held₀ count₀ out₀ (feed_step block k s)
  unfolding feed_step
  step_keeps k = go s.more
    where
      go : (t : Bool) → Fed block held₀ count₀ out₀ (cond t (feed_line block s) s)
      go true = line_keeps
      go false = f

-- after any number of lines
pub feeds_to : (block held : List ℕ) (count : ℕ) (out : List ℕ) → count ≤ most_held → most_held ≤ length held → (k : ℕ)
    → Fed block held count out (rounds (feed_step block) k (feed_start held count out))
unfolding feed_start
feeds_to block held count out h r k =
    rounds_keep (feed_step block) (λ i s. Fed block held count out s) (feed_start held count out)
    (record { taken = zero-le; most = h; room = refl; used = zero-le; size = refl; same = block_nil (machine held count []) })
    (λ i s f. step_keeps block held count out r s f i)
    k

pub feeds : Feeds
unfolding fed
feeds block held count out h r = feeds_to block held count out h r (length block + 1)

-- ---- calls

ended_after : (line output more : List ℕ) → written (after_output output (record { line = line; output = more })) ≡ output ++ written (record { line = line; output = more })
unfolding written ended_by with_answer after_output
ended_after [] output more = refl
ended_after (b ∷ line) output more = append_assoc output more (answered (b ∷ line))

pub written_after : (output : List ℕ) (s : StreamState) → written (after_output output s) ≡ output ++ written s
written_after output s = ended_after s.line output s.output

calls_from : (calls : List Call) (held : List ℕ) (count : ℕ) → count ≤ most_held → most_held ≤ length held
    → all_written held count calls ≡ written (block_taken (machine held count []) (joined (all_taken held count calls)))
unfolding all_written all_taken joined call_fed
calls_from [] held count h r = ap written (sym (block_nil (machine held count [])))
calls_from (c ∷ calls) held count h r =
    let s = fed c.block held count c.out in
    let f = feeds c.block held count c.out h r in
    let t = joined (all_taken s.held s.count calls) in
    ap (λ (l : List ℕ). take s.used s.out ++ l) (calls_from calls s.held s.count f.most (subst (λ (n : ℕ). most_held ≤ n) (sym f.room) r))
    ∙ sym (written_after (take s.used s.out) (block_taken (machine s.held s.count []) t))
    ∙ ap written (sym (output_added (take s.count s.held) (take s.used s.out) t))
    ∙ ap (λ (m : StreamState). written (block_taken m t)) (sym f.same)
    ∙ ap written (sym (feeding_parts (machine held count []) (take s.at c.block) t))

pub any_calls : AnyCalls
unfolding stream_start
any_calls held calls r = calls_from calls held 0 zero-le r ∙ machine_answers (joined (all_taken held 0 calls))
