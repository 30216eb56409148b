-- A round takes a byte at least, and what is held after it is the machine's line. Assumes nothing.
use Prim.Native.Nat.{ℕ, ◌+◌, ◌-◌, ◌≤◌, ◌<◌}
use native.Mathlib.Nat.{le_of_eq}
use native.Mathlib.Omega.{arith}
use mathlib.Core.Bool.{Bool, true, false, cond}
use mathlib.Core.Logic.{◌⊎◌, inl, inr}
use mathlib.Core.Path.{◌≡◌, refl, sym, ap, ◌∙◌, subst}
use mathlib.Core.List.{List, []}
use lib.Dec.{leb}
use lib.ListN.{length, take, drop, length-drop}
use lib.Seq.{take-add, take_all}
use borrow.Author.Tests.{leb-true}
use Rattle.format_digits.specs.Stores.{put}
use Rattle.format_digits.proofs.Puts.{put_length}
use Rattle.job.specs.Stream.{StreamState, answered, block_taken, after_output}
use Rattle.job.proofs.Stream.{block_nil, feeding_parts, output_added}
use Rattle.job_stream.specs.Feeding.{before_feed, most_held, Feed, fed, machine, Fed}
use Rattle.job_stream.proofs.Machine.{feeds}
use Rattle.job_stream.proofs.Progress.{takes_a_line}
use Rattle.job_lines.specs.declared.Fed as fed-type
use Rattle.job_lines.specs.declared.Last.{Last}
use Rattle.job_lines.specs.Wire.{answer_fits, answer_put, put_written, held_of, out_of, holds, stuck, stream_fed, feed_as, feed_told, last_line, finished, finish_written, finish_told}
use Rattle.job_lines.proofs.Ends.{held_room, held_most}
use Rattle.job_lines.proofs.BlockByLines.{is_fed}
use Rattle.lizardwire.specs.declared.Round.{Round}
use Rattle.lizardwire.specs.Program.{round_told, BlockTaken}

-- ---- what a call hands back is within its block and its output

module _ (block held : List ℕ) (count : ℕ) (out : List ℕ) where
  taken_in : (stream_fed block held count out).at ≤ length block
  unfolding stream_fed stuck
  taken_in = go (holds held count) refl
    where
      go : (t : Bool) → holds held count ≡ t → (cond t (fed block held count out) (stuck held count out)).at ≤ length block
      go true h = (feeds block held count out (held_most held count h) (held_room held count h)).taken
      go false h = omega arith

  used_in : (stream_fed block held count out).used ≤ length out
  unfolding stream_fed stuck
  used_in = go (holds held count) refl
    where
      go : (t : Bool) → holds held count ≡ t → (cond t (fed block held count out) (stuck held count out)).used ≤ length out
      go true h = (feeds block held count out (held_most held count h) (held_room held count h)).used
      go false h = omega arith

  round_used : (at : ℕ) (t : Round) → t ≡ round_told at (stream_fed block held count out) → t.used ≤ length out
  unfolding round_told
  round_used at t e = subst (λ (x : Round). x.used ≤ length out) (sym e) used_in

-- the rest of a block as the code cuts it out
module _ (block : List ℕ) (at : ℕ) (held : List ℕ) (count : ℕ) (out : List ℕ) where
  rest_is : take (length block - at) (drop at block) ≡ drop at block
  rest_is = take_all (length block - at) (drop at block) (le_of_eq (length-drop at block))

  module _ (f : fed-type.Fed) (e : f ≡ feed_told (take (length block - at) (drop at block)) held count out) where
    fed_is : f ≡ feed_told (drop at block) held count out
    fed_is = e ∙ ap (λ (l : List ℕ). feed_told l held count out) rest_is

    pub round_fits : at ≤ length block → at + f.taken ≤ length block
    unfolding feed_told feed_as
    round_fits a =
        sum at f.taken (length block) a
        (subst (λ (x : fed-type.Fed). x.taken ≤ length block - at) (sym fed_is) (subst (λ (n : ℕ). (stream_fed (drop at block) held count out).at ≤ n) (length-drop at block) (taken_in (drop at block) held count out)))
      where
        sum : (x y n : ℕ) → x ≤ n → y ≤ n - x → x + y ≤ n
        sum x y n p q = omega arith

    pub round_is : ◌≡◌ {A = Round} (record { at = at + f.taken; count = f.count; used = f.used }) (round_told at (stream_fed (drop at block) held count out))
    unfolding feed_told feed_as round_told
    round_is = ap (λ (x : fed-type.Fed). record { at = at + x.taken; count = x.count; used = x.used }) fed_is

  pub round_held : (l : List ℕ) → l ≡ held_of (stream_fed (take (length block - at) (drop at block)) held count out) → l ≡ held_of (stream_fed (drop at block) held count out)
  round_held l q = q ∙ ap (λ (x : List ℕ). held_of (stream_fed x held count out)) rest_is

  pub round_out : (l : List ℕ) → l ≡ out_of (stream_fed (take (length block - at) (drop at block)) held count out) → l ≡ out_of (stream_fed (drop at block) held count out)
  round_out l q = q ∙ ap (λ (x : List ℕ). out_of (stream_fed x held count out)) rest_is

put_in : (line out : List ℕ) → (answer_put line out 0).used ≤ length out
unfolding answer_put answer_fits
put_in line out = go (leb (0 + length (answered line)) (length out)) refl
  where
    go : (t : Bool) → leb (0 + length (answered line)) (length out) ≡ t → cond t (0 + length (answered line)) 0 ≤ length out
    go true h = leb-true (0 + length (answered line)) (length out) h
    go false h = omega arith

last_used : (held : List ℕ) (count : ℕ) (out : List ℕ) (x : Last) → x ≡ finish_told held count out → x.used ≤ length out
unfolding finish_told finished
last_used held count out x e = subst (λ (y : Last). y.used ≤ length out) (sym e) (go (last_line held count))
  where
    go : (t : Bool) → (cond t (answer_put (take count held) out 0) (record { fits = holds held count; used = 0; needed = 0 })).used ≤ length out
    go true = put_in (take count held) out
    go false = omega arith

put_size : (line out : List ℕ) → length (put_written line out 0) ≡ length out
unfolding put_written
put_size line out = go (answer_fits line out 0)
  where
    go : (t : Bool) → length (cond t (put out 0 (answered line)) out) ≡ length out
    go true = put_length out 0 (answered line)
    go false = refl

pub last_writes : (held : List ℕ) (count : ℕ) (out : List ℕ) (x : Last) → x ≡ finish_told held count out → (l : List ℕ) → l ≡ finish_written held count out → x.used ≤ length l
unfolding finish_written
last_writes held count out x e l q = subst (λ (n : ℕ). x.used ≤ n) (sym (ap length q ∙ go (last_line held count))) (last_used held count out x e)
  where
    go : (t : Bool) → length (cond t (put_written (take count held) out 0) out) ≡ length out
    go true = put_size (take count held) out
    go false = refl

-- ---- the loop

abbrev pub Line : List ℕ → List ℕ → ℕ → ℕ → List ℕ → ℕ → Type 0
Line block held₀ count at held have = (block_taken (machine held₀ count []) (take at block)).line ≡ take have held

pub line_starts : (block held : List ℕ) (count : ℕ) → Line block held count 0 held count
line_starts block held count = ap (λ (m : StreamState). m.line) (block_nil (machine held count []))

module _ (block held₀ : List ℕ) (count at : ℕ) (held : List ℕ) (have : ℕ) (out : List ℕ) (a : at ≤ length block) (c : have ≤ most_held) (r : most_held ≤ length held)
    (t : Round) (held₁ out₁ : List ℕ) (e : t ≡ round_told at (stream_fed (drop at block) held have out)) (h : held₁ ≡ held_of (stream_fed (drop at block) held have out))
    (w : out₁ ≡ out_of (stream_fed (drop at block) held have out)) where
  s : Feed
  s = fed (drop at block) held have out

  same : stream_fed (drop at block) held have out ≡ fed (drop at block) held have out
  same = is_fed (drop at block) held have out r c

  f : Fed (drop at block) held have out (fed (drop at block) held have out)
  f = feeds (drop at block) held have out c r

  told_as : t ≡ round_told at (fed (drop at block) held have out)
  told_as = e ∙ ap (round_told at) same

  at_is : t.at ≡ at + (fed (drop at block) held have out).at
  unfolding round_told
  at_is = ap (λ (x : Round). x.at) told_as

  count_is : t.count ≡ (fed (drop at block) held have out).count
  unfolding round_told
  count_is = ap (λ (x : Round). x.count) told_as

  held_is : held₁ ≡ (fed (drop at block) held have out).held
  unfolding held_of
  held_is = h ∙ ap held_of same

  pub round_most : t.count ≤ most_held
  round_most = subst (λ (n : ℕ). n ≤ most_held) (sym count_is) f.most

  pub round_room : length held₁ ≡ length held
  round_room = ap length held_is ∙ f.room

  pub round_size : length out₁ ≡ length out
  unfolding out_of
  round_size = ap length (w ∙ ap out_of same) ∙ f.size

  pub round_writes : t.used ≤ length out₁
  round_writes = subst (λ (n : ℕ). t.used ≤ n) (sym round_size) (round_used (drop at block) held have out at t e)

  pub round_in : t.at ≤ length block
  round_in = subst (λ (n : ℕ). n ≤ length block) (sym at_is) (sum at _ (length block) a (subst (λ (n : ℕ). (fed (drop at block) held have out).at ≤ n) (length-drop at block) f.taken))
    where
      sum : (x y n : ℕ) → x ≤ n → y ≤ n - x → x + y ≤ n
      sum x y n p q = omega arith

  pub round_line : Line block held₀ count at held have → Line block held₀ count t.at held₁ t.count
  unfolding s after_output
  round_line q =
      ap (λ (n : ℕ). (block_taken (machine held₀ count []) (take n block)).line) at_is
      ∙ ap (λ (l : List ℕ). (block_taken (machine held₀ count []) l).line) (take-add at s.at block)
      ∙ ap (λ (m : StreamState). m.line) (feeding_parts (machine held₀ count []) (take at block) (take s.at (drop at block)))
      ∙ ap (λ (m : StreamState). m.line) (output_added before.line before.output (take s.at (drop at block)))
      ∙ ap (λ (l : List ℕ). (block_taken (record { line = l; output = [] }) (take s.at (drop at block))).line) q
      ∙ ap (λ (m : StreamState). m.line) f.same
      ∙ sym (ap (λ (n : ℕ). take n held₁) count_is ∙ ap (λ (l : List ℕ). take s.count l) held_is)
    where
      before : StreamState
      before = block_taken (machine held₀ count []) (take at block)

  -- a byte at least
  pub round_goes : 16385 ≤ length out → at < length block → at < t.at
  round_goes o l = subst (λ (n : ℕ). at < n) (sym at_is) (go (takes_a_line (drop at block) held have out c r o))
    where
      all : (x y n : ℕ) → x < n → y ≡ n - x → x < x + y
      all x y n p q = omega arith

      some : (x y b : ℕ) → b < y → x < x + y
      some x y b p = omega arith

      go : ((fed (drop at block) held have out).at ≡ length (drop at block)) ⊎ (before_feed (drop at block) < (fed (drop at block) held have out).at) → at < at + (fed (drop at block) held have out).at
      go (inl q) = all at _ (length block) l (q ∙ length-drop at block)
      go (inr q) = some at _ (before_feed (drop at block)) q

pub less_left : (x y n : ℕ) → x < y → x < n → n - y < n - x
less_left x y n p q = omega arith

-- at the block's end
pub block_ends : (block held₀ : List ℕ) (count at : ℕ) (held : List ℕ) (have : ℕ) → at ≤ length block → length block ≤ at → have ≤ most_held → Line block held₀ count at held have
    → BlockTaken block held₀ count held have
block_ends block held₀ count at held have a b m q =
    record { most = m; line = sym (ap (λ (l : List ℕ). (block_taken (machine held₀ count []) l).line) (sym (take_all at block b)) ∙ q) }
