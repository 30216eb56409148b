-- Behind the bytes that a block's feeding writes the output is as it was. Assumes nothing.
use Prim.Native.Nat.{ℕ, ◌+◌, ◌≤◌}
use native.Mathlib.Nat.{le_trans, le-add_right}
use mathlib.Core.Bool.{Bool, true, false, cond}
use mathlib.Core.Path.{◌≡◌, refl, ◌∙◌}
use mathlib.Core.List.{List}
use lib.Dec.{leb}
use lib.ListN.{length, drop}
use Rattle.base.proofs.Laws.{rounds_keep}
use Rattle.format_digits.proofs.Puts.{put_behind}
use Rattle.job.specs.Stream.{answered}
use Rattle.job_stream.specs.Feeding.{is_ended, next_bytes, Feed, feed_cut, feed_answered, feed_full, feed_ended, feed_line, feed_step, feed_start, fed}

AsBefore : List ℕ → Feed → Type 0
AsBefore out s = (n : ℕ) → s.used ≤ n → drop n s.out ≡ drop n out

behind_step : (block out : List ℕ) (k : ℕ) (s : Feed) → AsBefore out s → AsBefore out (feed_step block k s)
unfolding AsBefore feed_step feed_line feed_ended feed_answered feed_full feed_cut
behind_step block out k s h = go s.more (is_ended block s.at) (leb (s.used + length bytes) (length s.out))
  where
    bytes : List ℕ
    bytes = answered (next_bytes block s.at s.held s.count)

    go : (t u v : Bool) → AsBefore out (cond t (cond u (cond v (feed_answered block s bytes) (feed_full block s bytes)) (feed_cut block s)) s)
    go true true true n l = put_behind s.out s.used bytes n l ∙ h n (le_trans (le-add_right s.used (length bytes)) l)
    go true true false n l = h n l
    go true false v n l = h n l
    go false u v n l = h n l

pub fed_behind : (block held : List ℕ) (count : ℕ) (out : List ℕ) (n : ℕ) → (fed block held count out).used ≤ n
    → drop n (fed block held count out).out ≡ drop n out
unfolding AsBefore fed feed_start
fed_behind block held count out =
    rounds_keep (feed_step block) (λ k s. AsBefore out s) (feed_start held count out) (λ n l. refl) (λ k s h. behind_step block out k s h) (length block + 1)
