-- What every answer line has in common. Assumes nothing.
use Prim.Native.Nat.{ℕ}
use mathlib.Core.Bool.{Bool, true, false, cond}
use mathlib.Core.Logic.{◌⊎◌, inl, inr}
use mathlib.Core.Path.{◌≡◌, refl, ap, ◌∙◌}
use mathlib.Core.List.{List}
use lib.Arith.{lt→nleb}
use lib.Dec.{leb}
use lib.Ieee.Bits.{is_false}
use lib.ListN.{length}
use Rattle.region.specs.declared.RegionOffset.{RegionOffset}
use Rattle.error.specs.Refusals.{granted, number, open_refusals}
use Rattle.job.specs.Jobs.{job_refused}
use Rattle.format.specs.Lines.{longest_line, ok_word, no_word, ok_line, no_line}
use Rattle.format.specs.JobLines.{ill_formed, parse_job}
use Rattle.region.specs.Regions.{ring_counts}
use Rattle.job.specs.AnswerLines.{ring_coordinates, answer_bytes, job_parsed, answer_line, Overlong, AnswerStarts}
use Rattle.format.proofs.WrittenLists.{After, after_ok, after_no}
use Rattle.job.proofs.Stream.{overlong_parse}

-- ---- a line above the limit

no_job : answer_bytes (job_parsed ill_formed) ≡ no_line 22
unfolding answer_bytes job_parsed ill_formed job_refused open_refusals
no_job = refl

pub overlong_answer : Overlong
unfolding answer_line
overlong_answer line h =
    ap (λ p. answer_bytes (job_parsed p)) (overlong_parse line (is_false (leb (length line) longest_line) (lt→nleb (length line) longest_line h))) ∙ no_job

-- ---- how an answer line starts

starts : (t : Bool) (yes-line no_line : List ℕ) → After ok_word yes-line → After no_word no_line → After ok_word (cond t yes-line no_line) ⊎ After no_word (cond t yes-line no_line)
starts true yes-line no_line a b = inl a
starts false yes-line no_line a b = inr b

bytes_start : (r : RegionOffset) → After ok_word (answer_bytes r) ⊎ After no_word (answer_bytes r)
unfolding answer_bytes
bytes_start r =
    starts (granted r.refusal) (ok_line (ring_counts r.shape) (ring_coordinates r.shape)) (no_line (number r.refusal))
    (after_ok (ring_counts r.shape) (ring_coordinates r.shape))
    (after_no (number r.refusal))

pub answer_starts : AnswerStarts
unfolding answer_line
answer_starts line = bytes_start (job_parsed (parse_job line))
