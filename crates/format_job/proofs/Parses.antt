-- A line is what its questions say, taken one after the other. Assumes nothing.
use Prim.Native.Nat.{ℕ, zero, suc, ◌+◌}
use mathlib.Core.Bool.{Bool, true, false, cond, ◌&&◌}
use mathlib.Core.Path.{◌≡◌, refl, ap, ◌∙◌}
use mathlib.Core.List.{List, []}
use lib.Dec.{leb}
use lib.ListN.{get_or, set, length, drop}
use lib.Seq.{get_or-drop}
use Rattle.error.specs.declared.Refusal.TheVariants.{Job}
use Rattle.error.specs.Refusals.{granted, open_refusals}
use Rattle.base.specs.Loop.{rounds}
use Rattle.base.proofs.Laws.{rounds_same}
use Rattle.format.specs.Fields.{fields}
use Rattle.format.specs.JobLines.{side_fits}
use Rattle.format.specs.Lines.{longest_line}
use Rattle.format.specs.JobLines.{head_formed, numbers_formed, well_formed, job_of, ParsedJob, ill_formed, parsed_by, parsed, parse_job}
use Rattle.format_job.specs.Reads.{take_number, taken, is_outward, ring_number, head_fits}
use Rattle.format_job.proofs.Takes.{going, left}

pub job_no : granted Job ≡ false
unfolding open_refusals
job_no = refl

-- ---- the tests of a walk

module _ {A : Type 0} (test : List ℕ → Bool) (value_of : List ℕ → A) where
  one_sound : (b : Bool) (xs ys : List A) → (cond b (going xs) (left ys)).sound ≡ b
  one_sound true xs ys = refl
  one_sound false xs ys = refl

  taken_sound : (fs : List (List ℕ)) (n : ℕ) (before : List A) → (taken test value_of fs n before).sound ≡ rounds (λ k s. s && test (get_or fs k [])) n true
  unfolding taken take_number rounds
  taken_sound fs zero before = refl
  taken_sound fs (suc n) before =
      one_sound ((taken test value_of fs n before).sound && test (get_or fs n [])) (set (taken test value_of fs n before).out n (value_of (get_or fs n []))) (taken test value_of fs n before).out
      ∙ ap (λ (b : Bool). b && test (get_or fs n [])) (taken_sound fs n before)

  pub taken_tests : (fs : List (List ℕ)) (m n : ℕ) (before : List A) → (taken test value_of (drop m fs) n before).sound ≡ rounds (λ k s. s && test (get_or fs (m + k) [])) n true
  taken_tests fs m n before =
      taken_sound (drop m fs) n before
      ∙ rounds_same (λ k s. s && test (get_or (drop m fs) k [])) (λ k s. s && test (get_or fs (m + k) [])) n true (λ k l s. ap (λ (f : List ℕ). s && test f) (get_or-drop m fs k []))

-- ---- the line

in_order : (a h s n : Bool) (x y : ParsedJob) → cond a (cond (h && (s && n)) x y) y ≡ cond ((a && (h && s)) && n) x y
in_order false h s n x y = refl
in_order true false s n x y = refl
in_order true true false n x y = refl
in_order true true true n x y = refl

pub parse_is : (line : List ℕ)
    → parse_job line ≡ cond (head_fits line && numbers_formed (fields line) (ring_number line)) (job_of (fields line) (is_outward line) (ring_number line)) ill_formed
unfolding parse_job parsed parsed_by well_formed head_fits is_outward ring_number
parse_is line =
    in_order (leb (length line) longest_line) (head_formed (fields line)) (side_fits (is_outward line) (ring_number line)) (numbers_formed (fields line) (ring_number line))
    (job_of (fields line) (is_outward line) (ring_number line)) ill_formed
