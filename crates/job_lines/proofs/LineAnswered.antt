-- The answer line of a line that is read, and of one that is not well formed. Assumes nothing.
use Prim.Native.Nat.{ℕ, ◌≤◌}
use native.Mathlib.Nat.{le_trans, le_of_eq}
use mathlib.Core.Bool.{Bool, true, false}
use mathlib.Core.Path.{◌≡◌, refl, sym, ap, ◌∙◌, subst}
use mathlib.Core.List.{List}
use lib.ListN.{length, take}
use lib.Seq.{length-take-le}
use lib.Ieee.{Float}
use Rattle.error.specs.declared.Refusal.{Refusal}
use Rattle.error.specs.Refusals.{granted, number}
use Rattle.region.specs.declared.RegionOffset.{RegionOffset}
use Rattle.job.specs.Jobs.{job, job_refused}
use Rattle.format.specs.JobLines.{parse_job}
use Rattle.job.specs.AnswerLines.{job_parsed, answer_bytes, answer_line}
use Rattle.format.specs.Lines.{no_line, bytes_written}
use Rattle.format.proofs.LineRoom.{line_room}
use Rattle.format_job.specs.declared.Parsed.{Parsed}
use Rattle.format_job.specs.Reads.{parse_refusal, parsed_all, answered_by, parse_answered, lengths_written, coordinates_written}
use Rattle.format_job.proofs.Jobs.{Told}
use Rattle.format_job.proofs.Enough.{room_enough, same_lengths, answered_refusal, answered_all, front_taken}
use Rattle.job_answer.specs.declared.Answered.{Answered}
use Rattle.job_answer.specs.Writing.{writable, bytes_answered, answered, answer_written}
use Rattle.job_lines.proofs.Writable.{job_writable}

pub counts_part : {A : Type 0} (l : List A) (n : ℕ) → n ≤ length l → n ≡ length (take n l)
counts_part l n h = sym (length-take-le n l h)

module _ (line lengths₀ lengths₁ : List ℕ) (coordinates₀ coordinates₁ : List Float) (p : Parsed) (j : Told line lengths₀ lengths₁ coordinates₀ coordinates₁ p)
    (g : Bool) (e : g ≡ granted p.refusal) (a : 999 ≤ length lengths₀) (b : 962 ≤ length coordinates₀) where
  -- the memory is enough for every line: 20 is not met
  asked : parse_refusal (parse_job line) lengths₀ coordinates₀ ≡ (parse_job line).refusal
  asked = room_enough line lengths₀ coordinates₀ a b

  parsed_is : p ≡ answered_by (parse_job line) (parse_job line).refusal
  unfolding parse_answered
  parsed_is = j.answered ∙ ap (λ (x : Refusal). answered_by (parse_job line) x) asked

  refusal_is : p.refusal ≡ (parse_job line).refusal
  refusal_is = ap (λ (x : Parsed). x.refusal) parsed_is ∙ answered_refusal (parse_job line) (parse_job line).refusal

  -- a line that is not well formed
  module _ (h : g ≡ false) where
    refused : granted (parse_job line).refusal ≡ false
    refused = ap granted (sym refusal_is) ∙ sym e ∙ h

    refused_line : answer_line line ≡ no_line (number p.refusal)
    unfolding answer_line job_parsed answer_bytes job_refused
    refused_line = rw (refused, refused, sym refusal_is) refl

    pub refused_answered : (n : ℕ) (out : List ℕ) (x : Answered) → n ≡ number p.refusal → x ≡ bytes_answered (no_line n) out → x ≡ bytes_answered (answer_line line) out
    refused_answered n out x q r = r ∙ ap (λ (k : ℕ). bytes_answered (no_line k) out) q ∙ ap (λ (l : List ℕ). bytes_answered l out) (sym refused_line)

    pub refused_written : (n : ℕ) (out x : List ℕ) → n ≡ number p.refusal → x ≡ bytes_written (no_line n) out → x ≡ bytes_written (answer_line line) out
    refused_written n out x q r = r ∙ ap (λ (k : ℕ). bytes_written (no_line k) out) q ∙ ap (λ (l : List ℕ). bytes_written l out) (sym refused_line)

  -- one that is
  module _ (h : g ≡ true) where
    given : granted (parse_job line).refusal ≡ true
    given = ap granted (sym refusal_is) ∙ sym e ∙ h

    all_is : p ≡ parsed_all (parse_job line)
    all_is = parsed_is ∙ answered_all (parse_job line) (parse_job line).refusal given

    rings_is : p.rings ≡ length (parse_job line).lengths
    unfolding parsed_all
    rings_is = ap (λ (x : Parsed). x.rings) all_is

    count_is : p.count ≡ length (parse_job line).coordinates
    unfolding parsed_all
    count_is = ap (λ (x : Parsed). x.count) all_is

    outward_is : p.outward ≡ (parse_job line).outward
    unfolding parsed_all
    outward_is = ap (λ (x : Parsed). x.outward) all_is

    distance_is : p.distance ≡ (parse_job line).distance
    unfolding parsed_all
    distance_is = ap (λ (x : Parsed). x.distance) all_is

    pub rings_in : p.rings ≤ length lengths₁
    rings_in =
        le_trans (le_trans (le_of_eq rings_is) (line_room line given).0)
        (subst (λ (n : ℕ). 999 ≤ n) (sym (ap length j.counted ∙ (same_lengths line lengths₀ coordinates₀).0)) a)

    pub count_in : p.count ≤ length coordinates₁
    count_in =
        le_trans (le_trans (le_of_eq count_is) (line_room line given).1)
        (subst (λ (n : ℕ). 962 ≤ n) (sym (ap length j.numbered ∙ (same_lengths line lengths₀ coordinates₀).1)) b)

    lengths_are : take p.rings lengths₁ ≡ (parse_job line).lengths
    unfolding lengths_written
    lengths_are =
        ap (λ (n : ℕ). take n lengths₁) rings_is ∙ ap (λ (l : List ℕ). take (length (parse_job line).lengths) l) j.counted
        ∙ front_taken (granted (parse_refusal (parse_job line) lengths₀ coordinates₀)) (parse_job line).lengths lengths₀ (ap granted asked ∙ given)

    coordinates_are : take p.count coordinates₁ ≡ (parse_job line).coordinates
    unfolding coordinates_written
    coordinates_are =
        ap (λ (n : ℕ). take n coordinates₁) count_is ∙ ap (λ (l : List Float). take (length (parse_job line).coordinates) l) j.numbered
        ∙ front_taken (granted (parse_refusal (parse_job line) lengths₀ coordinates₀)) (parse_job line).coordinates coordinates₀ (ap granted asked ∙ given)

    module _ (o : RegionOffset) (q : o ≡ job p.outward p.distance (take p.rings lengths₁) (take p.count coordinates₁)) where
      the_job : o ≡ job (parse_job line).outward (parse_job line).distance (parse_job line).lengths (parse_job line).coordinates
      the_job = q ∙ same outward_is distance_is lengths_are coordinates_are
        where
          same : {s s' : Bool} {d d' : Float} {l l' : List ℕ} {c c' : List Float} → s ≡ s' → d ≡ d' → l ≡ l' → c ≡ c' → job s d l c ≡ job s' d' l' c'
          same w x y z = rw (w, x, y, z) refl

      can : writable o ≡ true
      can = ap writable the_job ∙ job_writable (parse_job line).outward (parse_job line).distance (parse_job line).lengths (parse_job line).coordinates

      given_line : answer_bytes o ≡ answer_line line
      unfolding answer_line job_parsed
      given_line = ap answer_bytes the_job ∙ rw given refl

      pub given_answered : (out : List ℕ) (x : Answered) → x ≡ answered o out → x ≡ bytes_answered (answer_line line) out
      unfolding answered
      given_answered out x r = r ∙ rw can (ap (λ (l : List ℕ). bytes_answered l out) given_line)

      pub given_written : (out x : List ℕ) → x ≡ answer_written o out → x ≡ bytes_written (answer_line line) out
      unfolding answer_written
      given_written out x r = r ∙ rw can (ap (λ (l : List ℕ). bytes_written l out) given_line)
