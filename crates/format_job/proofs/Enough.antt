-- 999 and 962 numbers are room for every line, and lent memory keeps its length. Assumes nothing.
use Prim.Native.Nat.{ℕ, ◌+◌, ◌-◌, ◌≤◌}
use native.Mathlib.Nat.{le_trans}
use native.Mathlib.Omega.{arith}
use mathlib.Core.Bool.{Bool, true, false, cond, false≢true}
use mathlib.Core.Path.{◌≡◌, refl, sym, ap, ◌∙◌}
use mathlib.Core.List.{List}
use lib.Dec.{leb}
use lib.ListN.{length, take, drop, length-append, length-drop}
use lib.Seq.{take-append_seam}
use lib.Ieee.{Float}
use borrow.Author.Tests.{le-leb, leb-true}
use Rattle.error.specs.declared.Refusal.{Refusal}
use Rattle.error.specs.declared.Refusal.TheVariants.{Granted, Short}
use Rattle.error.specs.Refusals.{granted, open_refusals}
use Rattle.error.proofs.Laws.{granted_is}
use Rattle.format.specs.JobLines.{ParsedJob, parse_job}
use Rattle.format.proofs.LineRoom.{line_room}
use Rattle.format_job.specs.Reads.{room_refusal, parse_refusal, unparsed, parsed_all, answered_by, front_written, lengths_written, coordinates_written, RoomEnough, SameLengths}

-- ---- room for every line

roomy : (r n : ℕ) (lengths : List ℕ) (coordinates : List Float) → r ≤ length lengths → n ≤ length coordinates → room_refusal r n lengths coordinates ≡ Granted
unfolding room_refusal
roomy r n lengths coordinates a b = rw (le-leb r (length lengths) a, le-leb n (length coordinates) b) refl

pub room_enough : RoomEnough
unfolding parse_refusal
room_enough line lengths coordinates a b = go (granted (parse_job line).refusal) refl
  where
    go : (t : Bool) → granted (parse_job line).refusal ≡ t
        → cond t (room_refusal (length (parse_job line).lengths) (length (parse_job line).coordinates) lengths coordinates) (parse_job line).refusal ≡ (parse_job line).refusal
    go true e =
        roomy (length (parse_job line).lengths) (length (parse_job line).coordinates) lengths coordinates (le_trans (line_room line e).0 a) (le_trans (line_room line e).1 b)
        ∙ sym (granted_is (parse_job line).refusal e)
    go false e = refl

-- ---- the length of lent memory

-- what is granted has room
module _ (p : ParsedJob) (lengths : List ℕ) (coordinates : List Float) (g : granted (parse_refusal p lengths coordinates) ≡ true) where
  asked : (s t u : Bool) → granted (cond s (cond t (cond u Granted (Short (length p.coordinates))) (Short (length p.lengths))) p.refusal) ≡ true → granted p.refusal ≡ s
      → (t ≡ true) × (u ≡ true)
  unfolding open_refusals
  asked true true true h e = (refl, refl)
  asked true true false h e = absurd (false≢true h)
  asked true false u h e = absurd (false≢true h)
  asked false t u h e = absurd (false≢true (sym e ∙ h))

  fit : (leb (length p.lengths) (length lengths) ≡ true) × (leb (length p.coordinates) (length coordinates) ≡ true)
  unfolding parse_refusal room_refusal
  fit = asked (granted p.refusal) (leb (length p.lengths) (length lengths)) (leb (length p.coordinates) (length coordinates)) g refl

front_length : {A : Type 0} (t : Bool) (xs out : List A) → (t ≡ true → length xs ≤ length out) → length (front_written t xs out) ≡ length out
unfolding front_written
front_length true xs out h =
    length-append xs (drop (length xs) out) ∙ ap (λ (n : ℕ). length xs + n) (length-drop (length xs) out) ∙ back (length xs) (length out) (h refl)
  where
    back : (a b : ℕ) → a ≤ b → a + (b - a) ≡ b
    back a b l = omega arith
front_length false xs out h = refl

pub same_lengths : SameLengths
unfolding lengths_written coordinates_written
same_lengths line lengths coordinates = (
  front_length (granted (parse_refusal (parse_job line) lengths coordinates)) (parse_job line).lengths lengths
      (λ g. leb-true (length (parse_job line).lengths) (length lengths) (fit (parse_job line) lengths coordinates g).0),
  front_length (granted (parse_refusal (parse_job line) lengths coordinates)) (parse_job line).coordinates coordinates
      (λ g. leb-true (length (parse_job line).coordinates) (length coordinates) (fit (parse_job line) lengths coordinates g).1),
)

-- ---- for a caller

pub answered_refusal : (p : ParsedJob) (x : Refusal) → (answered_by p x).refusal ≡ x
unfolding answered_by parsed_all unparsed
answered_refusal p x = go (granted x) refl
  where
    go : (t : Bool) → granted x ≡ t → (cond t (parsed_all p) (unparsed x)).refusal ≡ x
    go true e = sym (granted_is x e)
    go false e = refl

pub answered_all : (p : ParsedJob) (x : Refusal) → granted x ≡ true → answered_by p x ≡ parsed_all p
unfolding answered_by
answered_all p x e = ap (λ (t : Bool). cond t (parsed_all p) (unparsed x)) e

pub front_taken : {A : Type 0} (t : Bool) (xs out : List A) → t ≡ true → take (length xs) (front_written t xs out) ≡ xs
unfolding front_written
front_taken true xs out e = take-append_seam xs (drop (length xs) out)
front_taken false xs out e = absurd (false≢true e)
