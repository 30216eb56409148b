-- An answer line has no LF in it: so what is sent, cut into lines again, is one answer line for each line. Assumes nothing.
use Prim.Native.Nat.{ℕ, ◌+◌, ◌/◌, ◌%◌}
use native.Mathlib.Omega.{arith}
use mathlib.Core.Path.{◌≡◌, refl, ap, ◌∙◌}
use mathlib.Core.Bool.{Bool, false}
use mathlib.Core.List.{List, [], ◌∷◌, ◌++◌, map, append_assoc}
use borrow.Author.Tests.{ne_eqb}
use lib.Dec.{ltb, eqb}
use lib.ListN.{length}
use lib.Ieee.{Float}
use Rattle.error.specs.Refusals.{granted, number}
use Rattle.base.proofs.Laws.{rounds_keep}
use Rattle.base.proofs.Choices.{both}
use Rattle.region.specs.declared.RegionOffset.{RegionOffset}
use Rattle.format.specs.Fields.{comma, line_feed, byte_before, parts_of, lines}
use Rattle.format.specs.Numerals.{decimal_digit, hex_digit, digit_step, bits_digits, printed_bits, float_digits, count_digits}
use Rattle.format.specs.Lines.{ok_word, no_word, with_field, count_field_step, with_counts, float_field_step, with_floats, ok_line, no_line}
use Rattle.format.specs.JobLines.{parse_job}
use Rattle.region.specs.Regions.{ring_counts}
use Rattle.job.specs.AnswerLines.{ring_coordinates, answer_bytes, job_parsed, answer_line}
use Rattle.job.specs.Stream.{answered, all_answered}

-- no byte of these is an LF
abbrev Unbroken : List ℕ → Type 0
Unbroken [] = Unit {0}
Unbroken (b ∷ bytes) = (eqb b line_feed ≡ false) × Unbroken bytes

append : (xs ys : List ℕ) → Unbroken xs → Unbroken ys → Unbroken (xs ++ ys)
append [] ys p q = q
append (x ∷ xs) ys p q = (p.0, append xs ys p.1 q)

-- ---- numbers

decimal : (n : ℕ) → eqb (decimal_digit n) line_feed ≡ false
unfolding decimal_digit
decimal n = ne_eqb (n + 48) 10 (λ e. absurd (omega arith))

hex : (n : ℕ) → eqb (hex_digit n) line_feed ≡ false
unfolding hex_digit
hex n =
    both (λ (b : ℕ). eqb b line_feed ≡ false) (ltb n 10)
    (ne_eqb (n + 48) 10 (λ e. absurd (omega arith))) (ne_eqb (n + 87) 10 (λ e. absurd (omega arith)))

count : (n : ℕ) → Unbroken (count_digits n)
unfolding count_digits
count n =
    both Unbroken (ltb n 10) (decimal n, tt)
    (both Unbroken (ltb n 100) (decimal (n / 10), (decimal (n % 10), tt))
    (decimal (n / 100 % 10), (decimal (n / 10 % 10), (decimal (n % 10), tt))))

bits : (n : ℕ) → Unbroken (bits_digits n)
unfolding bits_digits digit_step
bits n = rounds_keep (digit_step n) (λ k field. Unbroken field) [] tt (λ k field h. append field _ h (hex _, tt)) 16

float : (x : Float) → Unbroken (float_digits x)
unfolding float_digits
float x = bits (printed_bits x)

-- ---- lines

field : (line part : List ℕ) → Unbroken line → Unbroken part → Unbroken (with_field line part)
unfolding with_field
field line part h k = append line (comma ∷ part) h (refl, k)

counts : (ns line : List ℕ) → Unbroken line → Unbroken (with_counts ns line)
unfolding with_counts count_field_step
counts ns line h = rounds_keep (count_field_step ns) (λ k l. Unbroken l) line h (λ k l a. field l _ a (count _)) (length ns)

floats : (xs : List Float) (line : List ℕ) → Unbroken line → Unbroken (with_floats xs line)
unfolding with_floats float_field_step
floats xs line h = rounds_keep (float_field_step xs) (λ k l. Unbroken l) line h (λ k l a. field l _ a (float _)) (length xs)

ok : (ns : List ℕ) (xs : List Float) → Unbroken (ok_line ns xs)
unfolding ok_line ok_word
ok ns xs = floats xs _ (counts ns _ (field ok_word _ (refl, (refl, tt)) (count (length ns))))

no : (n : ℕ) → Unbroken (no_line n)
unfolding no_line no_word
no n = field no_word _ (refl, (refl, tt)) (count n)

bytes : (a : RegionOffset) → Unbroken (answer_bytes a)
unfolding answer_bytes
bytes a = both Unbroken (granted a.refusal) (ok (ring_counts a.shape) (ring_coordinates a.shape)) (no (number a.refusal))

answer : (line : List ℕ) → Unbroken (answer_line line)
unfolding answer_line
answer line = bytes (job_parsed (parse_job line))

-- ---- cut into lines again

cut : (line more : List ℕ) → Unbroken line → lines (line ++ line_feed ∷ more) ≡ line ∷ lines more
unfolding lines parts_of byte_before
cut [] more h = refl
cut (b ∷ line) more h =
    ap (λ (t : Bool). byte_before t b (parts_of line_feed [] (line ++ line_feed ∷ more))) h.0 ∙ ap (byte_before false b) (cut line more h.1)

pub one_a_line : (ls : List (List ℕ)) → lines (all_answered ls) ≡ map answer_line ls
unfolding lines parts_of all_answered answered
one_a_line [] = refl
one_a_line (l ∷ ls) =
    ap lines (append_assoc (answer_line l) (line_feed ∷ []) (all_answered ls))
    ∙ cut (answer_line l) (all_answered ls) (answer l)
    ∙ ap (λ (rest : List (List ℕ)). answer_line l ∷ rest) (one_a_line ls)
