-- Reading a job line, and the lent memory afterwards: 22, then 20 of the vertex counts, then 20 of the coordinates.
-- A refused read changes neither. Assumes nothing.
use Rattle.std.specs.Prelude.{ℕ, ◌-◌, ◌≤◌, Bool, true, false, cond, ◌&&◌, ◌≡◌, List, [], ◌++◌, leb, get_or, set, length, drop, Float, Option, MatchOption}
use Rattle.error.specs.declared.Refusal.{Refusal}
use Rattle.error.specs.declared.Refusal.TheVariants.{Granted, Short, Job}
use Rattle.base.specs.Loop.{rounds}
use Rattle.math.specs.Number.{zero_float}
use Rattle.error.specs.Refusals.{granted}
use Rattle.format.specs.Numerals.{float_of, count_of}
use Rattle.format.specs.Fields.{fields, fields_from}
use Rattle.format.specs.JobLines.{side_fits}
use Rattle.format.specs.JobLines.{ParsedJob, parse_job}
use Rattle.format.specs.Lines.{are_counts, counts_of, are_floats, floats_of}
use Rattle.format.specs.JobLines.{outset_word, side_field, distance_field, rings_field, head_formed}
use Rattle.format.specs.Lines.{same_bytes, longest_line}
use Rattle.format_job.specs.declared.Parsed.{Parsed}
use Rattle.format_job.specs.declared.head.Head.{Head}

-- ---- what reading a line answers

-- question 20 of the lent memory: r counts, then n numbers
unfoldable pub room_refusal : {A : Type 0} → ℕ → ℕ → List ℕ → List A → Refusal
room_refusal r n counts numbers = cond (leb r (length counts)) (cond (leb n (length numbers)) Granted (Short n)) (Short r)

-- 22 first
unfoldable pub parse_refusal : ParsedJob → List ℕ → List Float → Refusal
parse_refusal p lengths coordinates =
    cond (granted p.refusal) (room_refusal (length p.lengths) (length p.coordinates) lengths coordinates) p.refusal

-- beside a refusal all else is false and 0
unfoldable pub unparsed : Refusal → Parsed
unparsed x = record { refusal = x; outward = false; distance = zero_float; rings = 0; count = 0 }

unfoldable pub parsed_all : ParsedJob → Parsed
parsed_all p =
    record { refusal = Granted; outward = p.outward; distance = p.distance; rings = length p.lengths; count = length p.coordinates }

unfoldable pub answered_by : ParsedJob → Refusal → Parsed
answered_by p x = cond (granted x) (parsed_all p) (unparsed x)

-- what `parse_job` hands back
unfoldable pub parse_answered : List ℕ → List ℕ → List Float → Parsed
parse_answered line lengths coordinates = answered_by (parse_job line) (parse_refusal (parse_job line) lengths coordinates)

-- ---- the lent memory afterwards: a read that is granted writes at its front, and a refused one leaves it as it was

unfoldable pub front_written : {A : Type 0} → Bool → List A → List A → List A
front_written given xs out = cond given (xs ++ drop (length xs) out) out

unfoldable pub lengths_written : List ℕ → List ℕ → List Float → List ℕ
lengths_written line lengths coordinates =
    front_written (granted (parse_refusal (parse_job line) lengths coordinates)) (parse_job line).lengths lengths

unfoldable pub coordinates_written : List ℕ → List ℕ → List Float → List Float
coordinates_written line lengths coordinates =
    front_written (granted (parse_refusal (parse_job line) lengths coordinates)) (parse_job line).coordinates coordinates

-- ---- the numbers of one field after another, to memory

-- `sound` until a field is no number. Nothing is written from that field on, nor past the end of the memory.
pub record Taken (A : Type 0) : Type 0 where
  pub sound : Bool
  pub out : List A

unfoldable pub take_number : {A : Type 0} → (List ℕ → Bool) → (List ℕ → A) → List (List ℕ) → ℕ → Taken A → Taken A
take_number test value_of fs k s =
    cond (s.sound && test (get_or fs k []))
    (record { sound = true; out = set s.out k (value_of (get_or fs k [])) })
    (record { sound = false; out = s.out })

-- the first n fields of fs
unfoldable pub taken : {A : Type 0} → (List ℕ → Bool) → (List ℕ → A) → List (List ℕ) → ℕ → List A → Taken A
taken test value_of fs n out = rounds (take_number test value_of fs) n (record { sound = true; out = out })

-- n fields from a place on, read to memory: as defined, and where the field after them starts; None where one of them is no number. A walk
-- that only looks has no memory.
pub record WalkedAt {A : Type 0} (test : List ℕ → Bool) (value_of : List ℕ → A) (line : List ℕ) (start n : ℕ)
    (before after : List A) (result : Option ℕ) : Type 0 where
  pub after_is : after ≡ (taken test value_of (fields_from line start) n before).out
  pub rest : MatchOption result ((taken test value_of (fields_from line start) n before).sound ≡ false)
      (λ next. (taken test value_of (fields_from line start) n before).sound ≡ true
      × fields_from line next ≡ drop n (fields_from line start))

-- every field from a place on, taken so
abbrev pub all_taken : {A : Type 0} → (List ℕ → Bool) → (List ℕ → A) → List ℕ → ℕ → List A → Taken A
all_taken test value_of line start out = taken test value_of (fields_from line start) (length (fields_from line start)) out

-- as defined, and how many there are; None where one of them is no number
pub record AllAt {A : Type 0} (test : List ℕ → Bool) (value_of : List ℕ → A) (line : List ℕ) (start : ℕ)
    (before after : List A) (result : Option ℕ) : Type 0 where
  pub after_is : after ≡ (all_taken test value_of line start before).out
  pub count : MatchOption result ((all_taken test value_of line start before).sound ≡ false)
      (λ count. (all_taken test value_of line start before).sound ≡ true × count ≡ length (fields_from line start))

-- ---- the lists of a line: the fields after its ring count

-- r vertex counts, and every field after them a coordinate
unfoldable pub lists_formed : List (List ℕ) → ℕ → Bool
lists_formed fs r = are_counts fs 0 r && are_floats fs r (length fs - r)

unfoldable pub lists_refusal : {A : Type 0} → List (List ℕ) → ℕ → List ℕ → List A → Refusal
lists_refusal fs r counts numbers = cond (lists_formed fs r) (room_refusal r (length fs - r) counts numbers) Job

-- what reading them hands back, and the lent memory afterwards
pub record ListsRead (fs : List (List ℕ)) (r : ℕ) (lengths₀ lengths₁ : List ℕ) (coordinates₀ coordinates₁ : List Float)
    (refusal : Refusal) (count : ℕ) : Type 0 where
  pub refusal_is : refusal ≡ lists_refusal fs r lengths₀ coordinates₀
  pub count_is : count ≡ cond (granted (lists_refusal fs r lengths₀ coordinates₀)) (length fs - r) 0
  pub lengths_are : lengths₁ ≡ front_written (granted (lists_refusal fs r lengths₀ coordinates₀)) (counts_of fs 0 r) lengths₀
  pub coordinates_are :
      coordinates₁ ≡ front_written (granted (lists_refusal fs r lengths₀ coordinates₀)) (floats_of fs r (length fs - r))
      coordinates₀

-- ---- the head of a line

unfoldable pub is_outward : List ℕ → Bool
is_outward line = same_bytes (side_field (fields line)) outset_word

unfoldable pub ring_number : List ℕ → ℕ
ring_number line = count_of (rings_field (fields line))

-- 22 of the line's length, its side, distance and ring count
unfoldable pub head_fits : List ℕ → Bool
head_fits line = leb (length line) longest_line && (head_formed (fields line) && side_fits (is_outward line) (ring_number line))

-- a head that passes it
pub record HeadOf (line : List ℕ) (h : Head) : Type 0 where
  pub fits : head_fits line ≡ true
  pub outward_is : h.outward ≡ is_outward line
  pub distance_is : h.distance ≡ float_of (distance_field (fields line))
  pub rings_is : h.rings ≡ ring_number line
  pub rest : fields_from line h.next ≡ drop 3 (fields line)

-- ---- what is to hold

-- 999 and 962 numbers are room for every line: 20 is never met
abbrev pub RoomEnough : Type 0
RoomEnough =
    (line lengths : List ℕ) (coordinates : List Float) → 999 ≤ length lengths → 962 ≤ length coordinates
    → parse_refusal (parse_job line) lengths coordinates ≡ (parse_job line).refusal

-- whatever the line, the memory keeps its length
abbrev pub SameLengths : Type 0
SameLengths =
    (line lengths : List ℕ) (coordinates : List Float)
    → (length (lengths_written line lengths coordinates) ≡ length lengths)
    × (length (coordinates_written line lengths coordinates) ≡ length coordinates)

-- opens every definition above, for a proof that computes with all of them
unfoldable pub open_reads : Unit {0}
unfolding room_refusal parse_refusal unparsed parsed_all answered_by parse_answered front_written lengths_written coordinates_written
    take_number taken lists_formed lists_refusal is_outward ring_number head_fits
open_reads = tt
