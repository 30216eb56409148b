-- An answer line is its parts, one after the other. Assumes nothing.
use Prim.Native.Nat.{ℕ, zero, suc, ◌+◌, ◌*◌, ◌≤◌, ◌<◌}
use native.Mathlib.Numerals.{add-one}
use native.Mathlib.Nat.{le_refl}
use native.Mathlib.Omega.{arith}
use mathlib.Core.Bool.{Bool, true, false, cond, ◌&&◌}
use mathlib.Mathlib.Data.Bool.Basic.{and_elim_left, and_elim_right}
use mathlib.Core.Path.{◌≡◌, refl, sym, ap, ◌∙◌, subst}
use mathlib.Core.List.{List, [], ◌∷◌, ◌++◌}
use lib.Dec.{leb}
use lib.ListN.{get_or, length, take, drop, length-append}
use lib.Seq.{length-take-le}
use lib.Ieee.{Float, nan}
use borrow.Author.Tests.{leb-true, le-leb, lt-leb}
use Rattle.base.specs.Loop.{rounds}
use Rattle.base.proofs.Laws.{rounds_same}
use Rattle.error.specs.declared.Refusal.TheVariants.{Granted, Short, Shape}
use Rattle.error.specs.Refusals.{granted, number}
use Rattle.region.specs.declared.Region.{Region}
use Rattle.region.specs.declared.RegionOffset.{RegionOffset}
use Rattle.outline.specs.Outlines.{proper}
use Rattle.region.specs.Regions.{hole_points, hole_count, ring_points, ring_count, region_of}
use Rattle.region.specs.Checks.{proper_step, proper_region}
use Rattle.format.specs.Fields.{comma}
use Rattle.format.specs.Numerals.{float_digits, count_digits}
use Rattle.format.specs.Lines.{ok_word, no_word, with_field, count_field_step, with_counts, float_field_step, with_floats, ok_line, no_line, bytes_refusal, bytes_written}
use Rattle.region.specs.Regions.{ring_count_step, ring_counts}
use Rattle.job.specs.AnswerLines.{ring_coordinates_step, ring_coordinates, answer_bytes}
use Rattle.base.proofs.Elements.{made, made_length, made_at, tested, tested_at}
use Rattle.format.proofs.WrittenLists.{counts_parts, floats_parts}
use Rattle.job.proofs.Sizes.{counts_many}
use Rattle.format_digits.specs.Stores.{put}
use Rattle.format_digits.proofs.Puts.{put_front}
use Rattle.job_answer.specs.declared.Answered.{Answered}
use Rattle.job_answer.specs.Writing.{hole_fit_step, holes_fit, writable, bytes_answered, answered, answer_written, counts_bytes_step, counts_bytes, hole_numbers, holes_bytes_step, holes_bytes, hole_vertices, head_bytes, shape_bytes}
use Rattle.job_answer.proofs.Parts.{grown, first_apart, put_more, all_size, holes_size}

-- ---- fields added to a line

counts_after : (counts line : List ℕ) → with_counts counts line ≡ line ++ with_counts counts []
unfolding with_counts count_field_step with_field
counts_after counts line = grown (λ k. comma ∷ count_digits (get_or counts k 0)) (length counts) line

floats_after : (fs : List Float) (line : List ℕ) → with_floats fs line ≡ line ++ with_floats fs []
unfolding with_floats float_field_step with_field
floats_after fs line = grown (λ k. comma ∷ float_digits (get_or fs k nan)) (length fs) line

-- ---- the counts

module _ (counts : List ℕ) where
  hole_counts : ℕ → List ℕ
  hole_counts n = made (λ k. get_or counts k 0) n

  counts_are : (n : ℕ) → with_counts (hole_counts n) [] ≡ counts_bytes counts n
  unfolding hole_counts with_counts count_field_step with_field counts_bytes counts_bytes_step
  counts_are n =
      ap (λ (m : ℕ). rounds (count_field_step (hole_counts n)) m []) (made_length (λ k. get_or counts k 0) n)
      ∙ rounds_same (count_field_step (hole_counts n)) (counts_bytes_step counts) n [] (λ k l t. ap (λ (c : ℕ). t ++ comma ∷ count_digits c) (made_at (λ i. get_or counts i 0) n k 0 l))

one_count : (c : ℕ) (line : List ℕ) → with_counts (c ∷ []) line ≡ line ++ comma ∷ count_digits c
unfolding with_counts count_field_step with_field rounds
one_count c line = refl

counts_of_rings : (r : Region) → ring_counts r ≡ r.outer.count ∷ hole_counts r.counts r.holes
unfolding ring_counts ring_count_step hole_counts ring_count hole_count
counts_of_rings r = ap (λ (n : ℕ). rounds (ring_count_step r) n []) (add-one r.holes) ∙ first_apart (λ k. ring_count r k ∷ []) r.holes

-- ---- the coordinates

no_floats : with_floats [] [] ≡ []
unfolding with_floats rounds
no_floats = refl

module _ (points : List Float) (counts : List ℕ) where
  hole_floats : ℕ → List Float
  hole_floats n = rounds (λ k l. l ++ hole_numbers points counts k) n []

  floats_are : (n : ℕ) → with_floats (hole_floats n) [] ≡ holes_bytes points counts n
  unfolding hole_floats holes_bytes holes_bytes_step rounds
  floats_are zero = no_floats
  floats_are (suc n) =
      floats_parts (hole_floats n) (hole_numbers points counts n) []
      ∙ floats_after (hole_numbers points counts n) (with_floats (hole_floats n) [])
      ∙ ap (λ (l : List ℕ). l ++ with_floats (hole_numbers points counts n) []) (floats_are n)

coordinates_of_rings : (r : Region) → ring_coordinates r ≡ take (2 * r.outer.count) r.outer.points ++ hole_floats r.points r.counts r.holes
unfolding ring_coordinates ring_coordinates_step hole_floats hole_numbers ring_count hole_count ring_points hole_points
coordinates_of_rings r = ap (λ (n : ℕ). rounds (ring_coordinates_step r) n []) (add-one r.holes) ∙ first_apart (λ k. take (2 * ring_count r k) (ring_points r k)) r.holes

-- ---- the whole line

counts_part : (r : Region) (line : List ℕ) → with_counts (ring_counts r) line ≡ (line ++ comma ∷ count_digits r.outer.count) ++ counts_bytes r.counts r.holes
counts_part r line =
    ap (λ (cs : List ℕ). with_counts cs line) (counts_of_rings r)
    ∙ counts_parts (r.outer.count ∷ []) (hole_counts r.counts r.holes) line
    ∙ ap (λ (l : List ℕ). with_counts (hole_counts r.counts r.holes) l) (one_count r.outer.count line)
    ∙ counts_after (hole_counts r.counts r.holes) (line ++ comma ∷ count_digits r.outer.count)
    ∙ ap (λ (l : List ℕ). (line ++ comma ∷ count_digits r.outer.count) ++ l) (counts_are r.counts r.holes)

floats_part : (r : Region) (line : List ℕ)
    → with_floats (ring_coordinates r) line ≡ (line ++ with_floats (take (2 * r.outer.count) r.outer.points) []) ++ holes_bytes r.points r.counts r.holes
floats_part r line =
    ap (λ (fs : List Float). with_floats fs line) (coordinates_of_rings r)
    ∙ floats_parts (take (2 * r.outer.count) r.outer.points) (hole_floats r.points r.counts r.holes) line
    ∙ ap (λ (l : List ℕ). with_floats (hole_floats r.points r.counts r.holes) l) (floats_after (take (2 * r.outer.count) r.outer.points) line)
    ∙ floats_after (hole_floats r.points r.counts r.holes) (line ++ with_floats (take (2 * r.outer.count) r.outer.points) [])
    ∙ ap (λ (l : List ℕ). (line ++ with_floats (take (2 * r.outer.count) r.outer.points) []) ++ l) (floats_are r.points r.counts r.holes)

pub shape_is : (r : Region) → ok_line (ring_counts r) (ring_coordinates r) ≡ shape_bytes r.outer.points r.outer.count r.points r.counts r.holes
unfolding ok_line shape_bytes head_bytes with_field
shape_is r =
    ap (λ (n : ℕ). with_floats (ring_coordinates r) (with_counts (ring_counts r) (ok_word ++ comma ∷ count_digits n))) (counts_many r)
    ∙ ap (λ (l : List ℕ). with_floats (ring_coordinates r) l) (counts_part r (ok_word ++ comma ∷ count_digits (r.holes + 1)))
    ∙ floats_part r _

-- ---- how long they are

module _ (count : ℕ) (counts : List ℕ) (holes first second third : ℕ) (a : first ≡ length (comma ∷ count_digits (holes + 1)))
    (b : second ≡ length (comma ∷ count_digits count)) (c : third ≡ length (counts_bytes counts holes)) where
  pub head_length : 2 + first + second + third ≡ length (head_bytes count counts holes)
  unfolding head_bytes ok_word
  head_length =
      ap (λ (n : ℕ). 2 + n + second + third) a ∙ ap (λ (n : ℕ). 2 + length (comma ∷ count_digits (holes + 1)) + n + third) b
      ∙ ap (λ (n : ℕ). 2 + length (comma ∷ count_digits (holes + 1)) + length (comma ∷ count_digits count) + n) c
      ∙ sym (length-append ((ok_word ++ comma ∷ count_digits (holes + 1)) ++ comma ∷ count_digits count) (counts_bytes counts holes)
      ∙ ap (λ (n : ℕ). n + length (counts_bytes counts holes)) (length-append (ok_word ++ comma ∷ count_digits (holes + 1)) (comma ∷ count_digits count)
      ∙ ap (λ (n : ℕ). n + length (comma ∷ count_digits count)) (length-append ok_word (comma ∷ count_digits (holes + 1)))))

  -- the head, stored part by part
  pub head_stored : (l one two three four : List ℕ) → one ≡ put l 0 (111 ∷ 107 ∷ []) → two ≡ put one 2 (comma ∷ count_digits (holes + 1))
      → three ≡ put two (2 + first) (comma ∷ count_digits count) → four ≡ put three (2 + first + second) (counts_bytes counts holes) → four ≡ put l 0 (head_bytes count counts holes)
  unfolding head_bytes ok_word
  head_stored l one two three four p q r s =
      put_more l 0 (2 + first + second) ((ok_word ++ comma ∷ count_digits (holes + 1)) ++ comma ∷ count_digits count) (counts_bytes counts holes) (head_bytes count counts holes) three four
      (put_more l 0 (2 + first) (ok_word ++ comma ∷ count_digits (holes + 1)) (comma ∷ count_digits count) _ two three
      (put_more l 0 2 ok_word (comma ∷ count_digits (holes + 1)) _ one two p refl q refl)
      (place (2 + first) _ (ap (λ (n : ℕ). 2 + n) a ∙ sym (length-append ok_word (comma ∷ count_digits (holes + 1))))) r refl)
      (place (2 + first + second) _ (ap (λ (n : ℕ). 2 + n + second) a ∙ ap (λ (n : ℕ). 2 + length (comma ∷ count_digits (holes + 1)) + n) b
      ∙ sym (length-append (ok_word ++ comma ∷ count_digits (holes + 1)) (comma ∷ count_digits count) ∙ ap
      (λ (n : ℕ). n + length (comma ∷ count_digits count)) (length-append ok_word (comma ∷ count_digits (holes + 1)))))) s refl
    where
      place : (n m : ℕ) → n ≡ m → n ≡ 0 + m
      place n m e = omega arith

module _ (outer : List Float) (count : ℕ) (points : List Float) (counts : List ℕ) (holes head v : ℕ) (m : count ≤ 128) (t : holes ≤ 8) (f : holes_fit counts holes ≡ true)
    (o : length outer ≡ 256) (e : length points ≡ 512) (a : head ≡ length (head_bytes count counts holes)) (b : v ≡ hole_vertices counts holes) where
  outer_length : length (take (2 * count) outer) ≡ 2 * count
  outer_length = length-take-le (2 * count) outer (subst (λ (n : ℕ). 2 * count ≤ n) (sym o) (double count m))
    where
      double : (n : ℕ) → n ≤ 128 → 2 * n ≤ 256
      double n h = omega arith

  outer_size : length (with_floats (take (2 * count) outer) []) ≡ 34 * count
  outer_size = all_size (take (2 * count) outer) ∙ ap (λ (n : ℕ). 17 * n) outer_length ∙ twice count
    where
      twice : (c : ℕ) → 17 * (2 * c) ≡ 34 * c
      twice c = omega arith

  inner_place : head + 34 * count ≡ length (head_bytes count counts holes ++ with_floats (take (2 * count) outer) [])
  inner_place =
      ap (λ (n : ℕ). n + 34 * count) a ∙ ap (λ (n : ℕ). length (head_bytes count counts holes) + n) (sym outer_size)
      ∙ sym (length-append (head_bytes count counts holes) (with_floats (take (2 * count) outer) []))

  pub shape_length : head + 34 * count + 34 * v ≡ length (shape_bytes outer count points counts holes)
  unfolding shape_bytes
  shape_length =
      ap (λ (n : ℕ). n + 34 * v) inner_place
      ∙ ap (λ (n : ℕ). length (head_bytes count counts holes ++ with_floats (take (2 * count) outer) []) + n) (ap (λ (n : ℕ). 34 * n) b ∙ sym (holes_size points counts e holes t f holes (le_refl holes)))
      ∙ sym (length-append (head_bytes count counts holes ++ with_floats (take (2 * count) outer) []) (holes_bytes points counts holes))

  pub shape_stored : (l one two three : List ℕ) → one ≡ put l 0 (head_bytes count counts holes) → two ≡ put one head (with_floats (take (2 * count) outer) [])
      → three ≡ put two (head + 34 * count) (holes_bytes points counts holes) → three ≡ put l 0 (shape_bytes outer count points counts holes)
  unfolding shape_bytes
  shape_stored l one two three p q r =
      put_more l 0 (head + 34 * count) (head_bytes count counts holes ++ with_floats (take (2 * count) outer) []) (holes_bytes points counts holes) _ two three
      (put_more l 0 head (head_bytes count counts holes) (with_floats (take (2 * count) outer) []) _ one two p (place head _ a) q refl)
      (place (head + 34 * count) _ inner_place) r refl
    where
      place : (n m : ℕ) → n ≡ m → n ≡ 0 + m
      place n m e = omega arith

-- ---- question 20

module _ (bytes l : List ℕ) (needed : ℕ) (e : needed ≡ length bytes) where
  pub answered_yes : needed ≤ length l → ◌≡◌ {A = Answered} (record { refusal = Granted; count = needed }) (bytes_answered bytes l)
  unfolding bytes_answered bytes_refusal
  answered_yes h = rw (sym e, le-leb needed (length l) h) refl

  pub answered_no : length l < needed → ◌≡◌ {A = Answered} (record { refusal = Short needed; count = 0 }) (bytes_answered bytes l)
  unfolding bytes_answered bytes_refusal
  answered_no h = rw (sym e, lt-leb needed (length l) h) refl

  pub written_yes : needed ≤ length l → (after : List ℕ) → after ≡ put l 0 bytes → after ≡ bytes_written bytes l
  unfolding bytes_written
  written_yes h after q =
      q ∙ put_front l bytes (subst (λ (n : ℕ). n ≤ length l) e h)
      ∙ ap (λ (t : Bool). cond t (bytes ++ drop (length bytes) l) l) (sym (le-leb (length bytes) (length l) (subst (λ (n : ℕ). n ≤ length l) e h)))

  pub written_no : length l < needed → l ≡ bytes_written bytes l
  unfolding bytes_written
  written_no h = ap (λ (t : Bool). cond t (bytes ++ drop (length bytes) l) l) (sym (lt-leb (length bytes) (length l) (subst (λ (n : ℕ). length l < n) e h)))

-- ---- `no` and the number

module _ (n size : ℕ) (e : size ≡ length (comma ∷ count_digits n)) where
  pub no_length : 2 + size ≡ length (no_line n)
  unfolding no_line with_field no_word
  no_length = ap (λ (m : ℕ). 2 + m) e ∙ sym (length-append no_word (comma ∷ count_digits n))

pub no_stored : (n : ℕ) (l one two : List ℕ) → one ≡ put l 0 (110 ∷ 111 ∷ []) → two ≡ put one 2 (comma ∷ count_digits n) → two ≡ put l 0 (no_line n)
unfolding no_line with_field no_word
no_stored n l one two p q = put_more l 0 2 no_word (comma ∷ count_digits n) _ one two p refl q refl

-- ---- the answer of a job

module _ (a : RegionOffset) (l : List ℕ) (g : Bool) (e : g ≡ granted a.refusal) where
  pub refused_answered : (n : ℕ) (x : Answered) → g ≡ false → n ≡ number a.refusal → x ≡ bytes_answered (no_line n) l → x ≡ answered a l
  unfolding answered writable answer_bytes
  refused_answered n x h q p = let f : granted a.refusal ≡ false = sym e ∙ h in rw f (p ∙ ap (λ (k : ℕ). bytes_answered (no_line k) l) q)

  pub refused_written : (n : ℕ) (x : List ℕ) → g ≡ false → n ≡ number a.refusal → x ≡ bytes_written (no_line n) l → x ≡ answer_written a l
  unfolding answer_written writable answer_bytes
  refused_written n x h q p = let f : granted a.refusal ≡ false = sym e ∙ h in rw f (p ∙ ap (λ (k : ℕ). bytes_written (no_line k) l) q)

  module _ (h : g ≡ true) where
    is_granted : granted a.refusal ≡ true
    is_granted = sym e ∙ h

    shape_line : answer_bytes a ≡ shape_bytes a.shape.outer.points a.shape.outer.count a.shape.points a.shape.counts a.shape.holes
    unfolding answer_bytes
    shape_line = rw is_granted (shape_is a.shape)

    module _ (t : Bool) (p : t ≡ proper_region (region_of a.shape.outer.points a.shape.outer.count a.shape.points a.shape.counts a.shape.holes)) where
      asked : t ≡ writable a
      unfolding writable region_of
      asked = rw is_granted p

      module _ (q : t ≡ true) where
        pub shape_answered : (x : Answered) → x ≡ bytes_answered (shape_bytes a.shape.outer.points a.shape.outer.count a.shape.points a.shape.counts a.shape.holes) l → x ≡ answered a l
        unfolding answered
        shape_answered x r = rw (sym asked ∙ q) (r ∙ ap (λ (bytes : List ℕ). bytes_answered bytes l) (sym shape_line))

        pub shape_written : (x : List ℕ) → x ≡ bytes_written (shape_bytes a.shape.outer.points a.shape.outer.count a.shape.points a.shape.counts a.shape.holes) l → x ≡ answer_written a l
        unfolding answer_written
        shape_written x r = rw (sym asked ∙ q) (r ∙ ap (λ (bytes : List ℕ). bytes_written bytes l) (sym shape_line))

      module _ (q : t ≡ false) where
        pub unfit_answered : ◌≡◌ {A = Answered} (record { refusal = Shape; count = 0 }) (answered a l)
        unfolding answered
        unfit_answered = rw (sym asked ∙ q) refl

        pub unfit_written : l ≡ answer_written a l
        unfolding answer_written
        unfit_written = rw (sym asked ∙ q) refl

-- what 21 says of the counts
room_of : (room : ℕ) (ps : List Float) (n : ℕ) → proper room ps n ≡ true → leb n room ≡ true
unfolding proper
room_of room ps n e = and_elim_left (leb n room) _ (and_elim_right (leb 3 n) _ e)

module _ (ps : List Float) (n : ℕ) (qs : List Float) (cs : List ℕ) (h : ℕ) (t : Bool) (p : t ≡ proper_region (region_of ps n qs cs h)) (q : t ≡ true) where
  outer_proper : proper 128 ps n ≡ true
  unfolding proper_region region_of
  outer_proper = and_elim_left (proper 128 ps n) _ (sym p ∙ q)

  holes_proper : (leb h 8 && rounds (proper_step (region_of ps n qs cs h)) h true) ≡ true
  unfolding proper_region region_of
  holes_proper = and_elim_right (proper 128 ps n) _ (sym p ∙ q)

  pub outer_in : n ≤ 128
  outer_in = leb-true n 128 (room_of 128 ps n outer_proper)

  pub holes_few : h ≤ 8
  holes_few = leb-true h 8 (and_elim_left (leb h 8) _ holes_proper)

  pub holes_short : holes_fit cs h ≡ true
  unfolding holes_fit hole_fit_step proper_step hole_points hole_count region_of
  holes_short =
      tested h (λ k. leb (get_or cs k 0) 32)
      (λ k l. room_of 32 (drop (64 * k) qs) (get_or cs k 0) (tested_at h (λ i. proper 32 (drop (64 * i) qs) (get_or cs i 0)) (and_elim_right (leb h 8) _ holes_proper) k l))

-- where the coordinates of the holes start
pub place : (head count : ℕ) → head ≤ 42 → count ≤ 128 → head + 34 * count ≤ 5000
place head count a b = omega arith
