-- What an accepted job hands back passes 21, and so its answer line is short enough. Assumes nothing.
use Prim.Native.Nat.{ℕ, zero, suc, ◌+◌, ◌*◌, ◌%◌, ◌≤◌, ◌<◌, min}
use native.Mathlib.Nat.{le_refl, le_step, le_trans, le_of_suc-le-suc}
use native.Mathlib.Omega.{arith}
use mathlib.Core.Bool.{Bool, true, false, cond, false≢true}
use mathlib.Mathlib.Data.Bool.Basic.{and_elim_left, and_elim_right}
use mathlib.Core.Path.{◌≡◌, refl, sym, ◌∙◌, subst}
use mathlib.Core.List.{List, []}
use borrow.Author.Tests.{leb-true}
use lib.Dec.{leb, eqb, lit≤}
use lib.Ieee.{Float}
use lib.ListN.{get_or, length, take, length-append, length-take}
use Rattle.error.specs.declared.Refusal.{Refusal}
use Rattle.error.specs.declared.Refusal.TheVariants.{Job, Lengths, Odd}
use Rattle.error.specs.Refusals.{granted, number, open_refusals}
use Rattle.base.specs.Loop.{rounds}
use Rattle.base.proofs.Choices.{by_test}
use Rattle.base.proofs.Choices.{both}
use Rattle.outline.specs.declared.Outline.{Outline}
use Rattle.outline.specs.declared.NewOutline.{NewOutline}
use Rattle.outline.specs.Outlines.{new_outline, check_finite, proper}
use Rattle.offset.specs.declared.Offset.{Offset}
use Rattle.offset.specs.Offsets.{offset}
use Rattle.offset.proofs.Accepted as offsets
use Rattle.region.specs.declared.Region.{Region}
use Rattle.region.specs.declared.NewRegion.{NewRegion}
use Rattle.region.specs.declared.RegionOffset.{RegionOffset}
use Rattle.region.specs.Regions.{no_region, with_outer, hole_points, hole_count, ring_points, ring_count}
use Rattle.region.specs.Checks.{load_rings, region_loaded, proper_step, proper_region, lengths_fit}
use Rattle.region.specs.Insets.{region_inset}
use Rattle.region.proofs.Accepted as insets
use Rattle.format.specs.Numerals.{count_digits}
use Rattle.job.specs.Jobs.{job, job_refused, as_region, job_outline, job_region, job_rings, job_finite, job_numbers}
use Rattle.format.specs.JobLines.{side_fits}
use Rattle.format.specs.Lines.{ok_word, no_word, with_field, with_counts, with_floats, ok_line, no_line}
use Rattle.format.specs.JobLines.{ParsedJob, parse_job}
use Rattle.region.specs.Regions.{ring_count_step, ring_counts}
use Rattle.job.specs.AnswerLines.{ring_coordinates_step, ring_coordinates, answer_bytes, job_parsed, answer_line}
use Rattle.job.specs.Sizes.{JobProper, longest_answer, AnswerRoom, AnswerInLine}
use Rattle.format.proofs.LineSizes.{count_size, field_size, counts_size, floats_size}
use Rattle.base.proofs.Elements.{tested_at, made_length}

-- ---- what is accepted passes 21

abbrev Proper : RegionOffset → Type 0
Proper a = granted a.refusal ≡ true → proper_region a.shape ≡ true

-- a refusal, whatever its shape
refused : (u : Refusal) → granted u ≡ false → Proper (job_refused u)
unfolding job_refused
refused u h e = absurd (false≢true (sym h ∙ e))

alone_proper : (o : Outline) → proper 128 o.points o.count ≡ true → proper_region (with_outer no_region o) ≡ true
unfolding proper_region with_outer no_region rounds
alone_proper o e = rw e refl

as_region_proper : (r : Offset) → (granted r.refusal ≡ true → proper 128 r.shape.points r.shape.count ≡ true) → Proper (as_region r)
unfolding as_region
as_region_proper r h e = alone_proper r.shape (h e)

outline_proper : (outward : Bool) (d : Float) (o : NewOutline) → Proper (job_outline outward d o)
unfolding job_outline
outline_proper outward d o =
    by_test Proper (granted o.refusal) {x = as_region (offset o.shape outward d)} {y = job_refused o.refusal}
    (λ _. as_region_proper (offset o.shape outward d) (offsets.offset_proper o.shape outward d))
    (refused o.refusal)

region_proper : (d : Float) (r : NewRegion) → Proper (job_region d r)
unfolding job_region
region_proper d r =
    by_test Proper (granted r.refusal) {x = region_inset r.shape d} {y = job_refused r.refusal} (λ _. insets.inset_proper r.shape d) (refused r.refusal)

rings_proper : (outward : Bool) (d : Float) (lengths : List ℕ) (ps : List Float) → Proper (job_rings outward d lengths ps)
unfolding job_rings
rings_proper outward d lengths ps =
    both Proper (eqb (length lengths) 1) {x = job_outline outward d (new_outline ps (get_or lengths 0 0))} {y = job_region d (region_loaded (load_rings lengths ps))}
    (outline_proper outward d (new_outline ps (get_or lengths 0 0)))
    (region_proper d (region_loaded (load_rings lengths ps)))

finite_proper : (outward : Bool) (d : Float) (lengths : List ℕ) (ps : List Float) (r : Refusal) → Proper (job_finite outward d lengths ps r)
unfolding job_finite open_refusals
finite_proper outward d lengths ps r =
    by_test Proper (granted r) {x = cond (lengths_fit lengths ps) (job_rings outward d lengths ps) (job_refused Lengths)} {y = job_refused r}
    (λ _. both Proper (lengths_fit lengths ps) {x = job_rings outward d lengths ps} {y = job_refused Lengths} (rings_proper outward d lengths ps) (refused Lengths refl))
    (refused r)

numbers_proper : (outward : Bool) (d : Float) (lengths : List ℕ) (ps : List Float) → Proper (job_numbers outward d lengths ps)
unfolding job_numbers open_refusals
numbers_proper outward d lengths ps =
    both Proper (eqb (length ps % 2) 0) {x = job_finite outward d lengths ps (check_finite ps)} {y = job_refused Odd}
    (finite_proper outward d lengths ps (check_finite ps))
    (refused Odd refl)

pub job_proper : JobProper
unfolding job open_refusals
job_proper outward d lengths ps =
    both Proper (side_fits outward (length lengths)) {x = job_numbers outward d lengths ps} {y = job_refused Job} (numbers_proper outward d lengths ps) (refused Job refl)

-- ---- the rings of a proper region

pub counts_many : (r : Region) → length (ring_counts r) ≡ r.holes + 1
unfolding ring_counts ring_count_step
counts_many r = made_length (ring_count r) (r.holes + 1)

room_of : (room : ℕ) (ps : List Float) (n : ℕ) → proper room ps n ≡ true → n ≤ room
unfolding proper
room_of room ps n e = leb-true n room (and_elim_left (leb n room) _ (and_elim_right (leb 3 n) _ e))

taken_size : (n : ℕ) (ps : List Float) → length (take n ps) ≤ n
taken_size n ps = less (length (take n ps)) n (length ps) (length-take n ps)
  where
    less : (x n l : ℕ) → x ≡ min n l → x ≤ n
    less x n l e = omega arith

module _ (r : Region) (outer : r.outer.count ≤ 128) (holes : (k : ℕ) → k < r.holes → hole_count r k ≤ 32) where
  -- the outer ring's coordinates, and those of n holes
  coordinates_size : (n : ℕ) → n ≤ r.holes → length (rounds (ring_coordinates_step r) (suc n) []) ≤ 256 + 64 * n
  unfolding rounds ring_coordinates_step ring_points ring_count
  coordinates_size zero l = first (length (take (2 * r.outer.count) r.outer.points)) r.outer.count (taken_size (2 * r.outer.count) r.outer.points) outer
    where
      first : (x c : ℕ) → x ≤ 2 * c → c ≤ 128 → x ≤ 256 + 64 * 0
      first x c a b = omega arith
  coordinates_size (suc n) l =
      more n (length (rounds (ring_coordinates_step r) (suc n) [])) (length (take (2 * hole_count r n) (hole_points r n))) (hole_count r n) _
      (coordinates_size n (le_of_suc-le-suc (le_step l))) (taken_size (2 * hole_count r n) (hole_points r n)) (holes n l)
      (length-append (rounds (ring_coordinates_step r) (suc n) []) (take (2 * hole_count r n) (hole_points r n)))
    where
      more : (n x f c y : ℕ) → x ≤ 256 + 64 * n → f ≤ 2 * c → c ≤ 32 → y ≡ x + f → y ≤ 256 + 64 * suc n
      more n x f c y a b h e = omega arith

  coordinates_many : length (ring_coordinates r) ≤ 256 + 64 * r.holes
  unfolding ring_coordinates
  coordinates_many = subst (λ (n : ℕ). length (rounds (ring_coordinates_step r) n []) ≤ 256 + 64 * r.holes) (past r.holes) (coordinates_size r.holes (le_refl r.holes))
    where
      past : (n : ℕ) → suc n ≡ n + 1
      past n = omega arith

  shape_size : r.holes ≤ 8 → length (ok_line (ring_counts r) (ring_coordinates r)) ≤ longest_answer
  unfolding ok_line with_counts with_floats ok_word
  shape_size few =
      sum r.holes (length (ring_counts r)) (length (ring_coordinates r)) (length (count_digits (length (ring_counts r))))
      (length (with_field ok_word (count_digits (length (ring_counts r))))) (length (with_counts (ring_counts r) (with_field ok_word (count_digits (length (ring_counts r)))))) _
      few (counts_many r) coordinates_many (count_size (length (ring_counts r)))
      (field_size ok_word (count_digits (length (ring_counts r))))
      (counts_size (ring_counts r) (with_field ok_word (count_digits (length (ring_counts r)))) (length (ring_counts r)))
      (floats_size (ring_coordinates r) (with_counts (ring_counts r) (with_field ok_word (count_digits (length (ring_counts r))))) (length (ring_coordinates r)))
    where
      sum : (h n m f x y z : ℕ) → h ≤ 8 → n ≡ h + 1 → m ≤ 256 + 64 * h → f ≤ 3 → x ≡ 2 + suc f → y ≤ x + 4 * n → z ≡ y + 17 * m → z ≤ 13098
      sum h n m f x y z a b c d e g i = omega arith

proper_size : (r : Region) → proper_region r ≡ true → length (ok_line (ring_counts r) (ring_coordinates r)) ≤ longest_answer
unfolding proper_region proper_step hole_count
proper_size r e =
    let rest = and_elim_right (proper 128 r.outer.points r.outer.count) _ e in
    shape_size r (room_of 128 r.outer.points r.outer.count (and_elim_left (proper 128 r.outer.points r.outer.count) _ e))
    (λ k l. room_of 32 (hole_points r k) (hole_count r k) (tested_at r.holes (λ i. proper 32 (hole_points r i) (hole_count r i)) (and_elim_right (leb r.holes 8) _ rest) k l))
    (leb-true r.holes 8 (and_elim_left (leb r.holes 8) _ rest))

-- ---- the answer line

no_size : (n : ℕ) → length (no_line n) ≤ longest_answer
unfolding no_line no_word
no_size n = small (length (count_digits n)) _ (count_size n) (field_size no_word (count_digits n))
  where
    small : (f x : ℕ) → f ≤ 3 → x ≡ 2 + suc f → x ≤ 13098
    small f x a e = omega arith

bytes_size : (a : RegionOffset) → Proper a → length (answer_bytes a) ≤ longest_answer
unfolding answer_bytes
bytes_size a h =
    by_test (λ (l : List ℕ). length l ≤ longest_answer) (granted a.refusal) {x = ok_line (ring_counts a.shape) (ring_coordinates a.shape)} {y = no_line (number a.refusal)}
    (λ e. proper_size a.shape (h e)) (λ _. no_size (number a.refusal))

parsed_proper : (p : ParsedJob) → Proper (job_parsed p)
unfolding job_parsed
parsed_proper p =
    by_test Proper (granted p.refusal) {x = job p.outward p.distance p.lengths p.coordinates} {y = job_refused p.refusal}
    (λ _. job_proper p.outward p.distance p.lengths p.coordinates) (refused p.refusal)

pub answer_room : AnswerRoom
unfolding answer_line
answer_room line = bytes_size (job_parsed (parse_job line)) (parsed_proper (parse_job line))

pub answer_in_line : AnswerInLine
answer_in_line line = le_trans (answer_room line) (lit≤ tt)
