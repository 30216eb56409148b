-- The head of a line: each of its questions alone refuses it, and together they are the head. Assumes nothing.
use Prim.Native.Nat.{ℕ, ◌≤◌, ◌<◌, zero-le}
use mathlib.Core.Bool.{Bool, true, false, not, ◌&&◌, ◌||◌, and-false}
use mathlib.Core.Path.{◌≡◌, refl, sym, ap, ◌∙◌}
use mathlib.Core.List.{List}
use lib.Dec.{leb, eqb}
use lib.ListN.{length, drop}
use lib.Ieee.{Float}
use borrow.Author.Tests.{le-leb, lt-leb}
use Rattle.format.specs.Numerals.{is_float, float_of, is_count, count_of}
use Rattle.format.specs.Fields.{fields, fields_from}
use Rattle.format.specs.JobLines.{side_fits}
use Rattle.format.specs.Lines.{longest_line, same_bytes}
use Rattle.format.specs.JobLines.{outset_word, side_field, distance_field, rings_field, is_side, head_formed}
use Rattle.format.proofs.FieldWalk.{fields_start}
use Rattle.format_numerals.specs.Readings.{no_float, no_count}
use Rattle.format_fields.specs.declared.At.{At}
use Rattle.format_fields.specs.Places.{field_at, ReadAt, SideAt}
use Rattle.format_fields.proofs.Laws.{rest_is, rest_read}
use Rattle.format_job.specs.Reads.{is_outward, ring_number, head_fits, HeadOf}
use Rattle.format_job.proofs.Takes.{field_here, fields_next}

module _ (line : List ℕ) where
  long : longest_line < length line → head_fits line ≡ false
  unfolding head_fits
  long h = ap (λ (t : Bool). t && (head_formed (fields line) && side_fits (is_outward line) (ring_number line))) (lt-leb (length line) longest_line h)

  unformed : head_formed (fields line) ≡ false → head_fits line ≡ false
  unfolding head_fits
  unformed e = ap (λ (t : Bool). leb (length line) longest_line && (t && side_fits (is_outward line) (ring_number line))) e ∙ and-false (leb (length line) longest_line)

  no_side : is_side (side_field (fields line)) ≡ false → head_formed (fields line) ≡ false
  unfolding head_formed
  no_side e = ap (λ (t : Bool). t && (is_float (distance_field (fields line)) && is_count (rings_field (fields line)))) e

  no_distance : is_float (distance_field (fields line)) ≡ false → head_formed (fields line) ≡ false
  unfolding head_formed
  no_distance e = ap (λ (t : Bool). is_side (side_field (fields line)) && (t && is_count (rings_field (fields line)))) e ∙ and-false (is_side (side_field (fields line)))

  pub too_long : longest_line < length line → head_fits line ≡ false
  too_long h = long h

  pub bad_side : is_side (side_field (fields line)) ≡ false → head_fits line ≡ false
  bad_side e = unformed (no_side e)

  -- ---- field by field

  module _ (side : At Bool) (s : SideAt line side) where
    one : fields_from line side.next ≡ drop 1 (fields line)
    one = ap (λ (i : ℕ). fields_from line i) s.next_is ∙ rest_is line 0 zero-le ∙ ap (λ (fs : List (List ℕ)). drop 1 fs) (fields_start line)

    second : field_at line side.next ≡ distance_field (fields line)
    second = field_here line (fields line) 1 side.next one

    pub bad_distance : is_float (field_at line side.next) ≡ false → head_fits line ≡ false
    bad_distance e = unformed (no_distance (sym (ap is_float second) ∙ e))

    module _ (d : At Float) (r : ReadAt is_float float_of line side.next d) where
      two : fields_from line d.next ≡ drop 2 (fields line)
      two = fields_next line (fields line) 1 side.next one d.next (rest_read is_float float_of line side.next d no_float r)

      third : field_at line d.next ≡ rings_field (fields line)
      third = field_here line (fields line) 2 d.next two

      pub bad_rings : is_count (field_at line d.next) ≡ false → head_fits line ≡ false
      unfolding head_formed
      bad_rings e =
          unformed (rw (s.formed, sym (ap is_float second) ∙ r.formed, sym (ap is_count third) ∙ e) refl)

      module _ (n : At ℕ) (c : ReadAt is_count count_of line d.next n) where
        number : n.value ≡ ring_number line
        unfolding ring_number
        number = c.value_is ∙ ap count_of third

        fits_by : length line ≤ longest_line → head_fits line ≡ not (side.value && not (eqb n.value 1))
        unfolding head_fits head_formed side_fits is_outward
        fits_by l =
            rw (le-leb (length line) longest_line l, s.formed, sym (ap is_float second) ∙ r.formed, sym (ap is_count third) ∙ c.formed, number, s.outward_is)
            (either (same_bytes (side_field (fields line)) outset_word) (eqb (ring_number line) 1))
          where
            either : (a b : Bool) → (not a || b) ≡ not (a && not b)
            either true true = refl
            either true false = refl
            either false b = refl

        pub unfit : length line ≤ longest_line → (side.value && not (eqb n.value 1)) ≡ true → head_fits line ≡ false
        unfit l e = fits_by l ∙ ap not e

        pub the_head : length line ≤ longest_line → (side.value && not (eqb n.value 1)) ≡ false
            → HeadOf line (record { outward = side.value; distance = d.value; rings = n.value; next = n.next })
        unfolding is_outward
        the_head l e =
            record {
              fits = fits_by l ∙ ap not e;
              outward_is = s.outward_is;
              distance_is = r.value_is ∙ ap float_of second;
              rings_is = number;
              rest = fields_next line (fields line) 2 d.next two n.next (rest_read is_count count_of line d.next n no_count c);
            }
