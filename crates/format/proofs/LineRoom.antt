-- What a well-formed line has room for: the fields of a line and its commas are all of its bytes. Assumes nothing.
use Prim.Native.Nat.{ℕ, zero, suc, ◌+◌, ◌*◌, ◌≤◌, ◌<◌, zero-le, suc-le-suc}
use native.Mathlib.Nat.{le_trans, le_of_suc-le-suc, le_of_eq, zero-add, suc-add, add-zero, add-suc, mul-zero, mul-one, mul-suc, lt_of_not-le}
use native.Mathlib.Omega.{arith}
use mathlib.Core.Bool.{Bool, true, false, cond, ◌&&◌, ◌||◌, false≢true}
use mathlib.Mathlib.Data.Bool.Basic.{and_elim_left, and_elim_right}
use mathlib.Core.Path.{◌≡◌, refl, sym, ap, ◌∙◌, subst}
use mathlib.Core.List.{List, [], ◌∷◌}
use lib.Dec.{T, leb, eqb, leb→le, eqb→eq, lit<}
use lib.ListN.{get_or, length, drop, get_or-eq_default}
use lib.Seq.{drop-cons}
use Rattle.error.specs.Refusals.{granted, open_refusals}
use Rattle.format.specs.Fields.{comma, byte_before, parts_of, fields}
use Rattle.format.specs.Numerals.{is_float, is_count, count_of, float_of}
use Rattle.format.specs.JobLines.{inset_word, outset_word, is_side, side_fits, coordinate_count, head_formed, numbers_formed, well_formed}
use Rattle.format.specs.JobLines.{side_field, distance_field, rings_field, job_of, ParsedJob, ill_formed, parsed_by, parsed, parse_job, LineRoom}
use Rattle.format.specs.Lines.{same_bytes, longest_line, are_counts, counts_test_step, are_floats, floats_test_step, counts_of, counts_step, floats_of, floats_step}
use Rattle.base.proofs.Elements.{tested_at, made_length}
use Rattle.format.proofs.NumbersWritten.{count_written}
use Rattle.format.proofs.FieldWalk.{some_field}

-- the bytes of the fields, each with one more for a comma
sizes : List (List ℕ) → ℕ
sizes [] = 0
sizes (part ∷ parts) = suc (length part + sizes parts)

byte_size : (t : Bool) (b : ℕ) (part : List ℕ) (parts : List (List ℕ)) → sizes (byte_before t b (part ∷ parts)) ≡ suc (sizes (part ∷ parts))
unfolding sizes byte_before
byte_size true b part parts = ap suc (zero-add (suc (length part + sizes parts)))
byte_size false b part parts = ap suc (suc-add (length part) (sizes parts))

all_bytes : (line : List ℕ) → sizes (fields line) ≡ suc (length line)
unfolding sizes fields parts_of
all_bytes [] = refl
all_bytes (b ∷ line) =
    let (part, parts, e) = some_field line in
    ap (λ (ps : List (List ℕ)). sizes (byte_before (eqb b comma) b ps)) e
    ∙ byte_size (eqb b comma) b part parts
    ∙ ap (λ (ps : List (List ℕ)). suc (sizes ps)) (sym e)
    ∙ ap suc (all_bytes line)

-- ---- n fields of at least m bytes

there : (fs : List (List ℕ)) (k : ℕ) → 0 < length (get_or fs k []) → k < length fs
there fs k h = lt_of_not-le (λ (g : length fs ≤ k). none (length (get_or fs k [])) h (ap length (get_or-eq_default fs [] g)))
  where
    none : (n : ℕ) → 0 < n → n ≡ 0 → ⊥
    none n p e = omega arith

size_at : (fs : List (List ℕ)) (k : ℕ) → k < length fs → sizes (drop k fs) ≡ suc (length (get_or fs k []) + sizes (drop (suc k) fs))
unfolding sizes
size_at fs k h = ap sizes (drop-cons fs k [] h)

enough : (m f s x c y : ℕ) → m ≤ f → x ≡ c + suc m → c + y ≤ s → x + y ≤ suc (f + s)
enough m f s x c y h e g = omega arith

moved : (from k : ℕ) → from + suc k ≡ suc from + k
moved from k = add-suc from k ∙ sym (suc-add from k)

some_sizes : (fs : List (List ℕ)) (m from n : ℕ) → 0 < m → ((k : ℕ) → k < n → m ≤ length (get_or fs (from + k) []))
    → suc m * n + sizes (drop (from + n) fs) ≤ sizes (drop from fs)
some_sizes fs m from zero p h =
    le_of_eq (ap (λ (x : ℕ). x + sizes (drop (from + 0) fs)) (mul-zero (suc m)) ∙ zero-add (sizes (drop (from + 0) fs)) ∙ ap (λ (k : ℕ). sizes (drop k fs)) (add-zero from))
some_sizes fs m from (suc n) p h =
    subst (λ (z : ℕ). suc m * suc n + sizes (drop (from + suc n) fs) ≤ z) (sym (size_at fs from (there fs from (le_trans p here))))
    (enough m (length (get_or fs from [])) (sizes (drop (suc from) fs)) (suc m * suc n) (suc m * n) (sizes (drop (from + suc n) fs)) here (mul-suc (suc m) n)
    (subst (λ (k : ℕ). suc m * n + sizes (drop k fs) ≤ sizes (drop (suc from) fs)) (sym (moved from n))
    (some_sizes fs m (suc from) n p (λ k l. subst (λ (i : ℕ). m ≤ length (get_or fs i [])) (moved from k) (h (suc k) (suc-le-suc l))))))
  where
    here : m ≤ length (get_or fs from [])
    here = subst (λ (k : ℕ). m ≤ length (get_or fs k [])) (add-zero from) (h 0 (suc-le-suc zero-le))

-- ---- what the tests say of the length of a field

length_by : (field : List ℕ) (n : ℕ) (rest : Bool) → (eqb (length field) n && rest) ≡ true → length field ≡ n
length_by field n rest e = eqb→eq (length field) n (subst T (sym (and_elim_left (eqb (length field) n) rest e)) tt)

float_size : (field : List ℕ) → is_float field ≡ true → 16 ≤ length field
unfolding is_float
float_size field e = le_of_eq (sym (length_by field 16 _ e))

count_size : (field : List ℕ) → is_count field ≡ true → 1 ≤ length field
unfolding is_count
count_size field e = leb→le 1 (length field) (subst T (sym (and_elim_left (leb 1 (length field)) _ e)) tt)

side_size : (field : List ℕ) → is_side field ≡ true → 5 ≤ length field
unfolding is_side same_bytes inset_word outset_word
side_size field e = go (same_bytes field inset_word) refl e
  where
    more : length field ≡ 6 → 5 ≤ length field
    more h = omega arith

    go : (t : Bool) → same_bytes field inset_word ≡ t → (t || same_bytes field outset_word) ≡ true → 5 ≤ length field
    go true i h = le_of_eq (sym (length_by field 5 _ i))
    go false i h = more (length_by field 6 _ h)

-- a count is at most 999
count_le : (field : List ℕ) → is_count field ≡ true → count_of field ≤ 999
count_le field e = le_of_suc-le-suc (count_written field e).1

-- ---- a well-formed line

room_for : (s0 s1 s2 s3 s4 s5 l r n : ℕ) → s0 ≡ suc l → l ≤ 16384
    → 6 * 1 + s1 ≤ s0 → 17 * 1 + s2 ≤ s1 → 2 * 1 + s3 ≤ s2 → 2 * r + s4 ≤ s3 → 17 * n + s5 ≤ s4 → n ≤ 962
room_for s0 s1 s2 s3 s4 s5 l r n e0 l0 h1 h2 h3 h4 h5 = omega arith

one_field_size : (fs : List (List ℕ)) (m from : ℕ) → 0 < m → m ≤ length (get_or fs from []) → suc m * 1 + sizes (drop (suc from) fs) ≤ sizes (drop from fs)
one_field_size fs m from p h =
    subst (λ (z : ℕ). suc m * 1 + sizes (drop (suc from) fs) ≤ z) (sym (size_at fs from (there fs from (le_trans p h))))
    (enough m (length (get_or fs from [])) (sizes (drop (suc from) fs)) (suc m * 1) 0 (sizes (drop (suc from) fs)) h
    (mul-one (suc m) ∙ sym (zero-add (suc m)))
    (le_of_eq (zero-add (sizes (drop (suc from) fs)))))

fits : (line : List ℕ) (outward : Bool) (r : ℕ) → length line ≤ longest_line → well_formed (fields line) outward r ≡ true → coordinate_count (fields line) r ≤ 962
unfolding well_formed head_formed numbers_formed are_counts counts_test_step are_floats floats_test_step
fits line outward r l e =
    let fs = fields line in
    let head = and_elim_left (head_formed fs) _ e in
    let numbers = and_elim_right (side_fits outward r) _ (and_elim_right (head_formed fs) _ e) in
    let n = coordinate_count fs r in
    room_for (sizes fs) (sizes (drop 1 fs)) (sizes (drop 2 fs)) (sizes (drop 3 fs)) (sizes (drop (3 + r) fs)) (sizes (drop (3 + r + n) fs)) (length line) r n
    (all_bytes line) l
    (one_field_size fs 5 0 (lit< tt) (side_size (get_or fs 0 []) (and_elim_left (is_side (get_or fs 0 [])) _ head)))
    (one_field_size fs 16 1 (lit< tt) (float_size (get_or fs 1 []) (and_elim_left (is_float (get_or fs 1 [])) _ (and_elim_right (is_side (get_or fs 0 [])) _ head))))
    (one_field_size fs 1 2 (lit< tt) (count_size (get_or fs 2 []) (and_elim_right (is_float (get_or fs 1 [])) _ (and_elim_right (is_side (get_or fs 0 [])) _ head))))
    (some_sizes fs 1 3 r (lit< tt) (λ k h. count_size (get_or fs (3 + k) []) (tested_at r (λ i. is_count (get_or fs (3 + i) [])) (and_elim_left (are_counts fs 3 r) _ numbers) k h)))
    (some_sizes fs 16 (3 + r) n (lit< tt) (λ k h. float_size (get_or fs (3 + r + k) []) (tested_at n (λ i. is_float (get_or fs (3 + r + i) [])) (and_elim_right (are_counts fs 3 r) _ numbers) k h)))

abbrev Roomy : ParsedJob → Type 0
Roomy p = granted p.refusal ≡ true → (length p.lengths ≤ 999) × (length p.coordinates ≤ 962)

refused_roomy : Roomy ill_formed
unfolding ill_formed open_refusals
refused_roomy e = absurd (false≢true e)

formed_roomy : (line : List ℕ) (outward : Bool) (r : ℕ) → r ≡ count_of (rings_field (fields line)) → length line ≤ longest_line
    → (t : Bool) → well_formed (fields line) outward r ≡ t → Roomy (cond t (job_of (fields line) outward r) ill_formed)
unfolding job_of counts_of counts_step floats_of floats_step well_formed head_formed
formed_roomy line outward r c l true e = λ _. (
  subst (λ (n : ℕ). n ≤ 999) (sym (made_length (λ k. count_of (get_or (fields line) (3 + k) [])) r)) (subst (λ (n : ℕ). n ≤ 999) (sym c) (count_le (rings_field (fields line)) rings)),
  subst (λ (n : ℕ). n ≤ 962) (sym (made_length (λ k. float_of (get_or (fields line) (3 + r + k) [])) (coordinate_count (fields line) r))) (fits line outward r l e),
)
  where
    rings : is_count (rings_field (fields line)) ≡ true
    rings = and_elim_right (is_float (distance_field (fields line))) _ (and_elim_right (is_side (side_field (fields line))) _ (and_elim_left (head_formed (fields line)) _ e))
formed_roomy line outward r c l false e = refused_roomy

length_roomy : (line : List ℕ) (t : Bool) → leb (length line) longest_line ≡ t → Roomy (cond t (parsed (fields line)) ill_formed)
unfolding parsed parsed_by
length_roomy line true e =
    let outward = same_bytes (side_field (fields line)) outset_word in
    let r = count_of (rings_field (fields line)) in
    formed_roomy line outward r refl (leb→le (length line) longest_line (subst T (sym e) tt)) (well_formed (fields line) outward r) refl
length_roomy line false e = refused_roomy

pub line_room : LineRoom
unfolding parse_job
line_room line = length_roomy line (leb (length line) longest_line) refl
