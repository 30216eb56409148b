-- What reading at a place has by the walk from field to field. Assumes nothing.
use Prim.Native.Nat.{ℕ, zero, suc, ◌+◌, ◌-◌, ◌*◌, ◌^◌, ◌≤◌, ◌<◌, zero-le}
use native.Mathlib.Nat.{not-suc-le-zero, le_of_suc-le-suc, sub-zero, suc-sub-suc}
use native.Mathlib.Omega.{arith}
use mathlib.Core.Bool.{Bool, true, false, ◌||◌, false≢true}
use mathlib.Core.Path.{◌≡◌, refl, sym, ap, ◌∙◌, subst}
use mathlib.Core.List.{List, [], ◌∷◌}
use lib.Dec.{leb, eqb}
use lib.Pointwise.{pointwise}
use Rattle.std.specs.Bool.{Decides}
use Rattle.std.proofs.lemmas.Bool.Decides.{Decides-eqb}
use Rattle.std.proofs.lemmas.Slice.Eq.{slice_eq-Decides}
use Rattle.format.proofs.SameBytes.{same_are, same_self}
use lib.ListN.{get_or, length, take, drop}
use lib.Seq.{slice, take-nil}
use borrow.Author.Tests.{leb-true, leb-false}
use Rattle.format.specs.Fields.{fields, fields_from, field_end}
use Rattle.format.specs.JobLines.{inset_word, outset_word, side_field, is_side}
use Rattle.format.specs.Lines.{same_bytes}
use Rattle.format.proofs.FieldWalk.{field_walk, no_field, fields_start}
use Rattle.format_numerals.specs.Readings.{FieldValue}
use Rattle.format_fields.specs.declared.At.{At}
use Rattle.format_fields.specs.Places.{field_at, ReadAt, SideAt}

-- a part of a slice, as the code takes it
pub part_is : (start end : ℕ) (line : List ℕ) → start ≤ end → take (end - start) (drop start line) ≡ slice start end line
part_is zero end line h = ap (λ (n : ℕ). take n line) (sub-zero end)
part_is (suc start) zero line h = absurd (not-suc-le-zero h)
part_is (suc start) (suc end) [] h = take-nil (suc end - suc start)
part_is (suc start) (suc end) (b ∷ line) h = ap (λ (n : ℕ). take n (drop start line)) (suc-sub-suc end start) ∙ part_is start end line (le_of_suc-le-suc h)

pub field_is : (line : List ℕ) (at : ℕ) → at ≤ length line → field_at line at ≡ slice at (field_end line at) line
unfolding field_at
field_is line at h = ap (λ (fs : List (List ℕ)). get_or fs 0 []) (field_walk line at h).is

pub rest_is : (line : List ℕ) (at : ℕ) → at ≤ length line → fields_from line (field_end line at + 1) ≡ drop 1 (fields_from line at)
rest_is line at h = sym (ap (λ (fs : List (List ℕ)). drop 1 fs) (field_walk line at h).is)

pub no_field_at : (line : List ℕ) (at : ℕ) → length line < at → field_at line at ≡ []
unfolding field_at
no_field_at line at h = ap (λ (fs : List (List ℕ)). get_or fs 0 []) (no_field line at h)

pub inside : (line : List ℕ) (at end : ℕ) → at ≤ length line → end ≡ field_end line at → (at ≤ end) × (end ≤ length line)
inside line at end h e = (subst (λ (x : ℕ). at ≤ x) (sym e) (field_walk line at h).from, subst (λ (x : ℕ). x ≤ length line) (sym e) (field_walk line at h).up_to)

pub one_more : (end n : ℕ) → end ≤ n → n * 1 < 2 ^ 63 → end + 1 < 2 ^ 64
one_more end n h r = omega arith

module _ (test : List ℕ → Bool) (line : List ℕ) (at : ℕ) where
  pub unread : length line < at → test [] ≡ false → test (field_at line at) ≡ false
  unread h e = ap test (no_field_at line at h) ∙ e

  pub here : (end : ℕ) → at ≤ length line → end ≡ field_end line at → take (end - at) (drop at line) ≡ field_at line at
  here end h e = part_is at end line (inside line at end h e).0 ∙ ap (λ (x : ℕ). slice at x line) e ∙ sym (field_is line at h)

  pub no_number : (end : ℕ) → at ≤ length line → end ≡ field_end line at → test (take (end - at) (drop at line)) ≡ false → test (field_at line at) ≡ false
  no_number end h e t = ap test (sym (here end h e)) ∙ t

module _ {A : Type 0} (test : List ℕ → Bool) (value_of : List ℕ → A) (line : List ℕ) (at : ℕ) where
  pub read : (end : ℕ) (value : A) → at ≤ length line → end ≡ field_end line at → FieldValue test value_of (take (end - at) (drop at line)) value
      → ReadAt test value_of line at (record { value = value; next = end + 1 })
  read end value h e f =
      record {
        formed = ap test (sym (here test line at end h e)) ∙ f.formed;
        value_is = f.is ∙ ap value_of (here test line at end h e);
        next_is = ap (λ (x : ℕ). x + 1) e;
      }

  -- a field that is there
  pub within : test [] ≡ false → test (field_at line at) ≡ true → at ≤ length line
  within e t = go (leb at (length line)) refl
    where
      go : (b : Bool) → leb at (length line) ≡ b → at ≤ length line
      go true l = leb-true at (length line) l
      go false l = absurd (false≢true (sym e ∙ sym (ap test (no_field_at line at (leb-false at (length line) l))) ∙ t))

  pub rest_read : (x : At A) → test [] ≡ false → ReadAt test value_of line at x → fields_from line x.next ≡ drop 1 (fields_from line at)
  rest_read x e r = ap (λ (n : ℕ). fields_from line n) r.next_is ∙ rest_is line at (within e r.formed)

  pub further_read : (x : At A) → test [] ≡ false → ReadAt test value_of line at x → at < x.next
  further_read x e r = subst (λ (n : ℕ). at < n) (sym r.next_is) (past (field_end line at) (field_walk line at (within e r.formed)).from)
    where
      past : (f : ℕ) → at ≤ f → at < f + 1
      past f h = omega arith

-- ---- the side, by the first field

first_is : (line : List ℕ) (end : ℕ) → end ≡ field_end line 0 → slice 0 end line ≡ side_field (fields line)
first_is line end e =
    ap (λ (x : ℕ). slice 0 x line) e ∙ sym (ap (λ (fs : List (List ℕ)). get_or fs 0 []) (field_walk line 0 zero-le).is)
    ∙ ap (λ (fs : List (List ℕ)). get_or fs 0 []) (fields_start line)

-- the code's test of two words is the definition's
same_is : (xs ys : List ℕ) (r : Bool) → r ≡ pointwise eqb xs ys → r ≡ same_bytes xs ys
same_is xs ys r e = go r refl (same_bytes xs ys) refl
  where
    decided : Decides r (xs ≡ ys)
    decided = slice_eq-Decides Decides-eqb xs ys r e

    go : (a : Bool) → r ≡ a → (b : Bool) → same_bytes xs ys ≡ b → r ≡ same_bytes xs ys
    go true p b q = p ∙ sym (ap (λ (zs : List ℕ). same_bytes zs ys) (decided.0 p) ∙ same_self ys)
    go false p true q = absurd (false≢true (sym p ∙ decided.1 (same_are xs ys q)))
    go false p false q = p ∙ sym q

either : (i o : Bool) → (o || i) ≡ true → (i || o) ≡ true
either true o h = refl
either false true h = refl
either false false h = h

neither : (i o : Bool) → (o || i) ≡ false → (i || o) ≡ false
neither true true h = h
neither true false h = h
neither false true h = h
neither false false h = h

-- what the code finds the first field to be
first_same : (line : List ℕ) (end : ℕ) (read word : List ℕ) (r : Bool) → end ≡ field_end line 0 → read ≡ word → r ≡ pointwise eqb (slice 0 end line) read
    → r ≡ same_bytes (side_field (fields line)) word
first_same line end read word r e w h = same_is (slice 0 end line) read r h ∙ rw (first_is line end e, w) refl

pub side_read : (line : List ℕ) (end : ℕ) (inset outset : List ℕ) (inward outward : Bool) → end ≡ field_end line 0
    → inset ≡ 105 ∷ 110 ∷ 115 ∷ 101 ∷ 116 ∷ [] → inward ≡ pointwise eqb (slice 0 end line) inset
    → outset ≡ 111 ∷ 117 ∷ 116 ∷ 115 ∷ 101 ∷ 116 ∷ [] → outward ≡ pointwise eqb (slice 0 end line) outset
    → (outward || inward) ≡ true → SideAt line (record { value = outward; next = end + 1 })
unfolding is_side inset_word outset_word
side_read line end inset outset inward outward e v i w o t =
    let i' = first_same line end inset inset_word inward e v i in
    let o' = first_same line end outset outset_word outward e w o in
    record { formed = either (same_bytes (side_field (fields line)) inset_word) (same_bytes (side_field (fields line)) outset_word) (rw (o', i') at t); outward_is = o'; next_is = ap (λ (x : ℕ). x + 1) e }

pub no_side : (line : List ℕ) (end : ℕ) (inset outset : List ℕ) (inward outward : Bool) → end ≡ field_end line 0
    → inset ≡ 105 ∷ 110 ∷ 115 ∷ 101 ∷ 116 ∷ [] → inward ≡ pointwise eqb (slice 0 end line) inset
    → outset ≡ 111 ∷ 117 ∷ 116 ∷ 115 ∷ 101 ∷ 116 ∷ [] → outward ≡ pointwise eqb (slice 0 end line) outset
    → (outward || inward) ≡ false → is_side (side_field (fields line)) ≡ false
unfolding is_side inset_word outset_word
no_side line end inset outset inward outward e v i w o t =
    let i' = first_same line end inset inset_word inward e v i in
    let o' = first_same line end outset outset_word outward e w o in
    neither (same_bytes (side_field (fields line)) inset_word) (same_bytes (side_field (fields line)) outset_word) (rw (o', i') at t)
