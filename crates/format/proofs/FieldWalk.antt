-- A walk from field to field of a line meets the fields that the line has. Assumes nothing.
use Prim.Native.Nat.{ℕ, zero, suc, ◌+◌, ◌-◌, ◌≤◌, ◌<◌, zero-le, suc-le-suc}
use native.Mathlib.Nat.{le_refl, le-add_right, add-zero, suc-add, zero-add}
use native.Mathlib.Omega.{arith}
use mathlib.Core.Bool.{Bool, true, false, cond}
use mathlib.Core.Path.{◌≡◌, refl, sym, ap, ◌∙◌, subst}
use mathlib.Core.List.{List, [], ◌∷◌, head-eq_of_cons-eq, tail-eq_of_cons-eq, nil≢cons}
use lib.Arith.{lt→nleb}
use lib.Dec.{T, leb, ltb, eqb, leb-suc-suc, leb-zero, le→leb, leb→le, not_T}
use lib.Ieee.Bits.{is_true, is_false}
use lib.ListN.{get_or, length, take, drop, length-drop}
use lib.Seq.{slice, drop-drop, get_or-drop, take-nil, drop-nil}
use Rattle.base.specs.Loop.{rounds}
use Rattle.base.proofs.Laws.{steady, still}
use Rattle.format.specs.Fields.{comma, byte_before, parts_of, fields, end_step, part_end, field_end, fields_from, FieldAt, FieldWalk}

-- ---- the first part of a list of bytes

-- how many bytes stand before the first mark
first_by : Bool → ℕ → ℕ
first_by true n = 0
first_by false n = suc n

first : ℕ → List ℕ → ℕ
first mark [] = 0
first mark (b ∷ bytes) = first_by (eqb b mark) (first mark bytes)

first_by_le : (t : Bool) (n m : ℕ) → n ≤ m → first_by t n ≤ suc m
unfolding first_by
first_by_le true n m h = omega arith
first_by_le false n m h = omega arith

first_le : (mark : ℕ) (bytes : List ℕ) → first mark bytes ≤ length bytes
unfolding first
first_le mark [] = le_refl 0
first_le mark (b ∷ bytes) = first_by_le (eqb b mark) (first mark bytes) (length bytes) (first_le mark bytes)

-- the fields after the first n bytes and the comma that follows them, if there is one
abbrev after : ℕ → List ℕ → List (List ℕ)
after n bytes = cond (ltb n (length bytes)) (fields (drop (suc n) bytes)) []

byte_then : (t : Bool) (b : ℕ) (bytes : List ℕ) (n : ℕ) → fields bytes ≡ take n bytes ∷ after n bytes
    → byte_before t b (fields bytes) ≡ take (first_by t n) (b ∷ bytes) ∷ after (first_by t n) (b ∷ bytes)
unfolding byte_before first_by
byte_then true b bytes n e =
    ap (λ (t : Bool). [] ∷ cond t (fields bytes) []) (sym (leb-suc-suc 0 (length bytes) ∙ leb-zero (length bytes)))
byte_then false b bytes n e =
    ap (λ (parts : List (List ℕ)). byte_before false b parts) e
    ∙ ap (λ (t : Bool). (b ∷ take n bytes) ∷ cond t (fields (drop (suc n) bytes)) []) (sym (leb-suc-suc (suc n) (length bytes)))

first_part : (bytes : List ℕ) → fields bytes ≡ take (first comma bytes) bytes ∷ after (first comma bytes) bytes
unfolding fields parts_of first
first_part [] = refl
first_part (b ∷ bytes) = byte_then (eqb b comma) b bytes (first comma bytes) (first_part bytes)

-- a line has a first field
pub some_field : (line : List ℕ) → (part : List ℕ) × (parts : List (List ℕ)) × (fields line ≡ part ∷ parts)
some_field line = (take (first comma line) line, after (first comma line) line, first_part line)

-- ---- the walk to the next mark

same_round : (mark : ℕ) (bytes : List ℕ) (k m at : ℕ) → end_step mark bytes k at ≡ end_step mark bytes m at
unfolding end_step
same_round mark bytes k m at = refl

one_over : (a f : ℕ) → a + 1 + f ≡ a + suc f
one_over a f = omega arith

step_is : (mark : ℕ) (bytes : List ℕ) (k at : ℕ) → end_step mark bytes k at ≡ cond (eqb (get_or bytes at 0) mark) at (at + 1)
unfolding end_step
step_is mark bytes k at = refl

-- one byte of the walk: t says whether it is a mark
walk_byte : (mark : ℕ) (bytes : List ℕ) (at n f : ℕ) (t : Bool) → eqb (get_or bytes at 0) mark ≡ t
    → (t ≡ false → rounds (end_step mark bytes) n (at + 1) ≡ at + 1 + f)
    → rounds (end_step mark bytes) n (cond t at (at + 1)) ≡ at + first_by t f
unfolding first_by
walk_byte mark bytes at n f true e ih = still (end_step mark bytes) at stays n ∙ sym (add-zero at)
  where
    stays : (k : ℕ) → end_step mark bytes k at ≡ at
    stays k = step_is mark bytes k at ∙ ap (λ (t : Bool). cond t at (at + 1)) e
walk_byte mark bytes at n f false e ih = ih refl ∙ one_over at f

walk_is : (mark : ℕ) (bytes rest : List ℕ) (at : ℕ) → drop at bytes ≡ rest → rounds (end_step mark bytes) (length rest) at ≡ at + first mark rest
unfolding first rounds
walk_is mark bytes [] at e = sym (add-zero at)
walk_is mark bytes (b ∷ rest) at e =
    steady (end_step mark bytes) (same_round mark bytes) (length rest) at
    ∙ ap (λ (a : ℕ). rounds (end_step mark bytes) (length rest) a) (step_is mark bytes 0 at ∙ ap (λ (c : ℕ). cond (eqb c mark) at (at + 1)) here)
    ∙ walk_byte mark bytes at (length rest) (first mark rest) (eqb b mark) (ap (λ (c : ℕ). eqb c mark) here) (λ _. walk_is mark bytes rest (at + 1) next)
  where
    here : get_or bytes at 0 ≡ b
    here = ap (λ (i : ℕ). get_or bytes i 0) (sym (add-zero at)) ∙ sym (get_or-drop at bytes 0 0) ∙ ap (λ (l : List ℕ). get_or l 0 0) e

    next : drop (at + 1) bytes ≡ rest
    next = sym (drop-drop 1 at bytes) ∙ ap (λ (l : List ℕ). drop 1 l) e

field_end_is : (line : List ℕ) (start : ℕ) → field_end line start ≡ start + first comma (drop start line)
unfolding field_end part_end
field_end_is line start = ap (λ (n : ℕ). rounds (end_step comma line) n start) (sym (length-drop start line)) ∙ walk_is comma line (drop start line) start refl

-- ---- the walk from field to field

within : (start l f : ℕ) → start ≤ l → f ≤ l - start → start + f ≤ l
within start l f h k = omega arith

from_is : (line : List ℕ) (start : ℕ) → start ≤ length line → fields_from line start ≡ fields (drop start line)
unfolding fields_from
from_is line start h = ap (λ (t : Bool). cond t (fields (drop start line)) []) (is_true (leb start (length line)) (le→leb start (length line) h))

pub no_field : (line : List ℕ) (start : ℕ) → length line < start → fields_from line start ≡ []
unfolding fields_from
no_field line start h = ap (λ (t : Bool). cond t (fields (drop start line)) []) (is_false (leb start (length line)) (lt→nleb start (length line) h))

same_leb : (a b c d : ℕ) → (a ≤ b → c ≤ d) → (c ≤ d → a ≤ b) → leb a b ≡ leb c d
same_leb a b c d to back = go (leb a b) refl
  where
    go : (t : Bool) → leb a b ≡ t → t ≡ leb c d
    go true e = sym (is_true (leb c d) (le→leb c d (to (leb→le a b (subst T (sym e) tt)))))
    go false e = sym (is_false (leb c d) (not_T (leb c d) (λ (y : T (leb c d)). subst T e (le→leb a b (back (leb→le c d y))))))

-- a comma after f bytes from the start stands before the end of the line just where the next field starts no later than that
test_moves : (start l f : ℕ) → start ≤ l → ltb f (l - start) ≡ leb (start + f + 1) l
test_moves start l f h = same_leb (suc f) (l - start) (start + f + 1) l (λ (k : suc f ≤ l - start). omega arith) (λ (k : start + f + 1 ≤ l). omega arith)

one_past : (start f : ℕ) → start + suc f ≡ start + f + 1
one_past start f = omega arith

next_is : (line : List ℕ) (start f : ℕ) → start ≤ length line → after f (drop start line) ≡ fields_from line (start + f + 1)
unfolding fields_from
next_is line start f h =
    ap (λ (n : ℕ). cond (ltb f n) (fields (drop (suc f) (drop start line))) []) (length-drop start line)
    ∙ ap (λ (t : Bool). cond t (fields (drop (suc f) (drop start line))) []) (test_moves start (length line) f h)
    ∙ ap (λ (l : List ℕ). cond (leb (start + f + 1) (length line)) (fields l) []) (drop-drop (suc f) start line ∙ ap (λ (n : ℕ). drop n line) (one_past start f))

part_is : (start n : ℕ) (line : List ℕ) → take n (drop start line) ≡ slice start (start + n) line
part_is zero n line = ap (λ (k : ℕ). take k line) (sym (zero-add n))
part_is (suc start) n [] = take-nil n ∙ sym (ap (λ (l : List ℕ). drop (suc start) l) (take-nil (suc start + n)))
part_is (suc start) n (b ∷ line) = part_is start n line ∙ ap (λ (k : ℕ). drop (suc start) (take k (b ∷ line))) (sym (suc-add start n))

walk_from : (line : List ℕ) (start f : ℕ) → start ≤ length line → f ≤ length line - start
    → fields_from line start ≡ take f (drop start line) ∷ after f (drop start line) → field_end line start ≡ start + f → FieldAt line start
walk_from line start f h k e at =
    record {
      from = rw at (le-add_right start f);
      up_to = rw at (within start (length line) f h k);
      is =
          rw at
          (e
          ∙ ap (λ (part : List ℕ). part ∷ after f (drop start line)) (part_is start f line)
          ∙ ap (λ (rest : List (List ℕ)). slice start (start + f) line ∷ rest) (next_is line start f h));
    }

pub field_walk : FieldWalk
field_walk line start h =
    walk_from line start (first comma (drop start line)) h
    (subst (λ (n : ℕ). first comma (drop start line) ≤ n) (length-drop start line) (first_le comma (drop start line)))
    (from_is line start h ∙ first_part (drop start line))
    (field_end_is line start)

-- ---- field k of a line, where a walk has passed k fields

pub field_is : {A : Type 0} (xs : List A) (k : ℕ) (d x : A) (rest : List A) → drop k xs ≡ x ∷ rest → get_or xs k d ≡ x
field_is [] k d x rest e = absurd (nil≢cons (sym (drop-nil k) ∙ e))
field_is (y ∷ xs) zero d x rest e = head-eq_of_cons-eq e
field_is (y ∷ xs) (suc k) d x rest e = field_is xs k d x rest e

pub fields_left : {A : Type 0} (xs : List A) (k : ℕ) (x : A) (rest : List A) → drop k xs ≡ x ∷ rest → drop (suc k) xs ≡ rest
fields_left [] k x rest e = absurd (nil≢cons (sym (drop-nil k) ∙ e))
fields_left (y ∷ xs) zero x rest e = tail-eq_of_cons-eq e
fields_left (y ∷ xs) (suc k) x rest e = fields_left xs k x rest e

pub fields_gone : {A : Type 0} (xs : List A) (k : ℕ) → drop k xs ≡ [] → length xs ≤ k
fields_gone [] k e = zero-le
fields_gone (y ∷ xs) zero e = absurd (nil≢cons (sym e))
fields_gone (y ∷ xs) (suc k) e = suc-le-suc (fields_gone xs k e)

-- a walk starts at place 0, with every field before it
pub fields_start : (line : List ℕ) → fields_from line 0 ≡ fields line
fields_start line = from_is line 0 zero-le
