-- The walk from field to field of a line, each read to lent memory. Assumes nothing.
use Prim.Native.Nat.{ℕ, suc, ◌+◌, ◌-◌, ◌≤◌, ◌<◌}
use native.Mathlib.Nat.{add-zero, le_antisymm}
use native.Mathlib.Omega.{arith}
use mathlib.Core.Bool.{Bool, true, false, cond}
use mathlib.Core.Path.{◌≡◌, refl, sym, ap, ◌∙◌}
use mathlib.Core.List.{List, []}
use lib.ListN.{get_or, set, length, drop, length-drop}
use lib.Seq.{get_or-drop, drop-drop, set_out}
use Rattle.base.specs.Loop.{rounds}
use Rattle.base.proofs.Laws.{no_round, goes_on, ends, stays_to}
use Rattle.format.specs.Fields.{fields_from, field_end}
use Rattle.format.proofs.FieldWalk.{field_walk, no_field, fields_gone}
use Rattle.std.proofs.Common.{None, Some}
use Rattle.format_fields.specs.declared.At.{At}
use Rattle.format_fields.specs.Places.{field_at, ReadAt}
use Rattle.format_fields.proofs.Laws.{rest_read}
use Rattle.format_job.specs.Reads.{Taken, take_number, taken, WalkedAt, AllAt}

-- ---- a place where k fields are passed

module _ (line : List ℕ) (fs : List (List ℕ)) (k at : ℕ) (e : fields_from line at ≡ drop k fs) where
  pub field_here : field_at line at ≡ get_or fs k []
  unfolding field_at
  field_here = ap (λ (gs : List (List ℕ)). get_or gs 0 []) e ∙ get_or-drop k fs 0 [] ∙ ap (λ (i : ℕ). get_or fs i []) (add-zero k)

  pub fields_next : (next : ℕ) → fields_from line next ≡ drop 1 (fields_from line at) → fields_from line next ≡ drop (k + 1) fs
  fields_next next r = r ∙ ap (λ (gs : List (List ℕ)). drop 1 gs) e ∙ drop-drop 1 k fs

  pub some_left : at ≤ length line → k < length fs
  some_left h =
      more (length fs) (length (fields_from line (field_end line at + 1)))
      (sym (length-drop k fs) ∙ ap (λ (gs : List (List ℕ)). length gs) (sym e ∙ (field_walk line at h).is))
    where
      more : (n m : ℕ) → n - k ≡ suc m → k < n
      more n m h = omega arith

  pub none_left : length line < at → length fs ≤ k
  none_left h = fields_gone fs k (sym e ∙ no_field line at h)

-- ---- one field

abbrev pub going : {A : Type 0} → List A → Taken A
going out = record { sound = true; out = out }

abbrev pub left : {A : Type 0} → List A → Taken A
left out = record { sound = false; out = out }

module _ {A : Type 0} (test : List ℕ → Bool) (value_of : List ℕ → A) (fs : List (List ℕ)) (k : ℕ) where
  taken_yes : (value : A) (out after : List A) → test (get_or fs k []) ≡ true → value ≡ value_of (get_or fs k []) → after ≡ set out k value
      → going after ≡ take_number test value_of fs k (going out)
  unfolding take_number
  taken_yes value out after t v a =
      ap (λ (xs : List A). going xs) (a ∙ ap (λ (x : A). set out k x) v)
      ∙ ap (λ (b : Bool). cond b (going (set out k (value_of (get_or fs k [])))) (left out)) (sym t)

  taken_no : (out : List A) → test (get_or fs k []) ≡ false → left out ≡ take_number test value_of fs k (going out)
  unfolding take_number
  taken_no out t = ap (λ (b : Bool). cond b (going (set out k (value_of (get_or fs k [])))) (left out)) (sym t)

  taken_left : (out : List A) → take_number test value_of fs k (left out) ≡ left out
  unfolding take_number
  taken_left out = refl

-- ---- k fields

abbrev pub WalkTo : {A : Type 0} → (List ℕ → Bool) → (List ℕ → A) → List ℕ → List (List ℕ) → List A → ℕ → ℕ → List A → Type 0
WalkTo test value_of line fs before k at out = (going out ≡ rounds (take_number test value_of fs) k (going before)) × (fields_from line at ≡ drop k fs)

module _ {A : Type 0} (test : List ℕ → Bool) (value_of : List ℕ → A) (line : List ℕ) (fs : List (List ℕ)) (before : List A) where
  pub begins : (start : ℕ) → fields_from line start ≡ fs → WalkTo test value_of line fs before 0 start before
  begins start e = (sym (no_round (take_number test value_of fs) (going before)), e)

  pub took : (k at : ℕ) (x : At A) (out after : List A) → test [] ≡ false → ReadAt test value_of line at x
      → after ≡ set out k x.value → WalkTo test value_of line fs before k at out → WalkTo test value_of line fs before (k + 1) x.next after
  took k at x out after e r w (s, f) = (
    goes_on (take_number test value_of fs) (going before) (going out) (going after) k s
        (taken_yes test value_of fs k x.value out after (sym (ap test here) ∙ r.formed) (r.value_is ∙ ap value_of here) w),
    fields_next line fs k at f x.next (rest_read test value_of line at x e r),
  )
    where
      here : field_at line at ≡ get_or fs k []
      here = field_here line fs k at f

  pub stopped : (k n at : ℕ) (out : List A) → k < n → test (field_at line at) ≡ false
      → WalkTo test value_of line fs before k at out → left out ≡ rounds (take_number test value_of fs) n (going before)
  stopped k n at out l t (s, f) =
      sym (stays_to (take_number test value_of fs) (going before) (left out) (k + 1) n (one k l)
      (sym (goes_on (take_number test value_of fs) (going before) (going out) (left out) k s
      (taken_no test value_of fs k out (sym (ap test (field_here line fs k at f)) ∙ t))))
      (λ (i : ℕ). taken_left test value_of fs i out))
    where
      one : (i : ℕ) → i < n → i + 1 ≤ n
      one i h = omega arith

-- ---- what the walks hand back

module _ {A : Type 0} (test : List ℕ → Bool) (value_of : List ℕ → A) (line : List ℕ) (start : ℕ) (before : List A) where
  pub walked : (k n at : ℕ) (out : List A) → k ≤ n → n ≤ k → WalkTo test value_of line (fields_from line start) before k at out
      → WalkedAt test value_of line start n before out (Some at)
  unfolding taken
  walked k n at out l m (s, f) =
      let e = ends (take_number test value_of (fields_from line start)) (going before) (going out) k n l m s in
      record {
        after_is = ap (λ (t : Taken A). t.out) e;
        rest = (sym (ap (λ (t : Taken A). t.sound) e), f ∙ ap (λ (i : ℕ). drop i (fields_from line start)) (le_antisymm l m));
      }

  pub not_walked : (k n at : ℕ) (out : List A) → k < n → test (field_at line at) ≡ false
      → WalkTo test value_of line (fields_from line start) before k at out → WalkedAt test value_of line start n before out None
  unfolding taken
  not_walked k n at out l t w =
      let e = stopped test value_of line (fields_from line start) before k n at out l t w in
      record { after_is = ap (λ (t : Taken A). t.out) e; rest = sym (ap (λ (t : Taken A). t.sound) e) }

  pub all_walked : (k at : ℕ) (out : List A) → k ≤ length (fields_from line start) → length line < at → WalkTo test value_of line (fields_from line start) before k at out
      → AllAt test value_of line start before out (Some k)
  unfolding taken
  all_walked k at out l m (s, f) =
      let g = none_left line (fields_from line start) k at f m in
      let e = ends (take_number test value_of (fields_from line start)) (going before) (going out) k (length (fields_from line start)) l g s in
      record { after_is = ap (λ (t : Taken A). t.out) e; count = (sym (ap (λ (t : Taken A). t.sound) e), le_antisymm l g) }

  pub not_all : (k at : ℕ) (out : List A) → at ≤ length line → test (field_at line at) ≡ false
      → WalkTo test value_of line (fields_from line start) before k at out → AllAt test value_of line start before out None
  unfolding taken
  not_all k at out h t w =
      let l = some_left line (fields_from line start) k at w.1 h in
      let e = stopped test value_of line (fields_from line start) before k (length (fields_from line start)) at out l t w in
      record { after_is = ap (λ (t : Taken A). t.out) e; count = sym (ap (λ (t : Taken A). t.sound) e) }

-- the counter and the place, a field further
pub behind : (k at next : ℕ) → k ≤ at → at < next → k + 1 ≤ next
behind k at next h l = omega arith

pub falls : (n at next : ℕ) → at ≤ n → at < next → n + 1 - next < n + 1 - at
falls n at next h l = omega arith

-- a number that has no room is left out
pub no_room : {A : Type 0} (out : List A) (k : ℕ) (x : A) → length out ≤ k → out ≡ set out k x
no_room out k x h = sym (set_out out k x h)
