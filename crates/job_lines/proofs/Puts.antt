-- An answer line and its LF, put into lent bytes from a place on. Assumes nothing.
use Prim.Native.Nat.{ℕ, suc, ◌+◌, ◌-◌, ◌≤◌, ◌<◌}
use native.Mathlib.Nat.{le_of_lt, add-zero, zero-add, le_trans, le-add_right}
use native.Mathlib.Omega.{arith}
use mathlib.Core.Bool.{Bool, true, false, cond}
use mathlib.Core.Path.{◌≡◌, refl, sym, ap, ◌∙◌, subst}
use mathlib.Core.List.{List, [], ◌∷◌, ◌++◌, append-nil, append_assoc}
use lib.Dec.{leb}
use lib.ListN.{set, length, take, drop, length-append, length-drop, take-append-drop}
use lib.Seq.{sets-eq, drop-append-le, drop-drop, drop-length, drop-nil, take-length, take-nil, length-take-le}
use borrow.Author.Tests.{leb-true, leb-false, le-leb, lt-leb}
use Rattle.error.specs.declared.Refusal.TheVariants.{Granted, Short}
use Rattle.error.specs.Refusals.{granted, open_refusals}
use Rattle.format_digits.specs.Stores.{put}
use Rattle.format_digits.proofs.Puts.{put_append, put_length}
use Rattle.format.specs.Fields.{line_feed}
use Rattle.job.specs.AnswerLines.{answer_line}
use Rattle.format.specs.Lines.{bytes_refusal, bytes_written}
use Rattle.job.specs.Stream.{answered}
use Rattle.job.proofs.Sizes.{answer_in_line}
use Rattle.error.specs.Carries.{told, carried_of, carried}
use Rattle.error.specs.declared.Carried.{Carried}
use Rattle.job_answer.specs.declared.Answered.{Answered}
use Rattle.job_answer.specs.Writing.{bytes_answered}
use Rattle.job_lines.specs.declared.Put.{Put}
use Rattle.job_lines.specs.Wire.{answer_fits, answer_put, needed_by, put_written}

-- ---- what a write of these bytes answered

module _ (bytes l : List ℕ) (x : Answered) (e : x ≡ bytes_answered bytes l) (g : Bool) (h : g ≡ granted x.refusal) where
  tested : g ≡ leb (length bytes) (length l)
  unfolding bytes_answered bytes_refusal open_refusals
  tested = h ∙ ap (λ (y : Answered). granted y.refusal) e ∙ go (leb (length bytes) (length l))
    where
      go : (t : Bool) → granted (cond t Granted (Short (length bytes))) ≡ t
      go true = refl
      go false = refl

  pub fitted : g ≡ true → length bytes ≤ length l
  fitted q = leb-true (length bytes) (length l) (sym tested ∙ q)

  pub unfitted : g ≡ false → length l < length bytes
  unfitted q = leb-false (length bytes) (length l) (sym tested ∙ q)

  pub counted : g ≡ true → x.count ≡ length bytes
  unfolding bytes_answered
  counted q = ap (λ (y : Answered). y.count) e ∙ ap (λ (t : Bool). cond t (length bytes) 0) (sym tested ∙ q)

  pub stored : g ≡ true → (w : List ℕ) → w ≡ bytes_written bytes l → w ≡ bytes ++ drop (length bytes) l
  unfolding bytes_written
  stored q w r = r ∙ ap (λ (t : Bool). cond t (bytes ++ drop (length bytes) l) l) (sym tested ∙ q)

  pub unstored : g ≡ false → (w : List ℕ) → w ≡ bytes_written bytes l → w ≡ l
  unfolding bytes_written
  unstored q w r = r ∙ ap (λ (t : Bool). cond t (bytes ++ drop (length bytes) l) l) (sym tested ∙ q)

answered_size : (line : List ℕ) → length (answered line) ≡ length (answer_line line) + 1
unfolding answered
answered_size line = length-append (answer_line line) (line_feed ∷ [])

-- ---- how many bytes an answer has, by what its write answered

both_is : (bytes l : List ℕ) → (bytes_answered bytes l).count + (carried (bytes_answered bytes l).refusal).first ≡ length bytes
unfolding bytes_answered bytes_refusal carried carried_of told open_refusals
both_is bytes l = go (leb (length bytes) (length l))
  where
    go : (t : Bool) → cond t (length bytes) 0 + (carried (cond t Granted (Short (length bytes)))).first ≡ length bytes
    go true = add-zero (length bytes)
    go false = zero-add (length bytes)

module _ (line l : List ℕ) (x : Answered) (e : x ≡ bytes_answered (answer_line line) l) where
  both_line : x.count + (carried x.refusal).first ≡ length (answer_line line)
  both_line = ap (λ (y : Answered). y.count + (carried y.refusal).first) e ∙ both_is (answer_line line) l

  pub needed_in : x.count + (carried x.refusal).first ≤ 16384
  needed_in = subst (λ (n : ℕ). n ≤ 16384) (sym both_line) (answer_in_line line)

  pub needed_is : needed_by x ≡ length (answered line)
  unfolding needed_by
  needed_is = ap (λ (n : ℕ). n + 1) both_line ∙ sym (answered_size line)

-- the same, of the struct that the code reads
module _ (a : Answered) (x : Carried) (e : x ≡ carried a.refusal) where
  pub both_fits : a.count + (carried a.refusal).first ≤ 16384 → a.count + x.first ≤ 16384
  both_fits h = subst (λ (y : Carried). a.count + y.first ≤ 16384) (sym e) h

  pub both_told : a.count + x.first + 1 ≡ needed_by a
  unfolding needed_by
  both_told = ap (λ (y : Carried). a.count + y.first + 1) e

-- a write to no bytes changes none
pub none_written : (bytes l w : List ℕ) → w ≡ bytes_written bytes (take (length l - length l) (drop (length l) l))
    → take (length l) l ++ (w ++ drop (length l - length l) (drop (length l) l)) ≡ l
unfolding bytes_written
none_written bytes l w r =
    ap (λ (m : List ℕ). take (length l) l ++ m) (ap (λ (m : List ℕ). w ++ m) (ap (drop (length l - length l)) (drop-length l) ∙ drop-nil (length l - length l)) ∙ append-nil w
    ∙ r ∙ ap (bytes_written bytes) (ap (take (length l - length l)) (drop-length l) ∙ take-nil (length l - length l)) ∙ go bytes)
    ∙ append-nil (take (length l) l)
    ∙ take-length l
  where
    go : (b : List ℕ) → bytes_written b [] ≡ []
    go [] = refl
    go (y ∷ b) = rw (lt-leb (suc (length b)) 0 (some (length b))) refl
      where
        some : (n : ℕ) → 0 < suc n
        some n = omega arith

-- ---- the answer in the part of the output

does_fit : (line l : List ℕ) (used : ℕ) → used + length (answer_line line) < length l → answer_fits line l used ≡ true
unfolding answer_fits
does_fit line l used h = le-leb (used + length (answered line)) (length l) (subst (λ (n : ℕ). used + n ≤ length l) (sym (answered_size line)) (one used (length (answer_line line)) (length l) h))
  where
    one : (a b c : ℕ) → a + b < c → a + (b + 1) ≤ c
    one a b c q = omega arith

does_not : (line l : List ℕ) (used : ℕ) → length l ≤ used + length (answer_line line) → answer_fits line l used ≡ false
unfolding answer_fits
does_not line l used h = lt-leb (used + length (answered line)) (length l) (subst (λ (n : ℕ). length l < used + n) (sym (answered_size line)) (one used (length (answer_line line)) (length l) h))
  where
    one : (a b c : ℕ) → c ≤ a + b → c < a + (b + 1)
    one a b c q = omega arith

pub not_told : (line l : List ℕ) (used n : ℕ) → length l ≤ used + length (answer_line line) → n ≡ length (answered line)
    → ◌≡◌ {A = Put} (record { fits = false; used = used; needed = n }) (answer_put line l used)
unfolding answer_put
not_told line l used n h q = rw (does_not line l used h, q) refl

pub not_written : (line l w : List ℕ) (used : ℕ) → length l ≤ used + length (answer_line line) → w ≡ l → w ≡ put_written line l used
unfolding put_written
not_written line l w used h q = q ∙ ap (λ (t : Bool). cond t (put l used (answered line)) l) (sym (does_not line l used h))

last_put : (l : List ℕ) (used : ℕ) (xs : List ℕ) → set (put l used xs) (used + length xs) 10 ≡ put l used (xs ++ line_feed ∷ [])
unfolding put
last_put l used xs = sym (put_append l used xs (line_feed ∷ []))

module _ (line l : List ℕ) (used : ℕ) (h : used < length l) where
  size : ℕ
  size = length l - 1 - used

  part : List ℕ
  part = take size (drop used l)

  part_size : length part ≡ length l - 1 - used
  unfolding part size
  part_size = length-take-le (length l - 1 - used) (drop used l) (subst (λ (n : ℕ). length l - 1 - used ≤ n) (sym (length-drop used l)) (less (length l) used))
    where
      less : (n u : ℕ) → n - 1 - u ≤ n - u
      less n u = omega arith

  module _ (x : Answered) (e : x ≡ bytes_answered (answer_line line) (take (length l - 1 - used) (drop used l))) (g : Bool) (q : g ≡ granted x.refusal) where
    module _ (t : g ≡ true) where
      in_part : length (answer_line line) ≤ length l - 1 - used
      unfolding part size
      in_part = subst (λ (n : ℕ). length (answer_line line) ≤ n) part_size (fitted (answer_line line) part x e g q t)

      count_is : x.count ≡ length (answer_line line)
      count_is = counted (answer_line line) (take (length l - 1 - used) (drop used l)) x e g q t

      inside : used + length (answer_line line) < length l
      inside = sum used (length (answer_line line)) (length l) h in_part
        where
          sum : (u b n : ℕ) → u < n → b ≤ n - 1 - u → u + b < n
          sum u b n a c = omega arith

      pub end_in : used + x.count < length l
      end_in = subst (λ (n : ℕ). used + n < length l) (sym count_is) inside

      pub yes_told : ◌≡◌ {A = Put} (record { fits = true; used = used + x.count + 1; needed = x.count + 1 }) (answer_put line l used)
      unfolding answer_put
      yes_told =
          rw (does_fit line l used inside, count_is, answered_size line)
          (ap (λ (n : ℕ). record { fits = true; used = n; needed = length (answer_line line) + 1 }) (sum used (length (answer_line line))))
        where
          sum : (u b : ℕ) → u + b + 1 ≡ u + (b + 1)
          sum u b = omega arith

      -- the list with the part put back
      whole : (w : List ℕ) → w ≡ bytes_written (answer_line line) (take (length l - 1 - used) (drop used l))
          → take used l ++ (w ++ drop (length l - 1 - used) (drop used l)) ≡ put l used (answer_line line)
      unfolding put part size
      whole w r =
          ap (λ (m : List ℕ). take used l ++ (m ++ drop (length l - 1 - used) (drop used l))) (stored (answer_line line) part x e g q t w r)
          ∙ ap (λ (m : List ℕ). take used l ++ m) (append_assoc (answer_line line) (drop (length (answer_line line)) part) (drop (length l - 1 - used) (drop used l))
          ∙ ap (λ (m : List ℕ). answer_line line ++ m) (sym (drop-append-le (length (answer_line line)) part (drop (length l - 1 - used) (drop used l)) (subst (λ (n : ℕ). length (answer_line line) ≤ n) (sym part_size) in_part))
          ∙ ap (λ (m : List ℕ). drop (length (answer_line line)) m) (take-append-drop (length l - 1 - used) (drop used l))
          ∙ drop-drop (length (answer_line line)) used l))
          ∙ sym (append_assoc (take used l) (answer_line line) (drop (used + length (answer_line line)) l))
          ∙ sym (sets-eq (answer_line line) l used (le_of_lt inside))

      pub yes_written : (w : List ℕ) → w ≡ bytes_written (answer_line line) (take (length l - 1 - used) (drop used l))
          → set (take used l ++ (w ++ drop (length l - 1 - used) (drop used l))) (used + x.count) 10 ≡ put_written line l used
      unfolding put_written answered
      yes_written w r =
          ap (λ (m : List ℕ). set m (used + x.count) 10) (whole w r)
          ∙ ap (λ (n : ℕ). set (put l used (answer_line line)) (used + n) 10) count_is
          ∙ one_put
          ∙ ap (λ (z : Bool). cond z (put l used (answer_line line ++ line_feed ∷ [])) l) (sym (does_fit line l used inside))
        where
          one_put : set (put l used (answer_line line)) (used + length (answer_line line)) 10 ≡ put l used (answer_line line ++ line_feed ∷ [])
          one_put = last_put l used (answer_line line)

      pub yes_size : (w : List ℕ) → w ≡ bytes_written (answer_line line) (take (length l - 1 - used) (drop used l))
          → used + x.count < length (take used l ++ (w ++ drop (length l - 1 - used) (drop used l)))
      yes_size w r = subst (λ (n : ℕ). used + x.count < n) (sym (ap length (whole w r) ∙ put_length l used (answer_line line))) end_in

    module _ (t : g ≡ false) where
      past : length l ≤ used + length (answer_line line)
      unfolding part size
      past = sum used (length (answer_line line)) (length l) h (subst (λ (n : ℕ). n < length (answer_line line)) part_size (unfitted (answer_line line) part x e g q t))
        where
          sum : (u b n : ℕ) → u < n → n - 1 - u < b → n ≤ u + b
          sum u b n a c = omega arith

      pub no_told : (n : ℕ) → n ≡ needed_by x → ◌≡◌ {A = Put} (record { fits = false; used = used; needed = n }) (answer_put line l used)
      no_told n z = not_told line l used n past (z ∙ needed_is line (take (length l - 1 - used) (drop used l)) x e)

      pub no_written : (w : List ℕ) → w ≡ bytes_written (answer_line line) (take (length l - 1 - used) (drop used l))
          → take used l ++ (w ++ drop (length l - 1 - used) (drop used l)) ≡ put_written line l used
      unfolding part size
      no_written w r =
          not_written line l _ used past
          (ap (λ (m : List ℕ). take used l ++ (m ++ drop (length l - 1 - used) (drop used l))) (unstored (answer_line line) part x e g q t w r)
          ∙ ap (λ (m : List ℕ). take used l ++ m) (take-append-drop (length l - 1 - used) (drop used l))
          ∙ take-append-drop used l)

-- where no byte is left
module _ (line l : List ℕ) (used : ℕ) (h : length l ≤ used) where
  past_end : length l ≤ used + length (answer_line line)
  past_end = le_trans h (le-add_right used (length (answer_line line)))

  pub end_told : (m : List ℕ) (x : Answered) → x ≡ bytes_answered (answer_line line) m → (n : ℕ) → n ≡ needed_by x
      → ◌≡◌ {A = Put} (record { fits = false; used = used; needed = n }) (answer_put line l used)
  end_told m x e n z = not_told line l used n past_end (z ∙ needed_is line m x e)

  pub end_written : (w : List ℕ) → w ≡ bytes_written (answer_line line) (take (length l - length l) (drop (length l) l))
      → take (length l) l ++ (w ++ drop (length l - length l) (drop (length l) l)) ≡ put_written line l used
  end_written w r = not_written line l _ used past_end (none_written (answer_line line) l w r)
