-- What the lent memory holds after the walks. Assumes nothing.
use Prim.Native.Nat.{ℕ, zero, suc, ◌+◌, ◌≤◌, ◌<◌}
use native.Mathlib.Nat.{le_of_lt}
use mathlib.Core.Bool.{Bool, true, false, cond, ◌&&◌}
use mathlib.Mathlib.Data.Bool.Basic.{and_elim_left}
use mathlib.Core.Path.{◌≡◌, refl, sym, ap, ◌∙◌, subst}
use mathlib.Core.List.{List, [], ◌∷◌, ◌++◌, append_assoc}
use lib.ListN.{get_or, set, length, drop}
use lib.Seq.{get_or-drop, drop-cons, set_at}
use Rattle.base.specs.Loop.{rounds}
use Rattle.base.proofs.Laws.{rounds_same}
use Rattle.base.proofs.Elements.{made, made_length}
use Rattle.format_job.specs.Reads.{Taken, take_number, taken}
use Rattle.format_job.proofs.Takes.{going, left}
use Rattle.format_job.proofs.Parses.{taken_tests}

module _ {A : Type 0} (test : List ℕ → Bool) (value_of : List ℕ → A) (fs : List (List ℕ)) (before : List A) where
  -- ---- where every field was a number, they stand at the front

  written : (n : ℕ) (xs : List A) (x : A) → length xs ≡ n → n < length before → set (xs ++ drop n before) n x ≡ (xs ++ x ∷ []) ++ drop (suc n) before
  written n xs x e l =
      ap (λ (ys : List A). set (xs ++ ys) n x) (drop-cons before n x l)
      ∙ set_at xs (get_or before n x) (drop (suc n) before) x n e
      ∙ sym (append_assoc xs (x ∷ []) (drop (suc n) before))

  one_written : (n : ℕ) (s : Taken A) (b : Bool) → b ≡ true → (cond b (going (set s.out n (value_of (get_or fs n [])))) (left s.out)).out ≡ set s.out n (value_of (get_or fs n []))
  one_written n s b e = ap (λ (t : Bool). (cond t (going (set s.out n (value_of (get_or fs n [])))) (left s.out)).out) e

  pub taken_held : (n : ℕ) → n ≤ length before → (taken test value_of fs n before).sound ≡ true
      → (taken test value_of fs n before).out ≡ made (λ k. value_of (get_or fs k [])) n ++ drop n before
  unfolding taken take_number rounds
  taken_held zero l e = refl
  taken_held (suc n) l e =
      one_written n (taken test value_of fs n before) ((taken test value_of fs n before).sound && test (get_or fs n [])) both
      ∙ ap (λ (xs : List A). set xs n (value_of (get_or fs n []))) (taken_held n (le_of_lt l) (and_elim_left (taken test value_of fs n before).sound (test (get_or fs n [])) both))
      ∙ written n (made (λ k. value_of (get_or fs k [])) n) (value_of (get_or fs n [])) (made_length (λ k. value_of (get_or fs k [])) n) l
    where
      both : ((taken test value_of fs n before).sound && test (get_or fs n [])) ≡ true
      both = sym (one_sound ((taken test value_of fs n before).sound && test (get_or fs n []))) ∙ e
        where
          one_sound : (b : Bool) → (cond b (going (set (taken test value_of fs n before).out n (value_of (get_or fs n [])))) (left (taken test value_of fs n before).out)).sound ≡ b
          one_sound true = refl
          one_sound false = refl

-- ---- n numbers of fields from field m on

module _ {A : Type 0} (test : List ℕ → Bool) (value_of : List ℕ → A) (fs : List (List ℕ)) (m n : ℕ) (before : List A) where
  pub held_from : (xs after : List A) → xs ≡ made (λ k. value_of (get_or fs (m + k) [])) n → after ≡ (taken test value_of (drop m fs) n before).out
      → rounds (λ k s. s && test (get_or fs (m + k) [])) n true ≡ true → length xs ≤ length before → after ≡ xs ++ drop (length xs) before
  held_from xs after x a t l =
      a
      ∙ taken_held test value_of (drop m fs) before n (subst (λ (i : ℕ). i ≤ length before) size l) (taken_tests test value_of fs m n before ∙ t)
      ∙ ap (λ (ys : List A). ys ++ drop n before) (rounds_same (λ k ys. ys ++ value_of (get_or (drop m fs) k []) ∷ [])
      (λ k ys. ys ++ value_of (get_or fs (m + k) []) ∷ []) n []
      (λ k l ys. ap (λ (f : List ℕ). ys ++ value_of f ∷ []) (get_or-drop m fs k [])) ∙ sym x)
      ∙ ap (λ (i : ℕ). xs ++ drop i before) (sym size)
    where
      size : length xs ≡ n
      size = ap length x ∙ made_length (λ k. value_of (get_or fs (m + k) [])) n
