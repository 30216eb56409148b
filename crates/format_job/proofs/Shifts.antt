-- The lists of a line by its own fields: those after the first m. Assumes nothing.
use Prim.Native.Nat.{ℕ, ◌+◌, ◌-◌}
use native.Mathlib.Nat.{zero-add, add_assoc}
use native.Mathlib.Omega.{arith}
use mathlib.Core.Bool.{Bool, true, false, cond, ◌&&◌}
use mathlib.Core.Path.{◌≡◌, refl, sym, ap, ◌∙◌}
use mathlib.Core.List.{List, [], ◌∷◌, ◌++◌}
use lib.Ieee.{Float}
use lib.ListN.{get_or, length, drop, length-drop}
use lib.Seq.{get_or-drop}
use Rattle.base.proofs.Laws.{rounds_same}
use Rattle.error.specs.declared.Refusal.TheVariants.{Job}
use Rattle.format.specs.Numerals.{is_float, float_of, is_count, count_of}
use Rattle.format.specs.Lines.{are_counts, counts_test_step, counts_of, counts_step, are_floats, floats_test_step, floats_of, floats_step}
use Rattle.format.specs.JobLines.{numbers_formed, coordinate_count}
use Rattle.base.proofs.Elements.{made_length}
use Rattle.format_job.specs.Reads.{front_written, room_refusal, lists_formed, lists_refusal}

module _ (fs : List (List ℕ)) (m r : ℕ) where
  count_field : (k : ℕ) → get_or (drop m fs) (0 + k) [] ≡ get_or fs (m + k) []
  count_field k = ap (λ (i : ℕ). get_or (drop m fs) i []) (zero-add k) ∙ get_or-drop m fs k []

  float_field : (k : ℕ) → get_or (drop m fs) (r + k) [] ≡ get_or fs (m + r + k) []
  float_field k = get_or-drop m fs (r + k) [] ∙ ap (λ (i : ℕ). get_or fs i []) (sym (add_assoc m r k))

  pub number_count : length (drop m fs) - r ≡ length fs - (m + r)
  number_count = ap (λ (n : ℕ). n - r) (length-drop m fs) ∙ less (length fs) m r
    where
      less : (a b c : ℕ) → a - b - c ≡ a - (b + c)
      less a b c = omega arith

  counts_one : (k : ℕ) (s : Bool) → counts_test_step (drop m fs) 0 k s ≡ counts_test_step fs m k s
  unfolding counts_test_step
  counts_one k s = ap (λ (f : List ℕ). s && is_count f) (count_field k)

  counts_two : (k : ℕ) (s : List ℕ) → counts_step (drop m fs) 0 k s ≡ counts_step fs m k s
  unfolding counts_step
  counts_two k s = ap (λ (f : List ℕ). s ++ count_of f ∷ []) (count_field k)

  floats_one : (k : ℕ) (s : Bool) → floats_test_step (drop m fs) r k s ≡ floats_test_step fs (m + r) k s
  unfolding floats_test_step
  floats_one k s = ap (λ (f : List ℕ). s && is_float f) (float_field k)

  floats_two : (k : ℕ) (s : List Float) → floats_step (drop m fs) r k s ≡ floats_step fs (m + r) k s
  unfolding floats_step
  floats_two k s = ap (λ (f : List ℕ). s ++ float_of f ∷ []) (float_field k)

  counts_tested : are_counts (drop m fs) 0 r ≡ are_counts fs m r
  unfolding are_counts
  counts_tested = rounds_same (counts_test_step (drop m fs) 0) (counts_test_step fs m) r true (λ k l s. counts_one k s)

  pub counts_same : counts_of (drop m fs) 0 r ≡ counts_of fs m r
  unfolding counts_of
  counts_same = rounds_same (counts_step (drop m fs) 0) (counts_step fs m) r [] (λ k l s. counts_two k s)

  floats_tested : (n : ℕ) → are_floats (drop m fs) r n ≡ are_floats fs (m + r) n
  unfolding are_floats
  floats_tested n = rounds_same (floats_test_step (drop m fs) r) (floats_test_step fs (m + r)) n true (λ k l s. floats_one k s)

  coordinates_first : (n : ℕ) → floats_of (drop m fs) r n ≡ floats_of fs (m + r) n
  unfolding floats_of
  coordinates_first n = rounds_same (floats_step (drop m fs) r) (floats_step fs (m + r)) n [] (λ k l s. floats_two k s)

  pub coordinates_same : floats_of (drop m fs) r (length (drop m fs) - r) ≡ floats_of fs (m + r) (length fs - (m + r))
  coordinates_same = coordinates_first (length (drop m fs) - r) ∙ ap (λ (n : ℕ). floats_of fs (m + r) n) number_count

  pub formed_same : lists_formed (drop m fs) r ≡ (are_counts fs m r && are_floats fs (m + r) (length fs - (m + r)))
  unfolding lists_formed
  formed_same =
      ap (λ (t : Bool). t && are_floats (drop m fs) r (length (drop m fs) - r)) counts_tested
      ∙ ap (λ (t : Bool). are_counts fs m r && t) (floats_tested (length (drop m fs) - r) ∙ ap (λ (n : ℕ). are_floats fs (m + r) n) number_count)

  pub counts_size : length (counts_of fs m r) ≡ r
  unfolding counts_of counts_step
  counts_size = made_length (λ k. count_of (get_or fs (m + k) [])) r

  pub coordinates_size : length (floats_of fs (m + r) (length fs - (m + r))) ≡ length (drop m fs) - r
  unfolding floats_of floats_step
  coordinates_size = made_length (λ k. float_of (get_or fs (m + r + k) [])) (length fs - (m + r)) ∙ sym number_count

  pub room_same : (counts : List ℕ) (numbers : List Float) → lists_formed (drop m fs) r ≡ true
      → room_refusal (length (counts_of fs m r)) (length (floats_of fs (m + r) (length fs - (m + r)))) counts numbers ≡ lists_refusal (drop m fs) r counts numbers
  unfolding lists_refusal
  room_same counts numbers e = rw (e, counts_size, coordinates_size) refl

pub numbers_same : (fs : List (List ℕ)) (r : ℕ) → lists_formed (drop 3 fs) r ≡ numbers_formed fs r
unfolding numbers_formed coordinate_count
numbers_same fs r = formed_same fs 3 r

pub refusal_no : (gs : List (List ℕ)) (r : ℕ) (counts : List ℕ) (numbers : List Float) → lists_formed gs r ≡ false → Job ≡ lists_refusal gs r counts numbers
unfolding lists_refusal
refusal_no gs r counts numbers e = ap (λ (t : Bool). cond t (room_refusal r (length gs - r) counts numbers) Job) (sym e)

pub after_same : {A : Type 0} (t : Bool) (xs ys out : List A) → (t ≡ true → xs ≡ ys) → front_written t xs out ≡ front_written t ys out
unfolding front_written
after_same true xs ys out h = ap (λ (zs : List _). zs ++ drop (length zs) out) (h refl)
after_same false xs ys out h = refl
