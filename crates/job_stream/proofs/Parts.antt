-- Where a line of a block ends, and what is held of it. Assumes nothing.
use Prim.Native.Nat.{ℕ, suc, ◌+◌, ◌-◌, ◌≤◌, ◌<◌}
use native.Mathlib.Nat.{le_refl, le_of_lt, le_of_eq, min-eq_left, min-eq_right, le-add_right, add-zero, add-suc, suc-add}
use native.Mathlib.Numerals.{add-one}
use native.Mathlib.Omega.{arith}
use mathlib.Core.Bool.{Bool, true, false, cond}
use mathlib.Core.Path.{◌≡◌, refl, sym, ap, ◌∙◌, subst}
use mathlib.Core.List.{List, []}
use Rattle.std.proofs.Common.{min, max}
use lib.Dec.{leb}
use lib.ListN.{get_or, length, take, drop, length-drop, drop_of_length-le}
use lib.Seq.{take_all, take-nil, drop-cons, drop-length, length-take-le}
use borrow.Author.Tests.{leb-true, leb-false, lt-ltb, le-ltb, eq-eqb, ne_eqb}
use Rattle.format.specs.Fields.{line_feed}
use Rattle.format_digits.specs.Stores.{put}
use Rattle.job_stream.specs.declared.Next.{Next}
use Rattle.job_stream.specs.Feeding.{before_by, before_feed, line_end, line_part, most_held, held_with, count_with, is_ended, is_direct, next_count, next_held, next_of}

-- ---- the walk to the LF

module _ (block : List ℕ) where
  pub end_past : (k : ℕ) → length block ≤ k → line_end block k ≡ k
  unfolding line_end before_feed
  end_past k h = ap (λ (l : List ℕ). k + before_feed l) (drop_of_length-le block h) ∙ add-zero k

  pub end_here : (k : ℕ) → k < length block → get_or block k 0 ≡ line_feed → line_end block k ≡ k
  unfolding line_end before_feed before_by
  end_here k l e =
      ap (λ (m : List ℕ). k + before_feed m) (drop-cons block k 0 l)
      ∙ ap (λ (t : Bool). k + before_by t (before_feed (drop (suc k) block))) (eq-eqb (get_or block k 0) line_feed e)
      ∙ add-zero k

  pub end_next : (k : ℕ) → k < length block → (get_or block k 0 ≡ line_feed → ⊥) → line_end block k ≡ line_end block (k + 1)
  unfolding line_end before_feed before_by
  end_next k l e =
      ap (λ (m : List ℕ). k + before_feed m) (drop-cons block k 0 l)
      ∙ ap (λ (t : Bool). k + before_by t (before_feed (drop (suc k) block))) (ne_eqb (get_or block k 0) line_feed e)
      ∙ add-suc k (before_feed (drop (suc k) block))
      ∙ sym (suc-add k (before_feed (drop (suc k) block)))
      ∙ ap (λ (n : ℕ). n + before_feed (drop n block)) (sym (add-one k))

  -- no LF is found
  pub end_none : (at k end : ℕ) → length block ≤ k → (at ≤ length block → k ≤ length block) → line_end block at ≡ line_end block k
      → end ≡ max (length block) at → end ≡ line_end block at
  end_none at k end l h e c = go (leb at (length block)) refl
    where
      last : (n : ℕ) → n ≤ k → k ≤ n → at ≤ n → end ≡ max n at → end ≡ k
      last n a b d m = omega arith

      none : (n : ℕ) → n < at → end ≡ max n at → end ≡ at
      none n d m = omega arith

      go : (t : Bool) → leb at (length block) ≡ t → end ≡ line_end block at
      go true g = let d = leb-true at (length block) g in last (length block) l (h d) d c ∙ sym (e ∙ end_past k l)
      go false g = let d = leb-false at (length block) g in none (length block) d c ∙ sym (end_past at (le_of_lt d))

  pub end_from : (at : ℕ) → at ≤ line_end block at
  unfolding line_end
  end_from at = le-add_right at (before_feed (drop at block))

-- ---- what is held

module _ (part : List ℕ) (count room n : ℕ) (e : room ≡ most_held - count) (h : n ≡ min (length part) room) where
  least : n ≡ min (length part) (most_held - count)
  least = h ∙ ap (λ (m : ℕ). min (length part) m) e

  pub in_part : n ≤ length part
  in_part = omega (arith, least)

  pub in_room : n ≤ most_held - count
  in_room = omega (arith, least)

  first_bytes : take n part ≡ take (most_held - count) part
  first_bytes = go (leb (length part) (most_held - count)) refl
    where
      go : (t : Bool) → leb (length part) (most_held - count) ≡ t → take n part ≡ take (most_held - count) part
      go true g =
          let l = leb-true (length part) (most_held - count) g in
          take_all n part (subst (λ (k : ℕ). length part ≤ k) (sym (least ∙ min-eq_left l)) (le_refl (length part))) ∙ sym (take_all (most_held - count) part l)
      go false g = ap (λ (k : ℕ). take k part) (least ∙ min-eq_right (le_of_lt (leb-false (length part) (most_held - count) g)))

  pub counted : count + n ≡ count_with count part
  unfolding count_with
  counted = ap (λ (k : ℕ). count + k) (sym (length-take-le n part in_part) ∙ ap length first_bytes)

  pub holds : (held after : List ℕ) → after ≡ put held count (take n part) → after ≡ held_with held count part
  unfolding held_with
  holds held after q = q ∙ ap (λ (l : List ℕ). put held count l) first_bytes

  pub counts_part : n ≡ length (take n part)
  counts_part = sym (length-take-le n part in_part)

-- ---- the next line

module _ (block : List ℕ) (at stop : ℕ) (e : stop ≡ line_end block at) where
  pub stop_from : at ≤ stop
  stop_from = subst (λ (n : ℕ). at ≤ n) (sym e) (end_from block at)

  part_is : take (stop - at) (drop at block) ≡ line_part block at
  unfolding line_part line_end
  part_is = ap (λ (n : ℕ). take n (drop at block)) (less at (before_feed (drop at block)) stop e)
    where
      less : (a p s : ℕ) → s ≡ a + p → s - a ≡ p
      less a p s h = omega arith

  is_found : stop < length block → is_ended block at ≡ true
  unfolding is_ended
  is_found l = lt-ltb (line_end block at) (length block) (subst (λ (n : ℕ). n < length block) e l)

  is_cut : length block ≤ stop → is_ended block at ≡ false
  unfolding is_ended
  is_cut l = le-ltb (line_end block at) (length block) (subst (λ (n : ℕ). length block ≤ n) e l)

  found_direct : (count : ℕ) → stop < length block → count ≡ 0 → is_direct block at count ≡ true
  unfolding is_direct
  found_direct count l z = rw (is_found l, eq-eqb count 0 z) refl

  found_held : (count : ℕ) → stop < length block → (count ≡ 0 → ⊥) → is_direct block at count ≡ false
  unfolding is_direct
  found_held count l z = rw (is_found l, ne_eqb count 0 z) refl

  cut_held : (count : ℕ) → length block ≤ stop → is_direct block at count ≡ false
  unfolding is_direct
  cut_held count l = rw (is_cut l) refl

  -- what is found, by what the two tests say
  found_as : (count n : ℕ) (ended direct : Bool) → is_ended block at ≡ ended → is_direct block at count ≡ direct → n ≡ cond direct count (count_with count (line_part block at))
      → ◌≡◌ {A = Next} (record { stop = stop; ended = ended; direct = direct; count = n }) (next_of block at count)
  unfolding next_of next_count
  found_as count n ended direct a b q = rw (a, b, e, q) refl

  held_as : (count : ℕ) (held after : List ℕ) (direct : Bool) → is_direct block at count ≡ direct → after ≡ cond direct held (held_with held count (line_part block at))
      → after ≡ next_held block at held count
  unfolding next_held
  held_as count held after direct b q = q ∙ ap (λ (t : Bool). cond t held (held_with held count (line_part block at))) (sym b)

  pub direct_next : (count : ℕ) → stop < length block → count ≡ 0 → ◌≡◌ {A = Next} (record { stop = stop; ended = true; direct = true; count = 0 }) (next_of block at count)
  direct_next count l z = found_as count 0 true true (is_found l) (found_direct count l z) (sym z)

  pub direct_kept : (count : ℕ) (held : List ℕ) → stop < length block → count ≡ 0 → held ≡ next_held block at held count
  direct_kept count held l z = held_as count held held true (found_direct count l z) refl

  pub held_next : (count n : ℕ) → stop < length block → (count ≡ 0 → ⊥) → n ≡ count_with count (take (stop - at) (drop at block))
      → ◌≡◌ {A = Next} (record { stop = stop; ended = true; direct = false; count = n }) (next_of block at count)
  held_next count n l z q = found_as count n true false (is_found l) (found_held count l z) (q ∙ ap (λ (p : List ℕ). count_with count p) part_is)

  pub held_kept : (count : ℕ) (held after : List ℕ) → stop < length block → (count ≡ 0 → ⊥) → after ≡ held_with held count (take (stop - at) (drop at block)) → after ≡ next_held block at held count
  held_kept count held after l z q = held_as count held after false (found_held count l z) (q ∙ ap (λ (p : List ℕ). held_with held count p) part_is)

  module _ (from : ℕ) (h : from ≡ min at (length block)) where
    pub from_in : from ≤ length block
    from_in = omega arith

    rest_part : length block ≤ stop → take (length block - from) (drop from block) ≡ line_part block at
    unfolding line_part line_end
    rest_part l = go (leb at (length block)) refl
      where
        all : (a p m s : ℕ) → m ≤ s → s ≡ a + p → m - a ≤ p
        all a p m s x y = omega arith

        go : (t : Bool) → leb at (length block) ≡ t → take (length block - from) (drop from block) ≡ take (before_feed (drop at block)) (drop at block)
        go true g =
            ap (λ (n : ℕ). take (length block - n) (drop n block)) (h ∙ min-eq_left (leb-true at (length block) g))
            ∙ take_all (length block - at) (drop at block) (le_of_eq (length-drop at block))
            ∙ sym (take_all (before_feed (drop at block)) (drop at block) (subst (λ (n : ℕ). n ≤ before_feed (drop at block)) (sym (length-drop at block)) (all at (before_feed (drop at block)) (length block) stop l e)))
        go false g =
            ap (λ (n : ℕ). take (length block - n) (drop n block)) (h ∙ min-eq_right (le_of_lt (leb-false at (length block) g)))
            ∙ ap (λ (m : List ℕ). take (length block - length block) m) (drop-length block)
            ∙ take-nil (length block - length block)
            ∙ sym (ap (λ (m : List ℕ). take (before_feed m) m) (drop_of_length-le block (le_of_lt (leb-false at (length block) g))) ∙ take-nil (before_feed []))

    pub cut_next : (count n : ℕ) → length block ≤ stop → n ≡ count_with count (take (length block - from) (drop from block))
        → ◌≡◌ {A = Next} (record { stop = stop; ended = false; direct = false; count = n }) (next_of block at count)
    cut_next count n l q = found_as count n false false (is_cut l) (cut_held count l) (q ∙ ap (λ (p : List ℕ). count_with count p) (rest_part l))

    pub cut_kept : (count : ℕ) (held after : List ℕ) → length block ≤ stop → after ≡ held_with held count (take (length block - from) (drop from block)) → after ≡ next_held block at held count
    cut_kept count held after l q = held_as count held after false (cut_held count l) (q ∙ ap (λ (p : List ℕ). held_with held count p) (rest_part l))
