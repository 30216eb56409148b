-- Lists of bytes that grow, and how long an answer line's parts are. Assumes nothing.
use Prim.Native.Nat.{ℕ, zero, suc, ◌+◌, ◌-◌, ◌*◌, ◌≤◌, ◌<◌}
use native.Mathlib.Nat.{add-zero, le_trans, le_antisymm, le_of_lt, mul-suc, mul-add}
use native.Mathlib.Omega.{arith}
use mathlib.Core.Bool.{Bool, true, false, cond}
use mathlib.Core.Path.{◌≡◌, refl, sym, ap, ◌∙◌, subst}
use mathlib.Core.List.{List, [], ◌∷◌, ◌++◌, append-nil, append_assoc}
use lib.Dec.{leb, ltb, lit≤}
use lib.ListN.{get_or, length, take, drop, length-append, length-drop}
use lib.Seq.{get_or-take, length-take-le}
use lib.Ieee.{Float, nan}
use borrow.Author.Tests.{leb-true}
use Rattle.base.specs.Loop.{rounds}
use Rattle.base.proofs.Laws.{no_round, next_round, rounds_same}
use Rattle.format.specs.Fields.{comma}
use Rattle.format.specs.Numerals.{digit_step, bits_digits, float_digits, count_digits}
use Rattle.format.specs.Lines.{with_field, float_field_step, with_floats}
use Rattle.base.proofs.Elements.{tested_at}
use Rattle.format_digits.specs.Stores.{put}
use Rattle.format_digits.proofs.Puts.{put_none, put_append}
use Rattle.job_answer.specs.Writing.{hole_fit_step, holes_fit, counts_bytes_step, counts_bytes, hole_numbers, holes_bytes_step, holes_bytes, vertices_step, hole_vertices}

-- ---- loops that only append

pub grown : {A : Type 0} (g : ℕ → List A) (n : ℕ) (line : List A) → rounds (λ k l. l ++ g k) n line ≡ line ++ rounds (λ k l. l ++ g k) n []
unfolding rounds
grown g zero line = sym (append-nil line)
grown g (suc n) line = ap (λ l. l ++ g n) (grown g n line) ∙ append_assoc line (rounds (λ k l. l ++ g k) n []) (g n)

-- the first round apart
pub first_apart : {A : Type 0} (g : ℕ → List A) (n : ℕ) → rounds (λ k l. l ++ g k) (suc n) [] ≡ g 0 ++ rounds (λ k l. l ++ g (suc k)) n []
unfolding rounds
first_apart g zero = sym (append-nil (g 0))
first_apart g (suc n) = ap (λ l. l ++ g (suc n)) (first_apart g n) ∙ append_assoc (g 0) (rounds (λ k l. l ++ g (suc k)) n []) (g (suc n))

-- ---- a field's length

pub float_size : (x : Float) → length (comma ∷ float_digits x) ≡ 17
unfolding float_digits bits_digits digit_step rounds
float_size x = refl

pub count_most : (n : ℕ) → length (comma ∷ count_digits n) ≤ 4
unfolding count_digits
count_most n = go (ltb n 10) (ltb n 100) _ _ _ _ _ _
  where
    go : (s t : Bool) (a b c d e f : ℕ) → length (comma ∷ cond s (a ∷ []) (cond t (b ∷ c ∷ []) (d ∷ e ∷ f ∷ []))) ≤ 4
    go true t a b c d e f = lit≤ tt
    go false true a b c d e f = lit≤ tt
    go false false a b c d e f = lit≤ tt

-- ---- the counts of the holes

pub hole_most : (counts : List ℕ) (holes k c : ℕ) → holes_fit counts holes ≡ true → k < holes → c ≡ get_or counts k 0 → c ≤ 32
unfolding holes_fit hole_fit_step
hole_most counts holes k c e l h = subst (λ (n : ℕ). n ≤ 32) (sym h) (leb-true (get_or counts k 0) 32 (tested_at holes (λ i. leb (get_or counts i 0) 32) e k l))

pub sum_next : (counts : List ℕ) (k c sum : ℕ) → c ≡ get_or counts k 0 → sum + c ≡ vertices_step counts k sum
unfolding vertices_step
sum_next counts k c sum h = ap (λ (n : ℕ). sum + n) h

-- ---- the bytes of the counts, up to hole k

pub no_counts : (counts : List ℕ) → counts_bytes counts 0 ≡ []
unfolding counts_bytes rounds
no_counts counts = refl

pub counts_next : (counts : List ℕ) (k c : ℕ) → c ≡ get_or counts k 0 → counts_bytes counts (k + 1) ≡ counts_bytes counts k ++ comma ∷ count_digits c
unfolding counts_bytes counts_bytes_step
counts_next counts k c h = next_round (counts_bytes_step counts) k [] ∙ ap (λ (n : ℕ). counts_bytes counts k ++ comma ∷ count_digits n) (sym h)

pub size_next : (counts : List ℕ) (k c size more : ℕ) → c ≡ get_or counts k 0 → more ≡ length (comma ∷ count_digits c) → size ≡ length (counts_bytes counts k)
    → size + more ≡ length (counts_bytes counts (k + 1))
size_next counts k c size more h e q =
    ap (λ (n : ℕ). n + more) q ∙ ap (λ (n : ℕ). length (counts_bytes counts k) + n) e ∙ sym (length-append (counts_bytes counts k) (comma ∷ count_digits c))
    ∙ ap length (sym (counts_next counts k c h))

pub size_most : (k size more c : ℕ) → size ≤ 4 * k → more ≡ length (comma ∷ count_digits c) → size + more ≤ 4 * (k + 1)
size_most k size more c h e = plus k size more h (subst (λ (n : ℕ). n ≤ 4) (sym e) (count_most c))
  where
    plus : (k x y : ℕ) → x ≤ 4 * k → y ≤ 4 → x + y ≤ 4 * (k + 1)
    plus k x y a b = omega arith

pub size_more : (more c : ℕ) → more ≡ length (comma ∷ count_digits c) → more ≤ 4
size_more more c e = subst (λ (n : ℕ). n ≤ 4) (sym e) (count_most c)

-- what is stored from `here` on continues what was stored from `at` on
pub put_more : (l : List ℕ) (at here : ℕ) (xs ys zs out after : List ℕ) → out ≡ put l at xs → here ≡ at + length xs → after ≡ put out here ys → zs ≡ xs ++ ys → after ≡ put l at zs
put_more l at here xs ys zs out after e h q z =
    q ∙ ap (λ (n : ℕ). put out n ys) h ∙ ap (λ (m : List ℕ). put m (at + length xs) ys) e ∙ sym (put_append l at xs ys) ∙ ap (λ (m : List ℕ). put l at m) (sym z)

pub put_counts_next : (counts : List ℕ) (l : List ℕ) (at here k c : ℕ) (out after : List ℕ)
    → out ≡ put l at (counts_bytes counts k) → here ≡ at + length (counts_bytes counts k) → c ≡ get_or counts k 0 → after ≡ put out here (comma ∷ count_digits c)
    → after ≡ put l at (counts_bytes counts (k + 1))
put_counts_next counts l at here k c out after e h d q =
    put_more l at here (counts_bytes counts k) (comma ∷ count_digits c) (counts_bytes counts (k + 1)) out after e h q (counts_next counts k c d)

pub here_next : (counts : List ℕ) (at here k c more : ℕ) → here ≡ at + length (counts_bytes counts k) → c ≡ get_or counts k 0 → more ≡ length (comma ∷ count_digits c)
    → here + more ≡ at + length (counts_bytes counts (k + 1))
here_next counts at here k c more h d e = sum at here (length (counts_bytes counts k)) more (length (counts_bytes counts (k + 1))) h (size_next counts k c _ more d e refl)
  where
    sum : (a h x m y : ℕ) → h ≡ a + x → x + m ≡ y → h + m ≡ a + y
    sum a h x m y p q = omega arith

-- ---- the bytes of the first n numbers

module _ (ps : List Float) where
  pub floats_next : (k : ℕ) → rounds (float_field_step ps) (k + 1) [] ≡ rounds (float_field_step ps) k [] ++ comma ∷ float_digits (get_or ps k nan)
  unfolding float_field_step with_field
  floats_next k = next_round (float_field_step ps) k []

  pub floats_size : (n : ℕ) → length (rounds (float_field_step ps) n []) ≡ 17 * n
  unfolding float_field_step with_field rounds
  floats_size zero = refl
  floats_size (suc n) =
      length-append (rounds (float_field_step ps) n []) (comma ∷ float_digits (get_or ps n nan))
      ∙ ap (λ (m : ℕ). m + length (comma ∷ float_digits (get_or ps n nan))) (floats_size n)
      ∙ ap (λ (m : ℕ). 17 * n + m) (float_size (get_or ps n nan))
      ∙ sym (mul-suc 17 n)

  pub floats_first : (n : ℕ) → n ≤ length ps → rounds (float_field_step ps) n [] ≡ with_floats (take n ps) []
  unfolding with_floats float_field_step
  floats_first n h =
      rounds_same (float_field_step ps) (float_field_step (take n ps)) n [] (λ k l t. ap (λ (x : Float). with_field t (float_digits x)) (sym (get_or-take n ps k nan l)))
      ∙ ap (λ (m : ℕ). rounds (float_field_step (take n ps)) m []) (sym (length-take-le n ps h))

  pub put_floats_next : (l : List ℕ) (at here k : ℕ) (field out after : List ℕ)
      → out ≡ put l at (rounds (float_field_step ps) k []) → here ≡ at + 17 * k → field ≡ comma ∷ float_digits (get_or ps k nan) → after ≡ put out here field
      → after ≡ put l at (rounds (float_field_step ps) (k + 1) [])
  put_floats_next l at here k field out after e h d q =
      put_more l at here (rounds (float_field_step ps) k []) (comma ∷ float_digits (get_or ps k nan)) (rounds (float_field_step ps) (k + 1) []) out after e
      (h ∙ ap (λ (m : ℕ). at + m) (sym (floats_size k))) (q ∙ ap (λ (f : List ℕ). put out here f) d) (floats_next k)

  pub put_floats_end : (l : List ℕ) (at n k : ℕ) (out : List ℕ) → n ≤ length ps → k ≤ n → n ≤ k → out ≡ put l at (rounds (float_field_step ps) k [])
      → out ≡ put l at (with_floats (take n ps) [])
  put_floats_end l at n k out h a b e =
      e ∙ ap (λ (m : ℕ). put l at (rounds (float_field_step ps) m [])) (le_antisymm a b) ∙ ap (λ (m : List ℕ). put l at m) (floats_first n h)

-- ---- where the walks start and end

pub sizes_end : (counts : List ℕ) (holes k size : ℕ) → k ≤ holes → holes ≤ k → size ≡ length (counts_bytes counts k) → size ≡ length (counts_bytes counts holes)
sizes_end counts holes k size a b e = e ∙ ap (λ (n : ℕ). length (counts_bytes counts n)) (le_antisymm a b)

pub here_start : (counts : List ℕ) (at : ℕ) → at ≡ at + length (counts_bytes counts 0)
here_start counts at = sym (add-zero at) ∙ ap (λ (l : List ℕ). at + length l) (sym (no_counts counts))

pub counts_start : (counts l : List ℕ) (at : ℕ) → l ≡ put l at (counts_bytes counts 0)
counts_start counts l at = sym (put_none l at) ∙ ap (λ (m : List ℕ). put l at m) (sym (no_counts counts))

pub counts_end : (counts l : List ℕ) (at holes k : ℕ) (out : List ℕ) → k ≤ holes → holes ≤ k → out ≡ put l at (counts_bytes counts k) → out ≡ put l at (counts_bytes counts holes)
counts_end counts l at holes k out a b e = e ∙ ap (λ (n : ℕ). put l at (counts_bytes counts n)) (le_antisymm a b)

pub floats_start : (ps : List Float) (l : List ℕ) (at : ℕ) → l ≡ put l at (rounds (float_field_step ps) 0 [])
floats_start ps l at = sym (put_none l at) ∙ ap (λ (m : List ℕ). put l at m) (sym (no_round (float_field_step ps) []))

-- ---- the coordinates of the holes, up to hole k

pub all_size : (fs : List Float) → length (with_floats fs []) ≡ 17 * length fs
unfolding with_floats
all_size fs = floats_size fs (length fs)

pub hole_length : (points : List Float) (k c : ℕ) → length points ≡ 512 → k < 8 → c ≤ 32 → length (take (2 * c) (drop (64 * k) points)) ≡ 2 * c
hole_length points k c e l h =
    length-take-le (2 * c) (drop (64 * k) points) (subst (λ (n : ℕ). 2 * c ≤ n) (sym (length-drop (64 * k) points ∙ ap (λ (n : ℕ). n - 64 * k) e)) (room k c l h))
  where
    room : (k c : ℕ) → k < 8 → c ≤ 32 → 2 * c ≤ 512 - 64 * k
    room k c l h = omega arith

module _ (points : List Float) (counts : List ℕ) where
  pub no_holes : holes_bytes points counts 0 ≡ []
  unfolding holes_bytes rounds
  no_holes = refl

  pub holes_next : (k c : ℕ) → c ≡ get_or counts k 0 → holes_bytes points counts (k + 1) ≡ holes_bytes points counts k ++ with_floats (take (2 * c) (drop (64 * k) points)) []
  unfolding holes_bytes holes_bytes_step hole_numbers
  holes_next k c h =
      next_round (holes_bytes_step points counts) k [] ∙ ap (λ (n : ℕ). holes_bytes points counts k ++ with_floats (take (2 * n) (drop (64 * k) points)) []) (sym h)

  module _ (e : length points ≡ 512) where
    pub hole_size : (k c : ℕ) → k < 8 → c ≤ 32 → length (with_floats (take (2 * c) (drop (64 * k) points)) []) ≡ 34 * c
    hole_size k c l h = all_size (take (2 * c) (drop (64 * k) points)) ∙ ap (λ (n : ℕ). 17 * n) (hole_length points k c e l h) ∙ twice c
      where
        twice : (c : ℕ) → 17 * (2 * c) ≡ 34 * c
        twice c = omega arith

    pub spot_next : (at here k holes c : ℕ) → holes ≤ 8 → k < holes → c ≤ 32 → c ≡ get_or counts k 0 → here ≡ at + length (holes_bytes points counts k)
        → here + 34 * c ≡ at + length (holes_bytes points counts (k + 1))
    spot_next at here k holes c t l h d q =
        sum at here (length (holes_bytes points counts k)) (34 * c) q
        ∙ ap (λ (n : ℕ). at + (length (holes_bytes points counts k) + n)) (sym (hole_size k c (le_trans l t) h))
        ∙ ap (λ (n : ℕ). at + n) (sym (length-append (holes_bytes points counts k) _) ∙ ap length (sym (holes_next k c d)))
      where
        sum : (a h x m : ℕ) → h ≡ a + x → h + m ≡ a + (x + m)
        sum a h x m p = omega arith

    pub holes_size : (holes : ℕ) → holes ≤ 8 → holes_fit counts holes ≡ true → (k : ℕ) → k ≤ holes → length (holes_bytes points counts k) ≡ 34 * hole_vertices counts k
    unfolding hole_vertices vertices_step holes_bytes holes_bytes_step hole_numbers rounds
    holes_size holes t f zero l = refl
    holes_size holes t f (suc k) l =
        length-append (holes_bytes points counts k) (with_floats (take (2 * get_or counts k 0) (drop (64 * k) points)) [])
        ∙ ap (λ (n : ℕ). n + length (with_floats (take (2 * get_or counts k 0) (drop (64 * k) points)) [])) (holes_size holes t f k (le_of_lt l))
        ∙ ap (λ (n : ℕ). 34 * hole_vertices counts k + n) (hole_size k (get_or counts k 0) (le_trans l t) (hole_most counts holes k (get_or counts k 0) f l refl))
        ∙ sym (mul-add 34 (hole_vertices counts k) (get_or counts k 0))

  pub spot_start : (at : ℕ) → at ≡ at + length (holes_bytes points counts 0)
  spot_start at = sym (add-zero at) ∙ ap (λ (l : List ℕ). at + length l) (sym no_holes)

  pub holes_start : (l : List ℕ) (at : ℕ) → l ≡ put l at (holes_bytes points counts 0)
  holes_start l at = sym (put_none l at) ∙ ap (λ (m : List ℕ). put l at m) (sym no_holes)

  pub put_holes_next : (l : List ℕ) (at here k c : ℕ) (out after : List ℕ) (part : List Float)
      → out ≡ put l at (holes_bytes points counts k) → here ≡ at + length (holes_bytes points counts k) → c ≡ get_or counts k 0
      → after ≡ put out here (with_floats (take (2 * c) part) []) → part ≡ drop (64 * k) points → after ≡ put l at (holes_bytes points counts (k + 1))
  put_holes_next l at here k c out after part e h d q w =
      put_more l at here (holes_bytes points counts k) _ (holes_bytes points counts (k + 1)) out after e h (q ∙ ap (λ (ps : List Float). put out here (with_floats (take (2 * c) ps) [])) w) (holes_next k c d)

  pub put_holes_end : (l : List ℕ) (at holes k : ℕ) (out : List ℕ) → k ≤ holes → holes ≤ k → out ≡ put l at (holes_bytes points counts k) → out ≡ put l at (holes_bytes points counts holes)
  put_holes_end l at holes k out a b e = e ∙ ap (λ (n : ℕ). put l at (holes_bytes points counts n)) (le_antisymm a b)
