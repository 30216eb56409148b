-- Laws of bytes that are stored one after the other. Assumes nothing.
use Prim.Native.Nat.{ℕ, suc, ◌+◌, ◌-◌, ◌≤◌, ◌<◌}
use native.Mathlib.Nat.{add-zero, add-suc, suc-add, le_trans, le_of_lt, le_antisymm, le_step, min-eq_left, min-eq_right}
use Rattle.std.proofs.Common.{min}
use native.Mathlib.Numerals.{add-one}
use native.Mathlib.Omega.{arith}
use mathlib.Core.Bool.{Bool, true, false}
use mathlib.Core.Path.{◌≡◌, refl, sym, ap, ◌∙◌, subst}
use mathlib.Core.List.{List, [], ◌∷◌, ◌++◌}
use lib.Dec.{leb}
use lib.ListN.{get_or, set, length, take, drop, take-append-drop}
use lib.Seq.{sets, set_out, take-suc, length-sets, length-take-le, take-length, sets-eq, drop-set-lt}
use borrow.Author.Tests.{leb-true, leb-false}
use Rattle.format_digits.specs.Stores.{put}

pub put_none : (l : List ℕ) (at : ℕ) → put l at [] ≡ l
unfolding put
put_none l at = refl

pub put_length : (l : List ℕ) (at : ℕ) (bytes : List ℕ) → length (put l at bytes) ≡ length l
unfolding put
put_length l at bytes = length-sets l at bytes

pub put_append : (l : List ℕ) (at : ℕ) (xs ys : List ℕ) → put l at (xs ++ ys) ≡ put (put l at xs) (at + length xs) ys
unfolding put
put_append l i [] ys = ap (λ (k : ℕ). sets l k ys) (sym (add-zero i))
put_append l i (x ∷ xs) ys =
    put_append (set l i x) (suc i) xs ys
    ∙ ap (λ (k : ℕ). sets (sets (set l i x) (suc i) xs) k ys) (suc-add i (length xs) ∙ sym (add-suc i (length xs)))

-- past the end they are left out
put_out : (l : List ℕ) (i : ℕ) (vs : List ℕ) → length l ≤ i → put l i vs ≡ l
unfolding put
put_out l i [] h = refl
put_out l i (v ∷ vs) h = ap (λ m. sets m (suc i) vs) (set_out l i v h) ∙ put_out l (suc i) vs (le_step h)

-- over the first bytes, where there are as many
pub put_front : (l bytes : List ℕ) → length bytes ≤ length l → put l 0 bytes ≡ bytes ++ drop (length bytes) l
unfolding put
put_front l bytes h = sets-eq bytes l 0 (subst (λ (n : ℕ). n ≤ length l) (sym (zero_plus (length bytes))) h) ∙ ap (λ (n : ℕ). bytes ++ drop n l) (zero_plus (length bytes))
  where
    zero_plus : (n : ℕ) → 0 + n ≡ n
    zero_plus n = omega arith

-- behind them all is as it was
pub put_behind : (l : List ℕ) (at : ℕ) (bytes : List ℕ) (n : ℕ) → at + length bytes ≤ n → drop n (put l at bytes) ≡ drop n l
unfolding put
put_behind l at [] n h = refl
put_behind l at (b ∷ bytes) n h =
    put_behind (set l at b) (suc at) bytes n (rest at (length bytes) n h) ∙ drop-set-lt n l at b (first at (length bytes) n h)
  where
    rest : (i m n : ℕ) → i + suc m ≤ n → suc i + m ≤ n
    rest i m n h = omega arith

    first : (i m n : ℕ) → i + suc m ≤ n → i < n
    first i m n h = omega arith

-- one more
put_next : (l : List ℕ) (at : ℕ) (bytes : List ℕ) (k d : ℕ) → k < length bytes
    → set (put l at (take k bytes)) (at + k) (get_or bytes k d) ≡ put l at (take (k + 1) bytes)
unfolding put
put_next l at bytes k d h =
    ap (λ (n : ℕ). set (sets l at (take k bytes)) (at + n) (get_or bytes k d)) (sym (length-take-le k bytes (le_of_lt h)))
    ∙ sym (put_append l at (take k bytes) (get_or bytes k d ∷ []))
    ∙ ap (λ vs. sets l at vs) (sym (take-suc bytes k d h) ∙ ap (λ (n : ℕ). take n bytes) (sym (add-one k)))

-- as many as there is room for
put_room : (l : List ℕ) (at : ℕ) (bytes : List ℕ) (n : ℕ) → n ≡ min (length bytes) (length l - at) → put l at (take n bytes) ≡ put l at bytes
put_room l at bytes n e = go (leb (length bytes) (length l - at)) refl
  where
    past : (x y z : ℕ) → z ≡ x - y → x ≤ y + z
    past x y z p = omega arith

    go : (t : Bool) → leb (length bytes) (length l - at) ≡ t → put l at (take n bytes) ≡ put l at bytes
    go true g =
        ap (λ (k : ℕ). put l at (take k bytes)) (e ∙ min-eq_left (leb-true (length bytes) (length l - at) g)) ∙ ap (λ vs. put l at vs) (take-length bytes)
    go false g =
        let few : length l - at ≤ length bytes = le_of_lt (leb-false (length bytes) (length l - at) g) in
        let room : n ≡ length l - at = e ∙ min-eq_right few in
        let short : n ≤ length bytes = subst (λ (k : ℕ). k ≤ length bytes) (sym room) few in
        sym (put_out (put l at (take n bytes)) (at + length (take n bytes)) (drop n bytes)
        (subst (λ (k : ℕ). k ≤ at + length (take n bytes)) (sym (put_length l at (take n bytes)))
        (past (length l) at (length (take n bytes)) (length-take-le n bytes short ∙ room))))
        ∙ sym (put_append l at (take n bytes) (drop n bytes))
        ∙ ap (λ vs. put l at vs) (take-append-drop n bytes)

-- ---- the walk that stores them

pub all_stored : (l bytes : List ℕ) (at room n k : ℕ) (out : List ℕ) → room ≡ length l - at → n ≡ min (length bytes) room → k ≤ n → n ≤ k
    → out ≡ put l at (take k bytes) → out ≡ put l at bytes
all_stored l bytes at room n k out e h a b q =
    q ∙ ap (λ (m : ℕ). put l at (take m bytes)) (le_antisymm a b) ∙ put_room l at bytes n (h ∙ ap (λ (m : ℕ). min (length bytes) m) e)

pub one_stored : (l : List ℕ) (at : ℕ) (bytes : List ℕ) (n k d : ℕ) (out : List ℕ) → k < n → n ≤ length bytes → out ≡ put l at (take k bytes)
    → set out (at + k) (get_or bytes k d) ≡ put l at (take (k + 1) bytes)
one_stored l at bytes n k d out a b q = ap (λ m. set m (at + k) (get_or bytes k d)) q ∙ put_next l at bytes k d (le_trans a b)

pub stored_as : (l : List ℕ) (at : ℕ) (xs ys out : List ℕ) → out ≡ put l at xs → xs ≡ ys → out ≡ put l at ys
stored_as l at xs ys out e h = e ∙ ap (λ vs. put l at vs) h
