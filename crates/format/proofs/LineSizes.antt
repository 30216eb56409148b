-- How long a line gets that is written field by field. Assumes nothing.
use Prim.Native.Nat.{ℕ, zero, suc, ◌+◌, ◌*◌, ◌≤◌}
use native.Mathlib.Omega.{arith}
use mathlib.Core.Bool.{Bool, true, false, cond}
use mathlib.Core.Path.{◌≡◌, refl}
use mathlib.Core.List.{List, [], ◌∷◌}
use lib.Dec.{ltb, lit≤}
use lib.Ieee.{Float, nan}
use lib.ListN.{get_or, length, length-append}
use Rattle.base.specs.Loop.{rounds}
use Rattle.format.specs.Fields.{comma}
use Rattle.format.specs.Numerals.{digit_step, bits_digits, float_digits, count_digits}
use Rattle.format.specs.Lines.{with_field, count_field_step, float_field_step}

pub count_size : (n : ℕ) → length (count_digits n) ≤ 3
unfolding count_digits
count_size n = go (ltb n 10) (ltb n 100) _ _ _ _ _ _
  where
    go : (s t : Bool) (a b c d e f : ℕ) → length (cond s (a ∷ []) (cond t (b ∷ c ∷ []) (d ∷ e ∷ f ∷ []))) ≤ 3
    go true t a b c d e f = lit≤ tt
    go false true a b c d e f = lit≤ tt
    go false false a b c d e f = lit≤ tt

pub float_size : (x : Float) → length (float_digits x) ≡ 16
unfolding float_digits bits_digits digit_step rounds
float_size x = refl

pub field_size : (line field : List ℕ) → length (with_field line field) ≡ length line + suc (length field)
unfolding with_field
field_size line field = length-append line (comma ∷ field)

pub counts_size : (counts line : List ℕ) (n : ℕ) → length (rounds (count_field_step counts) n line) ≤ length line + 4 * n
unfolding rounds count_field_step
counts_size counts line zero = omega arith
counts_size counts line (suc n) =
    more (length line) n (length (rounds (count_field_step counts) n line)) (length (count_digits (get_or counts n 0))) _ (counts_size counts line n) (count_size (get_or counts n 0))
    (field_size (rounds (count_field_step counts) n line) (count_digits (get_or counts n 0)))
  where
    more : (l n x f y : ℕ) → x ≤ l + 4 * n → f ≤ 3 → y ≡ x + suc f → y ≤ l + 4 * suc n
    more l n x f y a b e = omega arith

pub floats_size : (fs : List Float) (line : List ℕ) (n : ℕ) → length (rounds (float_field_step fs) n line) ≡ length line + 17 * n
unfolding rounds float_field_step
floats_size fs line zero = omega arith
floats_size fs line (suc n) =
    more (length line) n (length (rounds (float_field_step fs) n line)) (length (float_digits (get_or fs n nan))) _ (floats_size fs line n) (float_size (get_or fs n nan))
    (field_size (rounds (float_field_step fs) n line) (float_digits (get_or fs n nan)))
  where
    more : (l n x f y : ℕ) → x ≡ l + 17 * n → f ≡ 16 → y ≡ x + suc f → y ≡ l + 17 * suc n
    more l n x f y a b e = omega arith
