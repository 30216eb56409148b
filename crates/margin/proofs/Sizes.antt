-- What 21, 13 and 14 say in units: coordinates of at most 1e9, a distance of at most 1e12, and with them 1 + distance + extent of at most
-- 2 ^ 41. Assumes nothing.
use mathlib.Core.Path.{◌≡◌, refl, ap, ◌∙◌}
use mathlib.Core.Bool.{Bool, true, false, cond, ◌&&◌, false≢true}
use mathlib.Core.List.{List}
use mathlib.Mathlib.Data.Bool.Basic.{and_elim_left, and_elim_right}
use Prim.Native.Nat.{ℕ, ◌+◌, ◌*◌, ◌^◌, ◌≤◌, ◌<◌}
use native.Mathlib.Nat.{le_trans, add-le-add}
use native.Mathlib.Omega.{arith}
use borrow.Author.Tests.{leb-true}
use lib.Dec.{T, leb, leb→le}
use lib.ListN.{get_or}
use lib.Ieee.{Float, nan, inf, fin, binary64, down, fits, lt, le, eq}
use lib.Ieee.Exact.{HasValue}
use Rattle.base.proofs.Choices.{by_test}
use Rattle.base.proofs.Tests.{all_pass}
use Rattle.hypotenuse.specs.Hypot.{count}
use Rattle.hypotenuse.proofs.Units.{count_exact}
use Rattle.math.specs.Number.{zero_float, finite, abs}
use Rattle.math.proofs.Ranks.{le_most}
use Rattle.error.specs.declared.Refusal.{Refusal}
use Rattle.error.specs.Refusals.{number, values, granted}
use Rattle.margins.specs.Far.{over, under, magnitude}
use Rattle.margins.proofs.Units.{over_value}
use Rattle.ring_check.specs.Checks.{max_coordinate}
use Rattle.outline.specs.Outlines.{in_range_step, in_range, proper}
use Rattle.offset.specs.Offsets.{max_distance, check_distance}
use Rattle.offset.proofs.DemandAnswered.{distance_finite}
use Rattle.margin.specs.Margin.{Doubles}

-- ---- values

pub over_is : (x : Float) (a : ℕ) → HasValue x false a (2 ^ 1074) → over x ≡ a
over_is x a v = over_value x false a v

pub abs_is : (x : Float) → T (fits binary64 x) → finite x ≡ true → HasValue (abs x) false (magnitude x) (2 ^ 1074)
unfolding abs finite over under
abs_is nan f h = absurd (false≢true h)
abs_is (inf s) f h = absurd (false≢true h)
abs_is (fin s m e) f h = (refl, (count_exact s m e f).1 ∙ ap (λ (x : ℕ). x * down e) (sum s))
  where
    sum : (s : Bool) → count m e ≡ cond s 0 (count m e) + cond s (count m e) 0
    sum true = plain (count m e)
      where
        plain : (c : ℕ) → c ≡ 0 + c
        plain c = omega arith
    sum false = plain (count m e)
      where
        plain : (c : ℕ) → c ≡ c + 0
        plain c = omega arith

-- ---- question 21

le_finite : (x : Float) → le (abs x) max_coordinate ≡ true → finite x ≡ true
unfolding le lt eq abs finite lib.Ieee.of_bits
le_finite nan h = absurd (false≢true h)
le_finite (inf s) h = absurd (false≢true h)
le_finite (fin s m e) h = refl

coordinate_value : HasValue max_coordinate false (1000000000 * 2 ^ 1074) (2 ^ 1074)
unfolding lib.Ieee.of_bits
coordinate_value = (refl, refl)

pub record Fine (x : Float) : Type 0 where
  pub finite : finite x ≡ true
  pub size : magnitude x ≤ 1000000000 * 2 ^ 1074

fine_of : (x : Float) → T (fits binary64 x) → le (abs x) max_coordinate ≡ true → Fine x
fine_of x f h = record { finite = le_finite x h; size = le_most (abs x) max_coordinate (magnitude x) (1000000000 * 2 ^ 1074) (abs_is x f (le_finite x h)) coordinate_value h }

-- a ring past 21: it has vertices, and their numbers are doubles of at most 1e9
pub record Sound (ps : List Float) (n : ℕ) : Type 0 where
  pub doubles : Doubles ps
  pub fine : (k : ℕ) → k < 2 * n → Fine (get_or ps k nan)
  pub some : 0 < n

pub proper_sound : (room : ℕ) (ps : List Float) (n : ℕ) → Doubles ps → proper room ps n ≡ true → Sound ps n
unfolding proper in_range in_range_step
proper_sound room ps n d q =
    let three : 3 ≤ n = leb-true 3 n (and_elim_left (leb 3 n) (leb n room && in_range ps n) q) in
    let all : in_range ps n ≡ true = and_elim_right (leb n room) (in_range ps n) (and_elim_right (leb 3 n) (leb n room && in_range ps n) q) in
    record {
      doubles = d;
      fine = λ k l.
          fine_of (get_or ps k nan) (d k)
          (all_pass (in_range_step ps) (λ i. le (abs (get_or ps i nan)) max_coordinate) (λ i s. refl) (2 * n) all k l);
      some = omega arith;
    }

-- ---- 13 and 14

distance_value : HasValue max_distance false (1000000000000 * 2 ^ 1074) (2 ^ 1074)
unfolding lib.Ieee.of_bits
distance_value = (refl, refl)

record Near (d : Float) (u : Refusal) : Type 0 where
  is : granted u ≡ true → le d max_distance ≡ true

distance_near : (d : Float) → granted (check_distance d) ≡ true → le d max_distance ≡ true
unfolding check_distance granted number values
distance_near d = go.is
  where
    go : Near d (check_distance d)
    go = by_test (Near d) (finite d && le d max_distance) (λ h. record { is = λ q. and_elim_right (finite d) (le d max_distance) h }) (λ h. record { is = λ q. absurd (false≢true q) })

above_value : (d : Float) → T (fits binary64 d) → finite d ≡ true → lt zero_float d ≡ true → HasValue d false (over d) (2 ^ 1074)
unfolding over finite lt lib.Ieee.of_bits
above_value nan f h l = absurd (false≢true h)
above_value (inf s) f h l = absurd (false≢true h)
above_value (fin true m e) f h l = absurd (false≢true l)
above_value (fin false m e) f h l = count_exact false m e f

pub record Moved (d : Float) : Type 0 where
  pub value : HasValue d false (over d) (2 ^ 1074)
  pub size : over d ≤ 1000000000000 * 2 ^ 1074

pub distance_moved : (d : Float) → T (fits binary64 d) → granted (check_distance d) ≡ true → lt zero_float d ≡ true → Moved d
distance_moved d f g l =
    let v : HasValue d false (over d) (2 ^ 1074) = above_value d f (distance_finite d g) l in
    record { value = v; size = le_most d max_distance (over d) (1000000000000 * 2 ^ 1074) v distance_value (distance_near d g) }

pub fine_sum : (D M : ℕ) → D ≤ 1000000000000 * 2 ^ 1074 → M ≤ 1000000000 * 2 ^ 1074 → 2 ^ 1074 + D + M ≤ 2 ^ 1115
fine_sum D M h k = le_trans (add-le-add (first (2 ^ 1074) D (1000000000000 * 2 ^ 1074) h) k) (leb→le (2 ^ 1074 + 1000000000000 * 2 ^ 1074 + 1000000000 * 2 ^ 1074) (2 ^ 1115) tt)
  where
    first : (u a b : ℕ) → a ≤ b → u + a ≤ u + b
    first u a b h = omega arith
