-- A rounded sum is the same whichever is named first. Assumes nothing.
use mathlib.Core.Path.{◌≡◌, refl, ap, ◌∙◌}
use mathlib.Core.Bool.{Bool, true, false, cond, not, ◌&&◌}
use Prim.Native.Nat.{ℕ, ◌-◌, ◌*◌}
use native.Mathlib.Omega.{arith}
use native.Mathlib.Nat.{mul_comm, add_comm}
use lib.Dec.{ltb}
use borrow.Author.Tests.{ltb-true, ltb-false}
use lib.Ieee.{Float, nan, inf, fin, binary64, sum, round, up, down}
use Rattle.math.specs.Number.{add}

-- a difference, told from either side
less : (s : Bool) (a b c : ℕ) (x y : Bool) → ltb a b ≡ x → ltb b a ≡ y
    → cond x (round binary64 (not s) (b - a) c) (round binary64 (s && y) (a - b) c) ≡ cond y (round binary64 s (a - b) c) (round binary64 (not s && x) (b - a) c)
less s a b c true true p q = absurd (omega (arith, ltb-true a b p, ltb-true b a q))
less true a b c true false p q = refl
less false a b c true false p q = refl
less true a b c false true p q = refl
less false a b c false true p q = refl
less true a b c false false p q = ap (λ (k : ℕ). round binary64 false k c) (omega (arith, ltb-false a b p, ltb-false b a q))
less false a b c false false p q = ap (λ (k : ℕ). round binary64 false k c) (omega (arith, ltb-false a b p, ltb-false b a q))

sum_swap : (s : Bool) (a : ℕ) (t : Bool) (b c : ℕ) → sum binary64 s a t b c ≡ sum binary64 t b s a c
unfolding sum
sum_swap true a true b c = ap (λ (k : ℕ). round binary64 true k c) (add_comm a b)
sum_swap false a false b c = ap (λ (k : ℕ). round binary64 false k c) (add_comm a b)
sum_swap true a false b c = less true a b c (ltb a b) (ltb b a) refl refl
sum_swap false a true b c = less false a b c (ltb a b) (ltb b a) refl refl

same_infinity : (s t : Bool) → add (inf s) (inf t) ≡ add (inf t) (inf s)
unfolding lib.Ieee.add
same_infinity true true = refl
same_infinity true false = refl
same_infinity false true = refl
same_infinity false false = refl

pub add_swap : (x y : Float) → add x y ≡ add y x
unfolding lib.Ieee.add
add_swap nan nan = refl
add_swap nan (inf t) = refl
add_swap nan (fin t n d) = refl
add_swap (inf s) nan = refl
add_swap (inf s) (inf t) = same_infinity s t
add_swap (inf s) (fin t n d) = refl
add_swap (fin s m e) nan = refl
add_swap (fin s m e) (inf t) = refl
add_swap (fin s m e) (fin t n d) =
    sum_swap s (m * up e * down d) t (n * up d * down e) (down e * down d)
    ∙ ap (sum binary64 t (n * up d * down e) s (m * up e * down d)) (mul_comm (down e) (down d))
