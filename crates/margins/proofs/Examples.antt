-- The numbers of specs/Examples.antt: most compute; that p is 5 above every point of the edge shows the rest. Assumes nothing.
use mathlib.Core.Path.{◌≡◌, refl, sym, ap, ◌∙◌}
use Prim.Native.Nat.{ℕ, ◌+◌, ◌-◌, ◌*◌, ◌^◌, ◌≤◌}
use native.Mathlib.Nat.{le_trans, le_of_eq, le-add_left, mul-le-mul, mul-le-mul_left, mul-le-mul_right}
use native.Mathlib.Omega.{arith}
use lib.Dec.{leb→le, le→leb}
use lib.Ieee.{of_bits}
use Rattle.hypotenuse.proofs.Poly.{poly}
use Rattle.margins.specs.Far.{over, under, sq, axis_apart, squared_apart, margin_of, Far}
use Rattle.margins.specs.Examples.{three, five, ten, nothing, p, a, b, MarginExamples}

-- at every fraction p is 5 above the edge
above : (i j : ℕ) → axis_apart five nothing nothing i j ≡ j * (5 * 2 ^ 1074) * (j * (5 * 2 ^ 1074))
unfolding axis_apart over under of_bits
above i j = go (5 * 2 ^ 1074)
  where
    go : (u : ℕ) → sq (j * (u + 0) + i * (0 + 0)) (j * (0 + 0) + i * (0 + 0)) ≡ j * u * (j * u)
    go u = ap (λ (x : ℕ). x * x) size
      where
        size : j * (u + 0) + i * (0 + 0) - (j * (0 + 0) + i * (0 + 0)) + (j * (0 + 0) + i * (0 + 0) - (j * (u + 0) + i * (0 + 0))) ≡ j * u
        size = omega arith

five_or_more : (i j : ℕ) → j * (5 * 2 ^ 1074) * (j * (5 * 2 ^ 1074)) ≤ squared_apart p a b i j
unfolding squared_apart
five_or_more i j = le_trans (le_of_eq (sym (above i j))) (le-add_left (axis_apart five nothing nothing i j) (axis_apart three nothing ten i j))

-- so 3 / 10 is the nearest fraction
at_three_tenths : squared_apart p a b 3 10 ≡ 50 * 2 ^ 1074 * (50 * 2 ^ 1074)
unfolding squared_apart axis_apart over under of_bits
at_three_tenths = refl

three_tenths : (k l : ℕ) → l * l * squared_apart p a b 3 10 ≤ 10 * 10 * squared_apart p a b k l
three_tenths k l =
    le_trans (le_of_eq (ap (λ (x : ℕ). l * l * x) at_three_tenths ∙ same l (5 * 2 ^ 1074))) (mul-le-mul_left (10 * 10) (five_or_more k l))
  where
    same : (l u : ℕ) → l * l * (10 * u * (10 * u)) ≡ 10 * 10 * (l * u * (l * u))
    same l u = simp poly (omega arith)

-- p keeps a margin of 4: it is less than 5
four : margin_of (4 * 2 ^ 1074) (10 * 2 ^ 1074) ≤ 10 ^ 15 * (5 * 2 ^ 1074)
unfolding margin_of
four = leb→le (margin_of (4 * 2 ^ 1074) (10 * 2 ^ 1074)) (10 ^ 15 * (5 * 2 ^ 1074)) tt

far_by_four : Far (4 * 2 ^ 1074) (10 * 2 ^ 1074) p a b
far_by_four i j ij jp =
    le_trans (mul-le-mul_right (j * j) (mul-le-mul four four))
    (le_trans (le_of_eq (same (10 ^ 15) j (5 * 2 ^ 1074))) (mul-le-mul_left (10 ^ 30) (five_or_more i j)))
  where
    same : (c j u : ℕ) → c * u * (c * u) * (j * j) ≡ c * c * (j * u * (j * u))
    same c j u = simp poly

-- and none of 6
not_by_six : Far (6 * 2 ^ 1074) (10 * 2 ^ 1074) p a b → ⊥
unfolding margin_of squared_apart axis_apart over under of_bits
not_by_six far =
    let n = margin_of (6 * 2 ^ 1074) (10 * 2 ^ 1074) in
    le→leb (n * n * (10 * 10)) (10 ^ 30 * squared_apart p a b 3 10) (far 3 10 (omega arith) (omega arith))

pub examples : MarginExamples
unfolding over under margin_of squared_apart axis_apart of_bits
examples = record {
  five_units = refl;
  hundred_below = refl;
  least = refl;
  of_five = refl;
  at_three_tenths = at_three_tenths;
  at_start = refl;
  at_end = refl;
  three_tenths = λ k l kl z. three_tenths k l;
  far_by_four = far_by_four;
  not_by_six = not_by_six;
}
