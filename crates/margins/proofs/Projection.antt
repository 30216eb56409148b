-- A fraction s / u that nearly is the quotient of d and l, held between 0 and 1, nearly satisfies the equation of the projection: a
-- `Foot`. Q is close to l / u, and s Q to d. Assumes nothing.
use mathlib.Core.Path.{◌≡◌, refl, sym, subst}
use Prim.Native.Nat.{ℕ, ◌+◌, ◌*◌, ◌^◌, ◌≤◌}
use native.Mathlib.Nat.{le_refl, mul-le-mul_left, mul-le-mul_right}
use native.Mathlib.Omega.{arith}
use Rattle.math.proofs.Signed.{Signed, ◌⊖◌, ◌·◌, Close}
use Rattle.margins.proofs.Foot.{Foot, between, at_start, at_end}
use Rattle.margins.proofs.Clamp.{Held, inside, below, above}

module _ (s d : Signed) (Q l u f e : ℕ) (cs : Close (Q · s) d f) (cl : Close ((u * Q) ⊖ 0) (l ⊖ 0) e) where
  -- the two halves of the equation, for any t from 0 to u
  upper : (t : ℕ) → t ≤ u → Q * t + d.minus ≤ d.plus + f → t * l + u * d.minus ≤ u * d.plus + u * (e + f)
  upper t h k = last (mul-le-mul_right e h) (mul-le-mul_left t (plain cl.below)) (mul-le-mul_left u k)
    where
      plain : 0 + l ≤ u * Q + 0 + e → l ≤ u * Q + e
      plain h = omega arith

      last : t * e ≤ u * e → t * l ≤ t * (u * Q + e) → u * (Q * t + d.minus) ≤ u * (d.plus + f) → t * l + u * d.minus ≤ u * d.plus + u * (e + f)
      last a b c = omega arith

  lower : (t : ℕ) → t ≤ u → d.plus ≤ Q * t + d.minus + f → u * d.plus ≤ t * l + u * d.minus + u * (e + f)
  lower t h k = last (mul-le-mul_right e h) (mul-le-mul_left t (plain cl.above)) (mul-le-mul_left u k)
    where
      plain : u * Q + 0 ≤ 0 + l + e → u * Q ≤ l + e
      plain h = omega arith

      last : t * e ≤ u * e → t * (u * Q) ≤ t * (l + e) → u * d.plus ≤ u * (Q * t + d.minus + f) → u * d.plus ≤ t * l + u * d.minus + u * (e + f)
      last a b c = omega arith

  -- what is known of s where one part of it is 0
  above_s : s.minus ≡ 0 → Q * s.plus + d.minus ≤ d.plus + f
  above_s z = subst (λ (x : ℕ). Q * s.plus + d.minus ≤ Q * x + d.plus + f → Q * s.plus + d.minus ≤ d.plus + f) (sym z) plain cs.above
    where
      plain : Q * s.plus + d.minus ≤ Q * 0 + d.plus + f → Q * s.plus + d.minus ≤ d.plus + f
      plain h = omega arith

  below_s : d.plus ≤ Q * s.plus + d.minus + f
  below_s = omega (arith, cs.below)

  pub foot : (t : ℕ) → Held s u t → Foot t u l d (u * (e + f))
  foot t (inside h z k) = subst (λ (x : ℕ). Foot x u l d (u * (e + f))) (sym h) (between (upper s.plus k (above_s z)) (lower s.plus k below_s))
  foot t (below h z) = subst (λ (x : ℕ). Foot x u l d (u * (e + f))) (sym h) (at_start refl low)
    where
      start : s.plus ≤ u
      start = omega arith

      low : u * d.plus ≤ 0 * l + u * d.minus + u * (e + f)
      low = subst (λ (x : ℕ). u * d.plus ≤ x * l + u * d.minus + u * (e + f)) z (lower s.plus start below_s)
  foot t (above h z k) = subst (λ (x : ℕ). Foot x u l d (u * (e + f))) (sym h) (at_end refl (upper u (le_refl u) (end (mul-le-mul_left Q k) (above_s z))))
    where
      end : Q * u ≤ Q * s.plus → Q * s.plus + d.minus ≤ d.plus + f → Q * u + d.minus ≤ d.plus + f
      end a b = omega arith

-- the error in all
pub foot_bound : (u B e f g : ℕ) → 2 ^ 46 * e ≤ B → 2 ^ 49 * f ≤ B → 2 ^ 46 * g ≤ B → 2 ^ 44 * (u * (e + (f + g))) ≤ u * B
foot_bound u B e f g a b c = last (mul-le-mul_left u (sum a b c))
  where
    sum : 2 ^ 46 * e ≤ B → 2 ^ 49 * f ≤ B → 2 ^ 46 * g ≤ B → 2 ^ 44 * (e + (f + g)) ≤ B
    sum a b c = omega arith

    last : u * (2 ^ 44 * (e + (f + g))) ≤ u * B → 2 ^ 44 * (u * (e + (f + g))) ≤ u * B
    last h = omega arith
