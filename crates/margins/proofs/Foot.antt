-- A foot that nearly satisfies the equation of the projection is nearly the nearest point of the segment, for every point of the segment.
-- Squares only, no root. The vector w goes from the segment's start to p, and x along the segment; ww, l and d stand for w·w, x·x and w·x.
-- The point at the fraction s / t of the segment lies from p at the square Q, in units of 1 / t²: Q = t² ww - 2 s t d + s² l. Assumes nothing.
use mathlib.Core.Path.{◌≡◌, ap, subst}
use Prim.Native.Nat.{ℕ, ◌+◌, ◌*◌, ◌≤◌}
use native.Mathlib.Nat.{le_trans, mul-le-mul_left, mul-le-mul_right, le-add_right, mul_comm}
use native.Mathlib.Omega.{arith}
use Rattle.hypotenuse.proofs.Poly.{poly}
use Rattle.math.proofs.Naturals.{Order, more, less, order, two_products}
use Rattle.math.proofs.Signed.{Signed}

-- what is known of a foot t / u: its error is at most r, on one side only where the fraction was held at 0 or at 1
pub data Foot (t u l : ℕ) (d : Signed) (r : ℕ) : Type 0 where
  between : t * l + u * d.minus ≤ u * d.plus + r → u * d.plus ≤ t * l + u * d.minus + r → Foot t u l d r
  at_start : t ≡ 0 → u * d.plus ≤ t * l + u * d.minus + r → Foot t u l d r
  at_end : t ≡ u → t * l + u * d.minus ≤ u * d.plus + r → Foot t u l d r

-- l F ≤ l G + s² where F + k² l ≤ G + 2 k s
squared : (F G l k s : ℕ) → F + k * k * l ≤ G + 2 * (k * s) → l * F ≤ l * G + s * s
squared F G l k s h =
    let a : l * (F + k * k * l) ≤ l * (G + 2 * (k * s)) = mul-le-mul_left l h in
    let b : 2 * (k * l * s) ≤ k * l * (k * l) + s * s = two_products (k * l) s in
    omega arith

module _ (ww l : ℕ) (d : Signed) where
  -- Q is the square for the fraction s / t
  abbrev pub Square : (Q s t : ℕ) → Type 0
  Square Q s t = Q + 2 * (s * t * d.plus) ≡ t * t * ww + s * s * l + 2 * (s * t * d.minus)

  -- the same fraction, both parts c times as large
  scaled : (Q s t c : ℕ) → Square Q s t → Square (c * c * Q) (c * s) (c * t)
  scaled Q s t c h = simp poly (simp poly at (ap (λ (z : ℕ). c * c * z) h))

  -- two fractions over one z, of which one is the larger by k / z: what their squares differ by
  differ : (F G s z k : ℕ) → Square F (s + k) z → Square G s z → F + 2 * (z * k * d.plus) + k * k * l ≡ G + 2 * (k * (s + k) * l) + 2 * (z * k * d.minus)
  differ F G s z k f g = omega arith

  -- with an error of at most e in the equation y l = z d, for the larger y or the smaller
  from_larger : (F G s z k e : ℕ) → Square F (s + k) z → Square G s z → (s + k) * l + z * d.minus ≤ z * d.plus + e → l * F ≤ l * G + e * e
  from_larger F G s z k e f g h = squared F G l k e (last (differ F G s z k f g) (mul-le-mul_left k h))
    where
      last : F + 2 * (z * k * d.plus) + k * k * l ≡ G + 2 * (k * (s + k) * l) + 2 * (z * k * d.minus)
          → k * ((s + k) * l + z * d.minus) ≤ k * (z * d.plus + e) → F + k * k * l ≤ G + 2 * (k * e)
      last a b = omega arith

  from_smaller : (F G s z k e : ℕ) → Square F s z → Square G (s + k) z → z * d.plus ≤ s * l + z * d.minus + e → l * F ≤ l * G + e * e
  from_smaller F G s z k e f g h = squared F G l k e (last (differ G F s z k g f) (mul-le-mul_left k h))
    where
      last : G + 2 * (z * k * d.plus) + k * k * l ≡ F + 2 * (k * (s + k) * l) + 2 * (z * k * d.minus)
          → k * (z * d.plus) ≤ k * (s * l + z * d.minus + e) → F + k * k * l ≤ G + 2 * (k * e)
      last a b = omega arith

  -- F and G are the squares for the foot t / u and for any point i / j of the segment
  pub near_optimal : (F G t u i j r : ℕ) → Square F t u → Square G i j → i ≤ j → Foot t u l d r → l * (j * j * F) ≤ l * (u * u * G) + j * r * (j * r)
  near_optimal F G t u i j r f g ij foot = go (order (j * t) (i * u)) foot
    where
      -- both fractions over j u
      f' : Square (j * j * F) (j * t) (j * u)
      f' = scaled F t u j f

      g' : Square (u * u * G) (i * u) (j * u)
      g' = subst (λ (z : ℕ). Square (u * u * G) z (j * u)) (mul_comm u i) (subst (λ (z : ℕ). Square (u * u * G) (u * i) z) (mul_comm u j) (scaled G i j u g))

      larger : (k : ℕ) → j * t ≡ i * u + k → t * l + u * d.minus ≤ u * d.plus + r → l * (j * j * F) ≤ l * (u * u * G) + j * r * (j * r)
      larger k h e =
          from_larger (j * j * F) (u * u * G) (i * u) (j * u) k (j * r) (subst (λ (z : ℕ). Square (j * j * F) z (j * u)) h f') g'
          (subst (λ (z : ℕ). z * l + j * u * d.minus ≤ j * u * d.plus + j * r) h (times (mul-le-mul_left j e)))
        where
          times : j * (t * l + u * d.minus) ≤ j * (u * d.plus + r) → j * t * l + j * u * d.minus ≤ j * u * d.plus + j * r
          times a = omega arith

      smaller : (k : ℕ) → i * u ≡ j * t + k → u * d.plus ≤ t * l + u * d.minus + r → l * (j * j * F) ≤ l * (u * u * G) + j * r * (j * r)
      smaller k h e =
          from_smaller (j * j * F) (u * u * G) (j * t) (j * u) k (j * r) f' (subst (λ (z : ℕ). Square (u * u * G) z (j * u)) h g') (times (mul-le-mul_left j e))
        where
          times : j * (u * d.plus) ≤ j * (t * l + u * d.minus + r) → j * u * d.plus ≤ j * t * l + j * u * d.minus + j * r
          times a = omega arith

      -- the same fraction: no error counts
      level : j * t ≡ i * u → l * (j * j * F) ≤ l * (u * u * G) + j * r * (j * r)
      level h =
          le_trans (mul-le-mul_left l (same (j * j * F) (u * u * G) (i * u) (j * u) (subst (λ (z : ℕ). Square (j * j * F) z (j * u)) h f') g'))
          (le-add_right (l * (u * u * G)) (j * r * (j * r)))
        where
          cancel : (a b c d : ℕ) → a + c ≡ d → b + c ≡ d → a ≤ b
          cancel a b c d x y = omega arith

          same : (F G s t : ℕ) → Square F s t → Square G s t → F ≤ G
          same F G s t x y = cancel F G (2 * (s * t * d.plus)) (t * t * ww + s * s * l + 2 * (s * t * d.minus)) x y

      at_zero : (k : ℕ) → t ≡ 0 → j * t ≡ i * u + k → j * t ≡ i * u
      at_zero k z h = let a : j * t ≡ j * 0 = ap (λ (x : ℕ). j * x) z in omega arith

      at_one : (k : ℕ) → t ≡ u → i * u ≡ j * t + k → j * t ≡ i * u
      at_one k z h = let a : j * t ≡ j * u = ap (λ (x : ℕ). j * x) z in let b : i * u ≤ j * u = mul-le-mul_right u ij in omega arith

      go : Order (j * t) (i * u) → Foot t u l d r → l * (j * j * F) ≤ l * (u * u * G) + j * r * (j * r)
      go (more k h) (between a b) = larger k h a
      go (more k h) (at_start z b) = level (at_zero k z h)
      go (more k h) (at_end z a) = larger k h a
      go (less k h) (between a b) = smaller k h b
      go (less k h) (at_start z b) = smaller k h b
      go (less k h) (at_end z a) = level (at_one k z h)
