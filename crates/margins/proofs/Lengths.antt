-- From a point of the edge that is nearer than n / c to the length of the computed vector, by squares: the foot is hardly farther away, the
-- computed vector hardly longer, and so is the rounded root. Assumes nothing.
use mathlib.Core.Path.{◌≡◌}
use Prim.Native.Nat.{ℕ, ◌+◌, ◌*◌, ◌≤◌, ◌<◌}
use native.Mathlib.Nat.{le_refl, le_trans, le_of_eq, add-le-add, mul-le-mul, mul-le-mul_left, mul-le-mul_right, le_of_mul-le-mul_left, mul-pos, le-add_right, mul-add}
use native.Mathlib.Omega.{arith}
use Rattle.hypotenuse.proofs.Poly.{poly}
use Rattle.math.proofs.Naturals.{root_le, square_product, square_sum}

-- a vector whose parts are each at most e longer than those of one of length y at most is at most y + 2 e long
pub lengthened : (a b x z y e : ℕ) → a * a + b * b ≤ y * y → x ≤ a + e → z ≤ b + e → x * x + z * z ≤ (y + 2 * e) * (y + 2 * e)
lengthened a b x z y e h p q =
    let A : a ≤ y = root_le a y (omega arith) in
    let B : b ≤ y = root_le b y (omega arith) in
    last (mul-le-mul p p) (mul-le-mul q q) (mul-le-mul_right e A) (mul-le-mul_right e B)
  where
    last : x * x ≤ (a + e) * (a + e) → z * z ≤ (b + e) * (b + e) → a * e ≤ y * e → b * e ≤ y * e → x * x + z * z ≤ (y + 2 * e) * (y + 2 * e)
    last p q r s = omega arith

-- 1. The foot's square F, in units of 1 / u², exceeds that of any point of the segment, G in units of 1 / j², by (R / k)² at most.
pub nearly : (l j F G r u R H k : ℕ) → l * (j * j * F) ≤ l * (u * u * G) + j * r * (j * r) → k * r ≤ u * (R * H) → H * H ≤ l → 0 < l
    → k * k * (j * j * F) ≤ k * k * (u * u * G) + j * u * R * (j * u * R)
nearly l j F G r u R H k h b hl lp =
    le_of_mul-le-mul_left {k = l}
    (le_trans (times (mul-le-mul_left (k * k) h))
    (le_trans (add-le-add (le_refl (l * (k * k * (u * u * G)))) (mul-le-mul (mul-le-mul_left j b) (mul-le-mul_left j b)))
    (last (mul-le-mul_left (j * u * R * (j * u * R)) hl))))
    lp
  where
    times : k * k * (l * (j * j * F)) ≤ k * k * (l * (u * u * G) + j * r * (j * r))
        → l * (k * k * (j * j * F)) ≤ l * (k * k * (u * u * G)) + j * (k * r) * (j * (k * r))
    times h = simp poly (simp poly at h)

    last : j * u * R * (j * u * R) * (H * H) ≤ j * u * R * (j * u * R) * l
        → l * (k * k * (u * u * G)) + j * (u * (R * H)) * (j * (u * (R * H))) ≤ l * (k * k * (u * u * G) + j * u * R * (j * u * R))
    last h =
        le_trans (add-le-add (le_refl (l * (k * k * (u * u * G)))) (le_trans (le_of_eq (same j u R H)) h))
        (le_of_eq (out l (k * k * (u * u * G)) (j * u * R * (j * u * R))))
      where
        same : (j u R H : ℕ) → j * (u * (R * H)) * (j * (u * (R * H))) ≡ j * u * R * (j * u * R) * (H * H)
        same j u R H = simp poly

        out : (l x y : ℕ) → l * x + y * l ≡ l * (x + y)
        out l x y = omega arith

-- 2. With a point nearer than n / c, the foot is nearer than n / c + R / k.
pub nearer : (F G j u R k c n : ℕ) → k * k * (j * j * F) ≤ k * k * (u * u * G) + j * u * R * (j * u * R) → c * c * G ≤ n * n * (j * j) → 0 < j
    → c * k * (c * k) * F ≤ u * (k * n + c * R) * (u * (k * n + c * R))
nearer F G j u R k c n h g jp =
    le_trans
    (le_of_mul-le-mul_left {k = j * j}
    (le_trans (times (mul-le-mul_left (c * c) h))
    (le_trans (add-le-add (mul-le-mul_left (k * u * (k * u)) g) (le_refl (c * c * (j * u * R * (j * u * R))))) (le_of_eq (out j u k c n R))))
    (mul-pos jp jp))
    (le_trans (le-add_right (u * u * (k * n * (k * n) + c * R * (c * R))) (u * u * (2 * (k * n * (c * R))))) (le_of_eq (square u (k * n) (c * R))))
  where
    times : c * c * (k * k * (j * j * F)) ≤ c * c * (k * k * (u * u * G) + j * u * R * (j * u * R))
        → j * j * (c * k * (c * k) * F) ≤ k * u * (k * u) * (c * c * G) + c * c * (j * u * R * (j * u * R))
    times h = simp poly (simp poly at h)

    out : (j u k c n R : ℕ) → k * u * (k * u) * (n * n * (j * j)) + c * c * (j * u * R * (j * u * R)) ≡ j * j * (u * u * (k * n * (k * n) + c * R * (c * R)))
    out j u k c n R = simp poly

    square : (u x y : ℕ) → u * u * (x * x + y * y) + u * u * (2 * (x * y)) ≡ u * (x + y) * (u * (x + y))
    square u x y = simp poly (omega arith)

-- 3. The computed vector (x, z): each part is within d of the foot's (a, b) / u, whose length is y / q at most.
pub vector : (a b x z u d q y : ℕ) → u * x ≤ a + u * d → u * z ≤ b + u * d → 0 < u → q * q * (a * a + b * b) ≤ u * y * (u * y)
    → q * q * (x * x + z * z) ≤ (y + 2 * (q * d)) * (y + 2 * (q * d))
vector a b x z u d q y e f up h =
    le_of_mul-le-mul_left {k = u * u}
    (le_trans (le_of_eq (left u q x z))
    (le_trans (lengthened (q * a) (q * b) (q * (u * x)) (q * (u * z)) (u * y) (q * (u * d)) (le_trans (le_of_eq (square_sum q a b)) h) (each a x e) (each b z f))
    (le_of_eq (right u y q d))))
    (mul-pos up up)
  where
    each : (a x : ℕ) → u * x ≤ a + u * d → q * (u * x) ≤ q * a + q * (u * d)
    each a x h = le_trans (mul-le-mul_left q h) (le_of_eq (mul-add q a (u * d)))

    left : (u q x z : ℕ) → u * u * (q * q * (x * x + z * z)) ≡ q * (u * x) * (q * (u * x)) + q * (u * z) * (q * (u * z))
    left u q x z = simp poly

    right : (u y q d : ℕ) → (u * y + 2 * (q * (u * d))) * (u * y + 2 * (q * (u * d))) ≡ u * u * ((y + 2 * (q * d)) * (y + 2 * (q * d)))
    right u y q d = simp poly (omega arith)

-- 4. A number x with x² ≤ 4 s, where the root of s is y / q at most, is 2 y / q at most.
pub rooted : (x s q y : ℕ) → x * x ≤ 4 * s → q * q * s ≤ y * y → q * x ≤ 2 * y
rooted x s q y h g =
    root_le (q * x) (2 * y)
    (le_trans (le_of_eq (square_product q x))
    (le_trans (mul-le-mul_left (q * q) h) (le_trans (le_of_eq (four q s)) (le_trans (mul-le-mul_left 4 g) (le_of_eq (right y))))))
  where
    four : (q s : ℕ) → q * q * (4 * s) ≡ 4 * (q * q * s)
    four q s = simp poly

    right : (y : ℕ) → 4 * (y * y) ≡ 2 * y * (2 * y)
    right y = omega arith
