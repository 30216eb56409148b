-- The squared distance from p to the point i / j of an edge, in units of 1 / j², as a polynomial in i and j: w goes from the edge's start
-- to p, and x along the edge. Assumes nothing.
use mathlib.Core.Path.{◌≡◌, sym, ap, ◌∙◌}
use Prim.Native.Nat.{ℕ, ◌+◌, ◌-◌, ◌*◌}
use native.Mathlib.Omega.{arith}
use Rattle.margins.specs.Far.{sq}
use Rattle.math.proofs.Naturals.{Order, more, less, order}
use Rattle.math.proofs.Signed.{Signed, ◌⊕◌, ◌⊗◌, square, past, Vector, inner, norm}
use Rattle.segment.proofs.Meet.{ring}
use Rattle.margins.proofs.Foot.{Square}

-- (a - b)² = a² + b² - 2 a b
sq_is : (a b : ℕ) → sq a b + 2 * (a * b) ≡ a * a + b * b
sq_is a b = go (order a b)
  where
    up : (b k : ℕ) → (k + 0) * (k + 0) + 2 * ((b + k) * b) ≡ (b + k) * (b + k) + b * b
    up b k = omega arith

    down : (a k : ℕ) → (0 + k) * (0 + k) + 2 * (a * (a + k)) ≡ a * a + (a + k) * (a + k)
    down a k = omega arith

    at : (x y v w : ℕ) → x ≡ v → y ≡ w → (v + w) * (v + w) + 2 * (a * b) ≡ a * a + b * b → (x + y) * (x + y) + 2 * (a * b) ≡ a * a + b * b
    at x y v w e f h = rw (e, f) h

    go : Order a b → sq a b + 2 * (a * b) ≡ a * a + b * b
    go (more k e) = at (a - b) (b - a) k 0 (omega arith) (omega arith) (rw e (up b k))
    go (less k e) = at (a - b) (b - a) 0 k (omega arith) (omega arith) (rw e (down a k))

-- one axis
axis_square : (w x : Signed) (i j : ℕ)
    → square (past w x i j) + 2 * (i * j * (w ⊗ x).plus) ≡ j * j * square w + i * i * square x + 2 * (i * j * (w ⊗ x).minus)
axis_square w x i j =
    ap (λ (z : ℕ). square (past w x i j) + 2 * z) (mixed i j w.plus x.plus w.minus x.minus)
    ∙ last (j * w.plus) (i * x.minus) (j * w.minus) (i * x.plus) (square (past w x i j)) (j * j * square w) (i * i * square x)
    (sq_is (j * w.plus + i * x.minus) (j * w.minus + i * x.plus)) (scaled j w.plus w.minus (square w) (sq_is w.plus w.minus))
    (regroup (i * x.plus) (i * x.minus) (i * i * square x) (scaled i x.plus x.minus (square x) (sq_is x.plus x.minus)))
    ∙ ap (λ (z : ℕ). j * j * square w + i * i * square x + 2 * z) (sym (mixed i j w.plus x.minus w.minus x.plus))
  where
    mixed : (i j p q r s : ℕ) → i * j * (p * q + r * s) ≡ j * p * (i * q) + j * r * (i * s)
    mixed i j p q r s = simp ring

    scaled : (k p m b : ℕ) → b + 2 * (p * m) ≡ p * p + m * m → k * k * b + 2 * (k * p * (k * m)) ≡ k * p * (k * p) + k * m * (k * m)
    scaled k p m b h = simp ring (simp ring at (ap (λ (z : ℕ). k * k * z) h))

    regroup : (v q c : ℕ) → c + 2 * (v * q) ≡ v * v + q * q → c + 2 * (q * v) ≡ q * q + v * v
    regroup v q c h = omega arith

    last : (p q r s a b c : ℕ) → a + 2 * ((p + q) * (r + s)) ≡ (p + q) * (p + q) + (r + s) * (r + s) → b + 2 * (p * r) ≡ p * p + r * r
        → c + 2 * (q * s) ≡ q * q + s * s → a + 2 * (p * s + r * q) ≡ b + c + 2 * (p * q + r * s)
    last p q r s a b c h f g = omega arith

-- both axes
abbrev pub apart : Vector → Vector → ℕ → ℕ → ℕ
apart w x i j = square (past w.east x.east i j) + square (past w.north x.north i j)

-- it is the square of `Foot`
pub apart_square : (w x : Vector) (i j : ℕ) → Square (norm w) (norm x) (inner w x) (apart w x i j) i j
apart_square w x i j =
    both (square (past w.east x.east i j)) (square (past w.north x.north i j)) (w.east ⊗ x.east) (w.north ⊗ x.north)
    (square w.east) (square w.north) (square x.east) (square x.north) (axis_square w.east x.east i j) (axis_square w.north x.north i j)
  where
    both : (f g : ℕ) (p q : Signed) (v w l m : ℕ) → f + 2 * (i * j * p.plus) ≡ j * j * v + i * i * l + 2 * (i * j * p.minus)
        → g + 2 * (i * j * q.plus) ≡ j * j * w + i * i * m + 2 * (i * j * q.minus)
        → f + g + 2 * (i * j * (p ⊕ q).plus) ≡ j * j * (v + w) + i * i * (l + m) + 2 * (i * j * (p ⊕ q).minus)
    both f g p q v w l m a b = omega arith

-- the dot product of x with itself is the square of its length
pub norm_is : (x : Vector) → (inner x x).plus + 0 ≡ (inner x x).minus + norm x
norm_is x = last x.east x.north (square x.east) (square x.north) (sq_is x.east.plus x.east.minus) (sq_is x.north.plus x.north.minus)
  where
    last : (a b : Signed) (s t : ℕ) → s + 2 * (a.plus * a.minus) ≡ a.plus * a.plus + a.minus * a.minus
        → t + 2 * (b.plus * b.minus) ≡ b.plus * b.plus + b.minus * b.minus → (a ⊗ a ⊕ b ⊗ b).plus + 0 ≡ (a ⊗ a ⊕ b ⊗ b).minus + (s + t)
    last a b s t h k = omega arith
