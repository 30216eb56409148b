-- The margin from one edge, over whole numbers: where the computed gap, a rounded root of the square of a computed vector to some point of
-- the edge, reaches the distance less the tolerance, no point of the edge is nearer than the margin. The vector's end is nearly the foot,
-- or any point where the edge is tiny. w goes from the edge's start to p, and x along the edge. Assumes nothing.
use mathlib.Core.Path.{◌≡◌, sym, ap, ◌∙◌, subst}
use mathlib.Core.Logic.{◌⊎◌, inl, inr}
use Prim.Native.Nat.{ℕ, ◌+◌, ◌-◌, ◌*◌, ◌^◌, ◌≤◌, ◌<◌}
use native.Mathlib.Nat.{le_trans, le_of_eq, le_of_lt, le_of_mul-le-mul_left, mul-pos, mul-sub, mul-le-mul, mul-le-mul_left, mul-le-mul_right, mul-add, mul_comm}
use native.Mathlib.Omega.{arith}
use Rattle.hypotenuse.proofs.Order.{le_or_lt}
use Rattle.plane.specs.declared.PlanarPoint.{PlanarPoint}
use Rattle.math.proofs.Naturals.{root_le, square_product, square_sum, Order, more, less, order}
use Rattle.math.proofs.Signed.{Signed, ◌·◌, negated, total, size, square, past, Close, Small, small_negated, small_scale, Vector, inner, norm}
use Rattle.margins.proofs.Foot.{Foot, near_optimal}
use Rattle.margins.proofs.DotProduct.{At}
use Rattle.margins.proofs.FootVector.{Along, part_length}
use Rattle.segment.proofs.Meet.{ring}
use Rattle.margins.proofs.Apart.{apart, apart_square}
use Rattle.margins.proofs.Lengths.{lengthened, nearly, nearer, vector}
use Rattle.margins.proofs.TooShort.{Gap, longest, too_short}

-- the point i / j of the edge is at least n / 10 ^ 15 away
abbrev pub Kept : ℕ → Vector → Vector → ℕ → ℕ → Type 0
Kept n w x i j = n * n * (j * j) ≤ 10 ^ 15 * 10 ^ 15 * apart w x i j

-- a nearer point is a contradiction
pub kept_unless : (n : ℕ) (w x : Vector) (i j : ℕ) → (10 ^ 15 * 10 ^ 15 * apart w x i j ≤ n * n * (j * j) → Kept n w x i j) → Kept n w x i j
kept_unless n w x i j f = go (le_or_lt (n * n * (j * j)) (10 ^ 15 * 10 ^ 15 * apart w x i j))
  where
    go : Kept n w x i j ⊎ (10 ^ 15 * 10 ^ 15 * apart w x i j < n * n * (j * j)) → Kept n w x i j
    go (inl h) = h
    go (inr h) = f (le_of_lt h)

-- v is the computed vector from p to the point T / u of the edge
pub record Reaching (v : PlanarPoint) (w x : Vector) (T u R : ℕ) : Type 0 where
  pub east : Along v.east (negated (past w.east x.east T u)) u (2 ^ 47) R
  pub north : Along v.north (negated (past w.north x.north T u)) u (2 ^ 47) R

-- the square of the length of a vector of doubles, of which one part each is 0
abbrev pub squares : Vector → ℕ
squares v = total v.east * total v.east + total v.north * total v.north

-- the units of v
abbrev pub reached : {v : PlanarPoint} {w x : Vector} {T u R : ℕ} → Reaching v w x T u R → Vector
reached a = record { east = a.east.units; north = a.north.units }

-- v is these units
pub reached_at : {v : PlanarPoint} {w x : Vector} {T u R : ℕ} (a : Reaching v w x T u R) → At v (reached a)
reached_at a = record { east = a.east.is; north = a.north.is }

-- ---- any two points of a tiny edge are near enough

close_size : {a b : Signed} {e : ℕ} → Close a b e → size a ≤ size b + e
close_size h = let x = h.above in let y = h.below in omega arith

size_scale : (k : ℕ) (a : Signed) → k * size a ≡ size (k · a)
size_scale k a =
    mul-add k (a.plus - a.minus) (a.minus - a.plus) ∙ ap (λ (x : ℕ). x + k * (a.minus - a.plus)) (mul-sub k a.plus a.minus)
    ∙ ap (λ (x : ℕ). k * a.plus - k * a.minus + x) (mul-sub k a.minus a.plus)

-- along one axis: the fractions T / u and i / j of x, which is at most S in size
axis_near : (w x : Signed) (T u i j S : ℕ) → T ≤ u → i ≤ j → Small x S → Close (j · past w x T u) (u · past w x i j) (u * j * S)
axis_near w x T u i j S tu ij s = go (order (j * T) (i * u))
  where
    -- a - b is y
    shifted : (a b y : Signed) (e : ℕ) → a.plus + b.minus + y.minus ≡ a.minus + b.plus + y.plus → Small y e → Close a b e
    shifted a b y e h s = record { above = omega (arith, s.above); below = omega (arith, s.below) }

    times : (a b c : ℕ) → a ≡ b → a * c ≡ b * c
    times a b c e = ap (λ (z : ℕ). z * c) e

    ahead : (p m q r k : ℕ) → j * T * q ≡ (i * u + k) * q → j * T * r ≡ (i * u + k) * r
        → j * (u * p + T * r) + u * (j * m + i * q) + k * q ≡ j * (u * m + T * q) + u * (j * p + i * r) + k * r
    ahead p m q r k e f = omega arith

    behind : (p m q r k : ℕ) → i * u * q ≡ (j * T + k) * q → i * u * r ≡ (j * T + k) * r
        → j * (u * p + T * r) + u * (j * m + i * q) + k * r ≡ j * (u * m + T * q) + u * (j * p + i * r) + k * q
    behind p m q r k e f = omega arith

    part : (a b k : ℕ) → a ≡ b + k → a ≤ u * j → k ≤ u * j
    part a b k e h = omega arith

    go : Order (j * T) (i * u) → Close (j · past w x T u) (u · past w x i j) (u * j * S)
    go (more k e) =
        shifted (j · past w x T u) (u · past w x i j) (k · negated x) (u * j * S)
        (ahead w.plus w.minus x.plus x.minus k (times (j * T) (i * u + k) x.plus e) (times (j * T) (i * u + k) x.minus e))
        (small_scale k (u * j) S (part (j * T) (i * u) k e (le_trans (mul-le-mul_left j tu) (le_of_eq (mul_comm j u)))) (small_negated s))
    go (less k e) =
        shifted (j · past w x T u) (u · past w x i j) (k · x) (u * j * S)
        (behind w.plus w.minus x.plus x.minus k (times (i * u) (j * T + k) x.plus e) (times (i * u) (j * T + k) x.minus e))
        (small_scale k (u * j) S (part (i * u) (j * T) k e (le_trans (mul-le-mul_right u ij) (le_of_eq (mul_comm j u)))) s)

-- from the vector's length against one point to that against another, with u cancelled
axis_length : (w x : Signed) (T u i j S v e : ℕ) → 0 < u → T ≤ u → i ≤ j → Small x S → u * v ≤ size (past w x T u) + u * e
    → j * v ≤ size (past w x i j) + j * (S + e)
axis_length w x T u i j S v e U tu ij s h =
    le_of_mul-le-mul_left {k = u}
    (joined (size (past w x T u)) (size (past w x i j)) (mul-le-mul_left j h)
    (subst (λ (z : ℕ). z ≤ u * size (past w x i j) + u * j * S) (sym (size_scale j (past w x T u)))
    (subst (λ (z : ℕ). size (j · past w x T u) ≤ z + u * j * S) (sym (size_scale u (past w x i j))) (close_size (axis_near w x T u i j S tu ij s)))))
    U
  where
    joined : (a c : ℕ) → j * (u * v) ≤ j * (a + u * e) → j * a ≤ u * c + u * j * S → u * (j * v) ≤ u * (c + j * (S + e))
    joined a c h k = omega arith

-- the square of the vector, with j cancelled and in the shape that `too_short` takes: c and k stand for 10 ^ 15 and 2 ^ 44
tiny_square : (c k j n S R d x z : ℕ) → 0 < j → 2 * (k * S) ≤ R
    → c * (j * x) * (c * (j * x)) + c * (j * z) * (c * (j * z)) ≤ (n * j + 2 * (c * (j * (S + d)))) * (n * j + 2 * (c * (j * (S + d))))
    → c * k * (c * k) * (x * x + z * z) ≤ (k * n + c * R + 2 * (c * k * d)) * (k * n + c * R + 2 * (c * k * d))
tiny_square c k j n S R d x z J t h =
    le_trans (le_of_eq (left c k x z))
    (le_trans (mul-le-mul_left (k * k) cancelled)
    (le_trans (le_of_eq (sym (square_product k (n + 2 * (c * (S + d)))))) (mul-le-mul (side (mul-le-mul_left c t)) (side (mul-le-mul_left c t)))))
  where
    left : (c k x z : ℕ) → c * k * (c * k) * (x * x + z * z) ≡ k * k * (c * c * (x * x + z * z))
    left c k x z = simp ring

    in_left : (c j x z : ℕ) → j * j * (c * c * (x * x + z * z)) ≡ c * (j * x) * (c * (j * x)) + c * (j * z) * (c * (j * z))
    in_left c j x z = simp ring

    in_right : (n j c e : ℕ) → (n * j + 2 * (c * (j * e))) * (n * j + 2 * (c * (j * e))) ≡ j * j * ((n + 2 * (c * e)) * (n + 2 * (c * e)))
    in_right n j c e = simp ring

    cancelled : c * c * (x * x + z * z) ≤ (n + 2 * (c * (S + d))) * (n + 2 * (c * (S + d)))
    cancelled = le_of_mul-le-mul_left {k = j * j} (le_trans (le_of_eq (in_left c j x z)) (le_trans h (le_of_eq (in_right n j c (S + d))))) (mul-pos J J)

    side : c * (2 * (k * S)) ≤ c * R → k * (n + 2 * (c * (S + d))) ≤ k * n + c * R + 2 * (c * k * d)
    side h = omega arith

-- ---- the two kinds of edge

module _ {v : PlanarPoint} {w x : Vector} {T u R D M n : ℕ} (a : Reaching v w x T u R) (gap : Gap D M u R n (squares (reached a)))
    (i j : ℕ) (ij : i ≤ j) (jp : 0 < j) where
  U : 0 < u
  U = omega (arith, gap.margin.large)

  -- what each part of the computed vector may be longer by
  abbrev d : ℕ
  d = a.east.e + a.north.e

  d_small : 2 ^ 46 * (a.east.e + a.north.e) ≤ R
  d_small = omega (arith, a.east.bound, a.north.bound)

  east_length : u * total a.east.units ≤ size (past w.east x.east T u) + u * d
  east_length = le_trans (part_length a.east) (wider u (size (past w.east x.east T u)) a.east.e a.north.e)
    where
      wider : (u s e f : ℕ) → s + u * e ≤ s + u * (e + f)
      wider u s e f = omega arith

  north_length : u * total a.north.units ≤ size (past w.north x.north T u) + u * d
  north_length = le_trans (part_length a.north) (wider u (size (past w.north x.north T u)) a.north.e a.east.e)
    where
      wider : (u s e f : ℕ) → s + u * e ≤ s + u * (f + e)
      wider u s e f = omega arith

  -- ---- an edge that is not tiny: T / u is nearly the foot
  pub edge_long : (H r : ℕ) → Foot T u (norm x) (inner w x) r → 2 ^ 44 * r ≤ u * (R * H) → H * H ≤ norm x → 0 < norm x → Kept n w x i j
  edge_long H r foot rb hl lp = kept_unless n w x i j (λ h. absurd (too_short d gap d_small (short h)))
    where
      short : 10 ^ 15 * 10 ^ 15 * apart w x i j ≤ n * n * (j * j)
          → 10 ^ 15 * 2 ^ 44 * (10 ^ 15 * 2 ^ 44) * squares (reached a) ≤ longest n R d * longest n R d
      short h =
          vector (size (past w.east x.east T u)) (size (past w.north x.north T u)) (total a.east.units) (total a.north.units) u d
          (10 ^ 15 * 2 ^ 44) (2 ^ 44 * n + 10 ^ 15 * R) east_length north_length U
          (nearer (apart w x T u) (apart w x i j) j u R (2 ^ 44) (10 ^ 15) n
          (nearly (norm x) j (apart w x T u) (apart w x i j) r u R H (2 ^ 44) optimal rb hl lp) h jp)
        where
          optimal : norm x * (j * j * apart w x T u) ≤ norm x * (u * u * apart w x i j) + j * r * (j * r)
          optimal = near_optimal (norm w) (norm x) (inner w x) (apart w x T u) (apart w x i j) T u i j r (apart_square w x T u) (apart_square w x i j) ij foot

  -- ---- a tiny edge: T / u is any point of it
  pub edge_short : (S : ℕ) → T ≤ u → Small x.east S → Small x.north S → 2 ^ 45 * S ≤ R → Kept n w x i j
  edge_short S tu sx sy sb = kept_unless n w x i j (λ h. absurd (too_short d gap d_small (short h)))
    where
      times : (c s y : ℕ) → j * y ≤ s + j * (S + d) → c * (j * y) ≤ c * s + c * (j * (S + d))
      times c s y h = le_trans (mul-le-mul_left c h) (le_of_eq (mul-add c s (j * (S + d))))

      east : ℕ
      east = size (past w.east x.east i j)

      north : ℕ
      north = size (past w.north x.north i j)

      -- the parts of the computed vector
      v1 : ℕ
      v1 = total a.east.units

      v2 : ℕ
      v2 = total a.north.units

      short : 10 ^ 15 * 10 ^ 15 * apart w x i j ≤ n * n * (j * j)
          → 10 ^ 15 * 2 ^ 44 * (10 ^ 15 * 2 ^ 44) * squares (reached a) ≤ longest n R d * longest n R d
      short h =
          tiny_square (10 ^ 15) (2 ^ 44) j n S R d v1 v2 jp (omega arith)
          (lengthened (10 ^ 15 * east) (10 ^ 15 * north) (10 ^ 15 * (j * v1)) (10 ^ 15 * (j * v2)) (n * j) (10 ^ 15 * (j * (S + d)))
          (le_trans (le_of_eq (square_sum (10 ^ 15) east north)) (le_trans h (le_of_eq (sym (square_product n j)))))
          (times (10 ^ 15) east v1 (axis_length w.east x.east T u i j S v1 d U tu ij sx east_length))
          (times (10 ^ 15) north v2 (axis_length w.north x.north T u i j S v2 d U tu ij sy north_length)))

-- ---- a point of the edge nearer than D bounds w: |w| ≤ |x| + D, an axis at a time
pub reach_axis : (w x : Signed) (i j D c n G : ℕ) → 0 < j → i ≤ j → n ≤ c * D → 0 < c → c * c * G ≤ n * n * (j * j) → square (past w x i j) ≤ G
    → Small w (size x + D)
reach_axis w x i j D c n G jp ij nd cp g s = record {
  above = le_of_mul-le-mul_left {k = j} (under w.plus w.minus x.plus x.minus (over (past w x i j)).0 (edge x).0) jp;
  below = le_of_mul-le-mul_left {k = j} (under w.minus w.plus x.minus x.plus (over (past w x i j)).1 (edge x).1) jp;
}
  where
    regroup : (c D j : ℕ) → c * D * j ≡ c * (j * D)
    regroup c D j = simp ring

    bound : n * j ≤ c * (j * D)
    bound = le_trans (mul-le-mul_right j nd) (le_of_eq (regroup c D j))

    near : size (past w x i j) ≤ j * D
    near =
        le_of_mul-le-mul_left {k = c}
        (root_le (c * size (past w x i j)) (c * (j * D))
        (le_trans (le_of_eq (square_product c (size (past w x i j))))
        (le_trans (mul-le-mul_left (c * c) s) (le_trans g (le_trans (le_of_eq (sym (square_product n j))) (mul-le-mul bound bound))))))
        cp

    over : (a : Signed) → (size a ≤ j * D → a.plus ≤ a.minus + j * D) × (size a ≤ j * D → a.minus ≤ a.plus + j * D)
    over a = ((λ h. omega arith), (λ h. omega arith))

    edge : (x : Signed) → (i * x.plus ≤ i * (x.minus + size x)) × (i * x.minus ≤ i * (x.plus + size x))
    edge x = (mul-le-mul_left i (omega arith), mul-le-mul_left i (omega arith))

    under : (p m q r : ℕ) → (size (past w x i j) ≤ j * D → j * p + i * r ≤ j * m + i * q + j * D) → i * q ≤ i * (r + size x) → j * p ≤ j * (m + (size x + D))
    under p m q r f k = last (size x) k (mul-le-mul_right (size x) ij) (f near)
      where
        last : (s : ℕ) → i * q ≤ i * (r + s) → i * s ≤ j * s → j * p + i * r ≤ j * m + i * q + j * D → j * p ≤ j * (m + (s + D))
        last s a b c = omega arith
