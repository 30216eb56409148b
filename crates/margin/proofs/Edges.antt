-- `Far` does not ask which way an edge runs, nor which of two equal numbers, 0 or −0, stands in a vertex. Assumes nothing.
use Prim.Native.Nat.{ℕ, ◌+◌, ◌-◌, ◌*◌, ◌^◌, ◌≤◌, zero-le}
use mathlib.Core.Path.{◌≡◌, refl, sym, ap, ◌∙◌, subst}
use mathlib.Core.Bool.{Bool, true, false, cond, ◌||◌, beq, false≢true}
use mathlib.Mathlib.Data.Bool.Basic.{and_elim_left, and_elim_right}
use native.Mathlib.Nat.{le_trans, le_of_eq, le_antisymm}
use native.Mathlib.Omega.{arith}
use borrow.Author.Tests.{eqb-true}
use lib.Dec.{T, eqb}
use lib.IntN.{ℤ}
use lib.Ieee.{Float, nan, inf, fin, binary64, up, down, fits, eq}
use lib.Ieee.Fits.{down_pos}
use Rattle.hypotenuse.specs.Hypot.{count}
use Rattle.hypotenuse.proofs.Units.{count_exact}
use Rattle.hypotenuse.proofs.Poly.{poly}
use Rattle.plane.specs.declared.PlanarPoint.{PlanarPoint}
use Rattle.plane.specs.Plane.{same}
use Rattle.margins.specs.Far.{over, under, dist, sq, axis_apart, squared_apart, margin_of, Far}
use Rattle.margins.proofs.Values.{units_order}

-- ---- the other way round: the point i / j of ba is the point (j - i) / j of ab

same_dist : (a b c d : ℕ) → a + d ≡ c + b → dist a b ≡ dist c d
same_dist a b c d e = omega arith

same_sq : (a b c d : ℕ) → a + d ≡ c + b → sq a b ≡ sq c d
same_sq a b c d e = ap (λ (x : ℕ). x * x) (same_dist a b c d e)

axis_reversed : (op up oa ua ob ub k i : ℕ)
    → sq ((k + i) * (op + ua) + k * (ub + oa)) ((k + i) * (up + oa) + k * (ob + ua)) ≡ sq ((k + i) * (op + ub) + i * (ua + ob)) ((k + i) * (up + ob) + i * (oa + ub))
axis_reversed op up oa ua ob ub k i =
    same_sq ((k + i) * (op + ua) + k * (ub + oa)) ((k + i) * (up + oa) + k * (ob + ua)) ((k + i) * (op + ub) + i * (ua + ob)) ((k + i) * (up + ob) + i * (oa + ub)) (simp poly (omega arith))

reversed : (p a b : PlanarPoint) (k i : ℕ) → squared_apart p a b k (k + i) ≡ squared_apart p b a i (k + i)
unfolding squared_apart axis_apart
reversed p a b k i =
    rw (
      axis_reversed (over p.east) (under p.east) (over a.east) (under a.east) (over b.east) (under b.east) k i,
      axis_reversed (over p.north) (under p.north) (over a.north) (under a.north) (over b.north) (under b.north) k i,
    ) refl

pub far_reversed : (D M : ℕ) (p a b : PlanarPoint) → Far D M p a b → Far D M p b a
far_reversed D M p a b h i j l z =
    subst (λ (t : ℕ). margin_of D M * margin_of D M * (t * t) ≤ 10 ^ 30 * squared_apart p b a i t) (whole i j l)
    (le_trans (h (j - i) (j - i + i) (omega arith) (omega arith)) (le_of_eq (ap (λ (x : ℕ). 10 ^ 30 * x) (reversed p a b (j - i) i))))
  where
    whole : (i j : ℕ) → i ≤ j → j - i + i ≡ j
    whole i j l = omega arith

-- ---- an edge without length: the point a alone

axis_start : (x y s t c e i j : ℕ) → sq (j * x + 0 * s) (j * y + 0 * t) ≡ sq (j * x + i * (c + e)) (j * y + i * (e + c))
axis_start x y s t c e i j = same_sq (j * x + 0 * s) (j * y + 0 * t) (j * x + i * (c + e)) (j * y + i * (e + c)) (simp poly (omega arith))

started : (p a b : PlanarPoint) (i j : ℕ) → squared_apart p a b 0 j ≡ squared_apart p a a i j
unfolding squared_apart axis_apart
started p a b i j =
    rw (
      axis_start (over p.east + under a.east) (under p.east + over a.east) (under b.east + over a.east) (over b.east + under a.east) (under a.east) (over a.east) i j,
      axis_start (over p.north + under a.north) (under p.north + over a.north) (under b.north + over a.north) (over b.north + under a.north) (under a.north) (over a.north) i j,
    ) refl

pub far_start : (D M : ℕ) (p a b : PlanarPoint) → Far D M p a b → Far D M p a a
far_start D M p a b h i j l z = le_trans (h 0 j zero-le z) (le_of_eq (ap (λ (x : ℕ). 10 ^ 30 * x) (started p a b i j)))

-- ---- equal numbers have the same units

pub record SameUnits (x y : Float) : Type 0 where
  pub above : over x ≡ over y
  pub below : under x ≡ under y

module _ (m : ℕ) (e : ℤ) (n : ℕ) (d : ℤ) (s t : Bool) (f : T (fits binary64 (fin s m e))) (g : T (fits binary64 (fin t n d))) where
  counts_equal : m * up e * down d ≡ n * up d * down e → count m e ≡ count n d
  counts_equal h =
      le_antisymm
      (units_order (m * up e) (down e) (n * up d) (down d) (count m e) (count n d) (2 ^ 1074) (down_pos e) (down_pos d) (count_exact s m e f).1 (count_exact t n d g).1 (le_of_eq h))
      (units_order (n * up d) (down d) (m * up e) (down e) (count n d) (count m e) (2 ^ 1074) (down_pos d) (down_pos e) (count_exact t n d g).1 (count_exact s m e f).1 (le_of_eq (sym h)))

  count_none : m * up e * down d ≡ 0 → count m e ≡ 0
  count_none h =
      le_antisymm
      (units_order (m * up e) (down e) 0 (down d) (count m e) 0 (2 ^ 1074) (down_pos e) (down_pos d) (count_exact s m e f).1 (none (2 ^ 1074) (down d)) (le_of_eq (h ∙ zero_none (down e))))
      zero-le
    where
      none : (a b : ℕ) → 0 * a ≡ 0 * b
      none a b = omega arith

      zero_none : (a : ℕ) → 0 ≡ 0 * a
      zero_none a = omega arith

-- signs that differ only at 0
signs : (s t : Bool) (c : ℕ) (z : Bool) → (beq s t || z) ≡ true → (z ≡ true → c ≡ 0) → (cond s 0 c ≡ cond t 0 c) × (cond s c 0 ≡ cond t c 0)
signs true true c z h k = (refl, refl)
signs false false c z h k = (refl, refl)
signs true false c z h k = (sym (k h), k h)
signs false true c z h k = (k h, sym (k h))

pub equal_units : (x y : Float) → T (fits binary64 x) → T (fits binary64 y) → eq x y ≡ true → SameUnits x y
unfolding eq over under
equal_units nan y f g h = absurd (false≢true h)
equal_units (inf s) nan f g h = absurd (false≢true h)
equal_units (inf s) (inf t) f g h = record { above = refl; below = refl }
equal_units (inf s) (fin t n d) f g h = absurd (false≢true h)
equal_units (fin s m e) nan f g h = absurd (false≢true h)
equal_units (fin s m e) (inf t) f g h = absurd (false≢true h)
equal_units (fin s m e) (fin t n d) f g h =
    let a : ℕ = m * up e * down d in
    let b : ℕ = n * up d * down e in
    let level : a ≡ b = eqb-true a b (and_elim_left (eqb a b) (beq s t || eqb a 0) h) in
    let c : count m e ≡ count n d = counts_equal m e n d s t f g level in
    let w = signs s t (count m e) (eqb a 0) (and_elim_right (eqb a b) (beq s t || eqb a 0) h) (λ z. count_none m e n d s t f g (eqb-true a 0 z)) in
    record { above = w.0 ∙ ap (λ (x : ℕ). cond t 0 x) c; below = w.1 ∙ ap (λ (x : ℕ). cond t x 0) c }

pub record SamePoint (a b : PlanarPoint) : Type 0 where
  pub east : SameUnits a.east b.east
  pub north : SameUnits a.north b.north

pub equal_points : (a b : PlanarPoint) → T (fits binary64 a.east) → T (fits binary64 a.north) → T (fits binary64 b.east) → T (fits binary64 b.north) → same a b ≡ true
    → SamePoint a b
unfolding same
equal_points a b ae an be bn h = record {
  east = equal_units a.east b.east ae be (and_elim_left (eq a.east b.east) (eq a.north b.north) h);
  north = equal_units a.north b.north an bn (and_elim_right (eq a.east b.east) (eq a.north b.north) h);
}

apart_same : (p a b c : PlanarPoint) (i j : ℕ) → SamePoint b c → squared_apart p a b i j ≡ squared_apart p a c i j
unfolding squared_apart axis_apart
apart_same p a b c i j h = rw (h.east.above, h.east.below, h.north.above, h.north.below) refl

-- an edge that ends in an equal point
pub far_same : (D M : ℕ) (p a b c : PlanarPoint) → SamePoint b c → Far D M p a b → Far D M p a c
far_same D M p a b c e h i j l z = le_trans (h i j l z) (le_of_eq (ap (λ (x : ℕ). 10 ^ 30 * x) (apart_same p a b c i j e)))
