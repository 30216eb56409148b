-- The point of an edge nearest to p has a fraction of whole numbers: (p - a) · (b - a) / |b - a|², held between 0 and 1. Assumes nothing.
use mathlib.Core.Path.{◌≡◌, refl, sym, ap, ◌∙◌, subst}
use mathlib.Core.Logic.{◌⊎◌, inl, inr}
use Prim.Native.Nat.{ℕ, zero, suc, ◌+◌, ◌-◌, ◌*◌, ◌≤◌, ◌<◌}
use native.Mathlib.Nat.{le_trans, le_of_eq, le_of_mul-le-mul_left, eq-zero-or-pos}
use native.Mathlib.Omega.{arith}
use Rattle.hypotenuse.proofs.Order.{le_or_lt}
use Rattle.margins.specs.Far.{sq, axis_apart, squared_apart, NearestIsFraction}
use Rattle.math.proofs.Signed.{Signed, ◌⊗◌, square, Vector, from_to, inner, norm}
use Rattle.margins.proofs.Foot.{Foot, between, at_start, at_end, near_optimal}
use Rattle.margins.proofs.Apart.{apart, apart_square}
use Rattle.margins.proofs.Values.{units_of}

-- of a vector w and an edge x
record Least (w x : Vector) : Type 0 where
  i : ℕ
  j : ℕ
  within : i ≤ j
  some : 0 < j
  least : (k l : ℕ) → k ≤ l → 0 < l → l * l * apart w x i j ≤ j * j * apart w x k l

-- a number and its square are 0 together
no_square : (a b : ℕ) → sq a b ≡ 0 → a ≡ b
no_square a b h = root (a - b + (b - a)) h (λ (e : a - b + (b - a) ≡ 0). equal a b e)
  where
    equal : (a b : ℕ) → a - b + (b - a) ≡ 0 → a ≡ b
    equal a b e = omega arith

    root : (x : ℕ) → x * x ≡ 0 → (x ≡ 0 → a ≡ b) → a ≡ b
    root zero h f = f refl
    root (suc x) h f = absurd (no x h)
      where
        no : (x : ℕ) → suc x * suc x ≡ 0 → ⊥
        no x h = omega arith

module _ (w x : Vector) where
  -- a foot without an error is the nearest point
  by_foot : (t u : ℕ) → t ≤ u → 0 < u → 0 < norm x → Foot t u (norm x) (inner w x) 0 → Least w x
  by_foot t u tu U lp f = record {
    i = t;
    j = u;
    within = tu;
    some = U;
    least = λ k l kl z.
        le_of_mul-le-mul_left {k = norm x}
        (le_trans (near_optimal (norm w) (norm x) (inner w x) (apart w x t u) (apart w x k l) t u k l 0 (apart_square w x t u) (apart_square w x k l) kl f)
        (le_of_eq (nothing (norm x * (u * u * apart w x k l)) l)))
        lp;
  }
    where
      nothing : (x l : ℕ) → x + l * 0 * (l * 0) ≡ x
      nothing x l = omega arith

  -- an edge with a length
  long : 0 < norm x → Least w x
  long lp = go (inner w x) (norm x) refl refl (le_or_lt (inner w x).plus (inner w x).minus) (le_or_lt ((inner w x).minus + norm x) (inner w x).plus)
    where
      start : (d : Signed) (l : ℕ) → d.plus ≤ d.minus → 1 * d.plus ≤ 0 * l + 1 * d.minus + 0
      start d l h = omega arith

      end : (d : Signed) (l : ℕ) → d.minus + l ≤ d.plus → 1 * l + 1 * d.minus ≤ 1 * d.plus + 0
      end d l h = omega arith

      inside : (d : Signed) (l : ℕ) → d.plus < d.minus + l → d.plus - d.minus ≤ l
      inside d l h = omega arith

      same : (d : Signed) (l : ℕ) → d.minus < d.plus → (d.plus - d.minus) * l + l * d.minus ≡ l * d.plus
      same d l h = part d.plus (d.plus - d.minus) (is d.plus d.minus h)
        where
          is : (p m : ℕ) → m < p → p ≡ m + (p - m)
          is p m h = omega arith

          whole : (k m l : ℕ) → k * l + l * m ≡ l * (m + k)
          whole k m l = omega arith

          part : (p k : ℕ) → p ≡ d.minus + k → k * l + l * d.minus ≡ l * p
          part p k e = subst (λ (z : ℕ). k * l + l * d.minus ≡ l * z) (sym e) (whole k d.minus l)

      plus_zero : (a b : ℕ) → a ≡ b → (a ≤ b + 0) × (b ≤ a + 0)
      plus_zero a b e = omega arith

      go : (d : Signed) (l : ℕ) → inner w x ≡ d → norm x ≡ l
          → (d.plus ≤ d.minus) ⊎ (d.minus < d.plus) → (d.minus + l ≤ d.plus) ⊎ (d.plus < d.minus + l) → Least w x
      go d l e f (inl h) q = by_foot 0 1 (omega arith) (omega arith) lp (rw (e, f) (at_start refl (start d l h)))
      go d l e f (inr h) (inl g) = by_foot 1 1 (omega arith) (omega arith) lp (rw (e, f) (at_end refl (end d l g)))
      go d l e f (inr h) (inr g) =
          let s = plus_zero ((d.plus - d.minus) * l + l * d.minus) (l * d.plus) (same d l h) in
          by_foot (d.plus - d.minus) l (inside d l g) (subst (λ (y : ℕ). 0 < y) f lp) lp (rw (e, f) (between s.0 s.1))

  -- an edge without: any fraction is as near
  short : norm x ≡ 0 → Least w x
  short z = record {
    i = 0;
    j = 1;
    within = omega arith;
    some = omega arith;
    least = λ k l kl y. le_of_eq (flat l (apart w x 0 1) (apart w x k l) (at 0 1) (at k l));
  }
    where
      left : (a b : ℕ) → a + b ≡ 0 → (a ≡ 0) × (b ≡ 0)
      left a b h = omega arith

      axis : (v y : Signed) → square y ≡ 0 → (v ⊗ y).plus ≡ (v ⊗ y).minus
      axis v y h = subst (λ (a : ℕ). v.plus * a + v.minus * y.minus ≡ v.plus * y.minus + v.minus * a) (sym (no_square y.plus y.minus h)) refl

      level : (inner w x).plus ≡ (inner w x).minus
      level =
          let s = left (square x.east) (square x.north) z in
          ap (λ (a : ℕ). a + (w.north ⊗ x.north).plus) (axis w.east x.east s.0)
          ∙ ap (λ (b : ℕ). (w.east ⊗ x.east).minus + b) (axis w.north x.north s.1)

      at : (k l : ℕ) → apart w x k l ≡ l * l * norm w
      at k l =
          gone (apart w x k l) (l * l * norm w) (k * k * norm x) (k * l * (inner w x).plus) (k * l * (inner w x).minus)
          (ap (λ (y : ℕ). k * k * y) z ∙ nil (k * k)) (ap (λ (y : ℕ). k * l * y) level) (apart_square w x k l)
        where
          nil : (x : ℕ) → x * 0 ≡ 0
          nil x = omega arith

          gone : (f w k p n : ℕ) → k ≡ 0 → p ≡ n → f + 2 * p ≡ w + k + 2 * n → f ≡ w
          gone f w k p n e g h = omega arith

      flat : (l f g : ℕ) → f ≡ 1 * 1 * norm w → g ≡ l * l * norm w → l * l * f ≡ 1 * 1 * g
      flat l f g a b = ap (λ (y : ℕ). l * l * y) (a ∙ one (norm w)) ∙ sym b ∙ sym (one g)
        where
          one : (x : ℕ) → 1 * 1 * x ≡ x
          one x = omega arith

  any : Least w x
  any = go (eq-zero-or-pos (norm x))
    where
      go : (norm x ≡ 0) ⊎ (0 < norm x) → Least w x
      go (inl h) = short h
      go (inr h) = long h

-- the statement, of any point and edge
pub nearest_is_fraction : NearestIsFraction
unfolding squared_apart axis_apart
nearest_is_fraction p a b =
    let f = any (from_to (units_of a) (units_of p)) (from_to (units_of a) (units_of b)) in
    record { i = f.i; j = f.j; within = f.within; some = f.some; least = f.least }
