-- The turn is the sign of the cross product of the differences. Assumes nothing.
use mathlib.Core.Path.{◌≡◌, refl, sym, ap, subst}
use mathlib.Core.Logic.{◌⊎◌, inl, inr}
use mathlib.Core.Bool.{true, false}
use Prim.Native.Nat.{ℕ, ◌+◌, ◌*◌, ◌^◌}
use native.Mathlib.Nat.{mul_comm}
use native.Mathlib.Omega.{arith}
use lib.Dec.{T}
use lib.Ieee.{Float, nan, inf, fin, binary64, fits}
use lib.Ieee.Exact.{HasValue}
use Rattle.hypotenuse.proofs.Poly.{poly}
use Rattle.hypotenuse.proofs.Units.{count_exact}
use Rattle.math.specs.Number.{finite}
use Rattle.math.proofs.Signed.{Signed, ◌⊖◌, ◌⊟◌, ◌⊗◌}
use Rattle.plane.specs.declared.PlanarPoint.{PlanarPoint}
use Rattle.turn.specs.Turns.{place, left_sum, right_sum, by_sums, turn, Finite}
use Rattle.turn.specs.Laws.{above, beneath, cross_plus, cross_minus, TurnIsSign}
use Rattle.turn.proofs.Places.{place_level, east_finite, north_finite, finite_turn}
use Rattle.turn.proofs.Sums.{balanced}

-- the way between two places is that between their units
way : (O X Y : ℕ) (s t : Signed) → X + s.minus ≡ O + s.plus → Y + t.minus ≡ O + t.plus → Y + (t ⊟ s).minus ≡ X + (t ⊟ s).plus
way O X Y s t e f = omega arith

-- Y - X is p and T - Z is q, so their product is p ⊗ q
product_places : (X Y Z T : ℕ) (p q : Signed) → Y + p.minus ≡ X + p.plus → T + q.minus ≡ Z + q.plus → Y * T + X * Z + (p ⊗ q).minus ≡ Y * Z + X * T + (p ⊗ q).plus
product_places X Y Z T p q e f = go Y X T Z p.plus p.minus q.plus q.minus e f
  where
    go : (X' X Y' Y a b c d : ℕ) → X' + b ≡ X + a → Y' + d ≡ Y + c → X' * Y' + X * Y + (a * d + b * c) ≡ X' * Y + X * Y' + (a * c + b * d)
    go X' X Y' Y a b c d e f =
        let h : (X' + b) * Y' ≡ (X + a) * Y' = ap (λ (z : ℕ). z * Y') e in
        let i : (X' + b) * Y ≡ (X + a) * Y = ap (λ (z : ℕ). z * Y) e in
        let j : a * (Y' + d) ≡ a * (Y + c) = ap (λ (z : ℕ). a * z) f in
        let k : b * (Y' + d) ≡ b * (Y + c) = ap (λ (z : ℕ). b * z) f in
        omega (arith, simp poly at h, simp poly at i, simp poly at j, simp poly at k)

-- the sums of places differ by what the two products do
sums_of : (ae an be bn ce cn : ℕ) (l r : Signed)
    → be * cn + ae * an + l.minus ≡ be * an + ae * cn + l.plus → bn * ce + an * ae + r.minus ≡ bn * ae + an * ce + r.plus
    → ae * bn + be * cn + ce * an + (l.minus + r.plus) ≡ an * be + bn * ce + cn * ae + (l.plus + r.minus)
sums_of ae an be bn ce cn l r e f =
    swapped (ae * bn) (be * cn) (ce * an) (an * be) (bn * ce) (cn * ae) (ae * an) (be * an) (ae * cn) (bn * ae) (an * ce) (an * ae)
    (mul_comm be an) (mul_comm ae cn) (mul_comm bn ae) (mul_comm an ce) (mul_comm an ae) e f
  where
    swapped : (x1 x2 x3 y1 y2 y3 z u1 u2 u3 u4 z' : ℕ) → u1 ≡ y1 → u2 ≡ y3 → u3 ≡ x1 → u4 ≡ x3 → z' ≡ z
        → x2 + z + l.minus ≡ u1 + u2 + l.plus → y2 + z' + r.minus ≡ u3 + u4 + r.plus
        → x1 + x2 + x3 + (l.minus + r.plus) ≡ y1 + y2 + y3 + (l.plus + r.minus)
    swapped x1 x2 x3 y1 y2 y3 z u1 u2 u3 u4 z' a b c d g e f = omega arith

-- six numbers by their units, each with its place
module _ (a b c : PlanarPoint) (ae an be bn ce cn : Signed)
    (lae : place a.east + ae.minus ≡ 2 ^ 2098 + ae.plus) (lan : place a.north + an.minus ≡ 2 ^ 2098 + an.plus)
    (lbe : place b.east + be.minus ≡ 2 ^ 2098 + be.plus) (lbn : place b.north + bn.minus ≡ 2 ^ 2098 + bn.plus)
    (lce : place c.east + ce.minus ≡ 2 ^ 2098 + ce.plus) (lcn : place c.north + cn.minus ≡ 2 ^ 2098 + cn.plus) where
  abbrev left_exact : Signed
  left_exact = (be ⊟ ae) ⊗ (cn ⊟ an)

  abbrev right_exact : Signed
  right_exact = (bn ⊟ an) ⊗ (ce ⊟ ae)

  pub sums_level : left_sum a b c + (left_exact.minus + right_exact.plus) ≡ right_sum a b c + (left_exact.plus + right_exact.minus)
  unfolding left_sum right_sum
  sums_level =
      sums_of (place a.east) (place a.north) (place b.east) (place b.north) (place c.east) (place c.north) left_exact right_exact
      (product_places (place a.east) (place b.east) (place a.north) (place c.north) (be ⊟ ae) (cn ⊟ an)
      (way (2 ^ 2098) (place a.east) (place b.east) ae be lae lbe) (way (2 ^ 2098) (place a.north) (place c.north) an cn lan lcn))
      (product_places (place a.north) (place b.north) (place a.east) (place c.east) (bn ⊟ an) (ce ⊟ ae)
      (way (2 ^ 2098) (place a.north) (place b.north) an bn lan lbn) (way (2 ^ 2098) (place a.east) (place c.east) ae ce lae lce))

-- ---- the units of the numbers themselves

abbrev own : Float → Signed
own x = above x ⊖ beneath x

east_level : (p : PlanarPoint) → Finite p → place p.east + beneath p.east ≡ 2 ^ 2098 + above p.east
east_level p f = place_level p.east f.doubles.east_double (east_finite p f.both_finite)

north_level : (p : PlanarPoint) → Finite p → place p.north + beneath p.north ≡ 2 ^ 2098 + above p.north
north_level p f = place_level p.north f.doubles.north_double (north_finite p f.both_finite)

sign_law : (a b c : PlanarPoint) → Finite a → Finite b → Finite c → turn a b c ≡ by_sums (cross_plus a b c) (cross_minus a b c)
sign_law a b c f g h =
    sym (finite_turn a b c (by_sums (cross_plus a b c) (cross_minus a b c)) (rw (f.both_finite, g.both_finite, h.both_finite) refl)
    (balanced (left_sum a b c) (right_sum a b c) (cross_plus a b c) (cross_minus a b c)
    (sums_level a b c (own a.east) (own a.north) (own b.east) (own b.north) (own c.east) (own c.north)
    (east_level a f) (north_level a f) (east_level b g) (north_level b g) (east_level c h) (north_level c h))))

values_law : (x : Float) → T (fits binary64 x) → finite x ≡ true
    → (HasValue x false (above x) (2 ^ 1074) × (beneath x ≡ 0)) ⊎ (HasValue x true (beneath x) (2 ^ 1074) × (above x ≡ 0))
unfolding finite above beneath
values_law nan f h = absurd (subst T (sym h) tt)
values_law (inf s) f h = absurd (subst T (sym h) tt)
values_law (fin false m e) f h = inl (count_exact false m e f, refl)
values_law (fin true m e) f h = inr (count_exact true m e f, refl)

pub turn_is_sign : TurnIsSign
turn_is_sign = record { sign = sign_law; values = values_law }
