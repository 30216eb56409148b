-- The sums over places and the sums over sizes and signs tell the same turn. Assumes nothing.
use mathlib.Core.Path.{◌≡◌, refl, sym, ap, ◌∙◌, subst}
use mathlib.Core.Logic.{◌⊎◌, inl, inr}
use mathlib.Core.Bool.{Bool, beq, true, false, cond, ◌&&◌, ◌||◌, and-eq-true_iff}
use mathlib.Mathlib.Data.Bool.Basic.{and_elim_left, and_elim_right}
use Prim.Native.Nat.{ℕ, ◌+◌, ◌-◌, ◌*◌, ◌%◌, ◌^◌, ◌≤◌, ◌<◌}
use native.Mathlib.Nat.{le_of_lt, lt_of_lt_of_le}
use native.Mathlib.Omega.{arith}
use lib.Dec.{T, leb}
use lib.Pow.{pow_mono, shl_lt}
use lib.Ieee.{Float, nan, inf, fin, binary64, fits, to_bits}
use Rattle.hypotenuse.proofs.Poly.{poly}
use Rattle.hypotenuse.specs.Hypot.{count}
use Rattle.math.specs.Number.{finite}
use Rattle.math.specs.Parts.{exponent_of, significand_of, units_of}
use Rattle.math.proofs.Values.{magnitude_fin, value_fin}
use Rattle.plane.specs.declared.PlanarPoint.{PlanarPoint}
use Rattle.turn.specs.declared.Turn.{Turn}
use Rattle.turn.specs.declared.Turn.TheVariants.{Unknown}
use Rattle.turn.specs.declared.exact.Limbs.{Limbs}
use Rattle.turn.specs.Turns.{place_of, place, left_sum, right_sum, by_sums, finite_point, turn}
use Rattle.turn.specs.Laws.{above, beneath}
use Rattle.turn.specs.Digits.{units, xor, side_total, LimbsOf, Placed}
use Rattle.turn.proofs.Sums.{balanced}

-- what a number adds above the origin, and below it
abbrev plus : Bool → ℕ → ℕ
plus s u = cond s 0 u

abbrev minus : Bool → ℕ → ℕ
minus s u = cond s u 0

-- the origin is O; O stays a name
level : (O P u : ℕ) (s : Bool) → u ≤ O → P ≡ cond s (O - u) (O + u) → P + minus s u ≡ O + plus s u
level O P u true h e = omega arith
level O P u false h e = omega arith

leveled : (P u : ℕ) (s : Bool) → Placed P s u → P + minus s u ≡ 2 ^ 2098 + plus s u
unfolding place_of
leveled P u s w = level (2 ^ 2098) P u s w.within w.is

-- one product of two places
pair : (O P Q p n q m : ℕ) → P + n ≡ O + p → Q + m ≡ O + q → P * Q + (O * n + O * m) + (p * m + n * q) ≡ O * O + (O * p + O * q) + (p * q + n * m)
pair O P Q p n q m e f =
    let a : (P + n) * Q ≡ (O + p) * Q = ap (λ (z : ℕ). z * Q) e in
    let b : O * (Q + m) ≡ O * (O + q) = ap (λ (z : ℕ). O * z) f in
    let c : p * (Q + m) ≡ p * (O + q) = ap (λ (z : ℕ). p * z) f in
    let d : n * (Q + m) ≡ n * (O + q) = ap (λ (z : ℕ). n * z) f in
    omega (arith, simp poly at a, simp poly at b, simp poly at c, simp poly at d)

-- what the product of two numbers counts, to the right where `right`, else to the left
abbrev part : (right turned s t : Bool) (u v : ℕ) → ℕ
part right turned s t u v = cond (beq (xor turned (xor s t)) right) (u * v) 0

-- x is what a product adds to one side, y what it adds to the other
even_left : (s t : Bool) (u v : ℕ) → part false false s t u v ≡ plus s u * plus t v + minus s u * minus t v
even_left true true u v = omega arith
even_left true false u v = omega arith
even_left false true u v = omega arith
even_left false false u v = omega arith

even_right : (s t : Bool) (u v : ℕ) → part true false s t u v ≡ plus s u * minus t v + minus s u * plus t v
even_right true true u v = omega arith
even_right true false u v = omega arith
even_right false true u v = omega arith
even_right false false u v = omega arith

odd_left : (s t : Bool) (u v : ℕ) → part false true s t u v ≡ plus s u * minus t v + minus s u * plus t v
odd_left true true u v = omega arith
odd_left true false u v = omega arith
odd_left false true u v = omega arith
odd_left false false u v = omega arith

odd_right : (s t : Bool) (u v : ℕ) → part true true s t u v ≡ plus s u * plus t v + minus s u * minus t v
odd_right true true u v = omega arith
odd_right true false u v = omega arith
odd_right false true u v = omega arith
odd_right false false u v = omega arith

-- a product on the left and its share; D is what its places bring
record Even (D E A B : ℕ) (s t : Bool) (u v : ℕ) : Type 0 where
  is : A * B + D + part true false s t u v ≡ E + part false false s t u v

record Odd (D E A B : ℕ) (s t : Bool) (u v : ℕ) : Type 0 where
  is : A * B + D + part false true s t u v ≡ E + part true true s t u v

abbrev shift_down : Bool → Bool → ℕ → ℕ → ℕ
shift_down s t u v = 2 ^ 2098 * minus s u + 2 ^ 2098 * minus t v

abbrev shift_up : Bool → Bool → ℕ → ℕ → ℕ
shift_up s t u v = 2 ^ 2098 * 2 ^ 2098 + (2 ^ 2098 * plus s u + 2 ^ 2098 * plus t v)

even : (A B : ℕ) (s t : Bool) (u v : ℕ) → Placed A s u → Placed B t v → Even (shift_down s t u v) (shift_up s t u v) A B s t u v
even A B s t u v a b = record {
  is = ap (λ (x : ℕ). A * B + shift_down s t u v + x) (even_right s t u v)
      ∙ pair (2 ^ 2098) A B (plus s u) (minus s u) (plus t v) (minus t v) (leveled A u s a) (leveled B v t b)
      ∙ ap (λ (x : ℕ). shift_up s t u v + x) (sym (even_left s t u v));
}

odd : (A B : ℕ) (s t : Bool) (u v : ℕ) → Placed A s u → Placed B t v → Odd (shift_down s t u v) (shift_up s t u v) A B s t u v
odd A B s t u v a b = record {
  is = ap (λ (x : ℕ). A * B + shift_down s t u v + x) (odd_left s t u v)
      ∙ pair (2 ^ 2098) A B (plus s u) (minus s u) (plus t v) (minus t v) (leveled A u s a) (leveled B v t b)
      ∙ ap (λ (x : ℕ). shift_up s t u v + x) (sym (odd_right s t u v));
}

-- three products on each side; each number stands once on each, so what the places bring is the same
gathered : (O na nb nc nd ne nf pa pb pc pd pe pf A B C D E F xa xb xc xd xe xf ya yb yc yd ye yf : ℕ)
    → A + (na + nd) + ya ≡ O + (pa + pd) + xa → B + (nc + nf) + yb ≡ O + (pc + pf) + xb → C + (ne + nb) + yc ≡ O + (pe + pb) + xc
    → D + (nb + nc) + xd ≡ O + (pb + pc) + yd → E + (nd + ne) + xe ≡ O + (pd + pe) + ye → F + (nf + na) + xf ≡ O + (pf + pa) + yf
    → A + B + C + (ya + yb + yc + yd + ye + yf) ≡ D + E + F + (xa + xb + xc + xd + xe + xf)
gathered O na nb nc nd ne nf pa pb pc pd pe pf A B C D E F xa xb xc xd xe xf ya yb yc yd ye yf h1 h2 h3 h4 h5 h6 = omega arith

module _ (ae an be bn ce cn : ℕ) (sae san sbe sbn sce scn : Bool) (uae uan ube ubn uce ucn : ℕ)
    (wae : Placed ae sae uae) (wan : Placed an san uan) (wbe : Placed be sbe ube) (wbn : Placed bn sbn ubn) (wce : Placed ce sce uce) (wcn : Placed cn scn ucn) where
  pub level_sums :
      ae * bn + be * cn + ce * an
      + (part true false sae sbn uae ubn + part true false sbe scn ube ucn + part true false sce san uce uan
      + part true true san sbe uan ube + part true true sbn sce ubn uce + part true true scn sae ucn uae)
      ≡ an * be + bn * ce + cn * ae
      + (part false false sae sbn uae ubn + part false false sbe scn ube ucn + part false false sce san uce uan
      + part false true san sbe uan ube + part false true sbn sce ubn uce + part false true scn sae ucn uae)
  level_sums =
      gathered (2 ^ 2098 * 2 ^ 2098)
      (2 ^ 2098 * minus sae uae) (2 ^ 2098 * minus san uan) (2 ^ 2098 * minus sbe ube) (2 ^ 2098 * minus sbn ubn) (2 ^ 2098 * minus sce uce) (2 ^ 2098 * minus scn ucn)
      (2 ^ 2098 * plus sae uae) (2 ^ 2098 * plus san uan) (2 ^ 2098 * plus sbe ube) (2 ^ 2098 * plus sbn ubn) (2 ^ 2098 * plus sce uce) (2 ^ 2098 * plus scn ucn)
      (ae * bn) (be * cn) (ce * an) (an * be) (bn * ce) (cn * ae)
      (part false false sae sbn uae ubn) (part false false sbe scn ube ucn) (part false false sce san uce uan)
      (part false true san sbe uan ube) (part false true sbn sce ubn uce) (part false true scn sae ucn uae)
      (part true false sae sbn uae ubn) (part true false sbe scn ube ucn) (part true false sce san uce uan)
      (part true true san sbe uan ube) (part true true sbn sce ubn uce) (part true true scn sae ucn uae)
      (even ae bn sae sbn uae ubn wae wbn).is (even be cn sbe scn ube ucn wbe wcn).is (even ce an sce san uce uan wce wan).is
      (odd an be san sbe uan ube wan wbe).is (odd bn ce sbn sce ubn uce wbn wce).is (odd cn ae scn sae ucn uae wcn wae).is

-- ---- a finite double's place

pub finite_magnitude : (x : Float) → T (fits binary64 x) → finite x ≡ true → to_bits binary64 x % 2 ^ 63 < 2047 * 2 ^ 52
unfolding finite
finite_magnitude nan f h = absurd (subst T (sym h) tt)
finite_magnitude (inf s) f h = absurd (subst T (sym h) tt)
finite_magnitude (fin s m e) f h = (magnitude_fin s m e f).0

pub units_few : (a : ℕ) → a < 2047 * 2 ^ 52 → units_of a < 2 ^ 2098
unfolding units_of
units_few a h = lt_of_lt_of_le (shl_lt 53 (exponent_of a) (short a)) (pow_mono (few a h))
  where
    short : (a : ℕ) → significand_of a < 2 ^ 53
    short a = omega arith

    few : (a : ℕ) → a < 2047 * 2 ^ 52 → 53 + exponent_of a ≤ 2098
    few a h = omega arith

pub placed_fin : (x : Float) → T (fits binary64 x) → finite x ≡ true → Placed (place x) (leb (2 ^ 63) (to_bits binary64 x)) (units_of (to_bits binary64 x % 2 ^ 63))
unfolding finite place
placed_fin nan f h = absurd (subst T (sym h) tt)
placed_fin (inf s) f h = absurd (subst T (sym h) tt)
placed_fin (fin s m e) f h = record {
  is = ap (λ (b : Bool). place_of b (count m e)) (value_fin s m e f).0 ∙ ap (place_of (leb (2 ^ 63) (to_bits binary64 (fin s m e)))) (sym (magnitude_fin s m e f).1);
  within = le_of_lt (units_few (to_bits binary64 (fin s m e) % 2 ^ 63) (magnitude_fin s m e f).0);
}

-- its place by its units
pub place_level : (x : Float) → T (fits binary64 x) → finite x ≡ true → place x + beneath x ≡ 2 ^ 2098 + above x
unfolding finite place above beneath
place_level nan f h = absurd (subst T (sym h) tt)
place_level (inf s) f h = absurd (subst T (sym h) tt)
place_level (fin s m e) f h = leveled (place_of s (count m e)) (count m e) s (record {
  is = refl;
  within = subst (λ (u : ℕ). u ≤ 2 ^ 2098) (magnitude_fin s m e f).1 (le_of_lt (units_few (to_bits binary64 (fin s m e) % 2 ^ 63) (magnitude_fin s m e f).0));
})

pub placed : (x : Float) (l : Limbs) → T (fits binary64 x) → finite x ≡ true → LimbsOf (leb (2 ^ 63) (to_bits binary64 x)) (units_of (to_bits binary64 x % 2 ^ 63)) l → Placed (place x) l.back (units l)
placed x l f h w = subst (λ (b : Bool). Placed (place x) b (units l)) (sym w.back_is) (subst (λ (u : ℕ). Placed (place x) (leb (2 ^ 63) (to_bits binary64 x)) u) (sym w.is) (placed_fin x f h))

-- ---- the turn
pub turn_law : (a b c : PlanarPoint) (ae an be bn ce cn : Limbs)
    → Placed (place a.east) ae.back (units ae) → Placed (place a.north) an.back (units an)
    → Placed (place b.east) be.back (units be) → Placed (place b.north) bn.back (units bn)
    → Placed (place c.east) ce.back (units ce) → Placed (place c.north) cn.back (units cn)
    → by_sums (side_total false ae an be bn ce cn) (side_total true ae an be bn ce cn) ≡ by_sums (left_sum a b c) (right_sum a b c)
unfolding left_sum right_sum side_total
turn_law a b c ae an be bn ce cn pae pan pbe pbn pce pcn =
    balanced _ _ _ _
    (level_sums (place a.east) (place a.north) (place b.east) (place b.north) (place c.east) (place c.north)
    ae.back an.back be.back bn.back ce.back cn.back (units ae) (units an) (units be) (units bn) (units ce) (units cn) pae pan pbe pbn pce pcn)

-- ---- the six numbers of three points
pub or_either : (a b : Bool) → (a || b) ≡ true → (a ≡ true) ⊎ (b ≡ true)
or_either true b h = inl refl
or_either false b h = inr h

pub east_finite : (p : PlanarPoint) → finite_point p ≡ true → finite p.east ≡ true
unfolding finite_point
east_finite p h = and_elim_left (finite p.east) (finite p.north) h

pub north_finite : (p : PlanarPoint) → finite_point p ≡ true → finite p.north ≡ true
unfolding finite_point
north_finite p h = and_elim_right (finite p.east) (finite p.north) h

-- all three points are finite, so the sums tell
pub finite_turn : (a b c : PlanarPoint) (r : Turn) → (finite_point a && (finite_point b && finite_point c)) ≡ true
    → r ≡ by_sums (left_sum a b c) (right_sum a b c) → r ≡ turn a b c
unfolding turn
finite_turn a b c r h e = e ∙ ap (λ (t : Bool). cond t (by_sums (left_sum a b c) (right_sum a b c)) Unknown) (sym h)

-- one of them is not
pub no_turn : (a b c : PlanarPoint) → (finite_point a && (finite_point b && finite_point c)) ≡ false → Unknown ≡ turn a b c
unfolding turn
no_turn a b c h = ap (λ (t : Bool). cond t (by_sums (left_sum a b c) (right_sum a b c)) Unknown) (sym h)

-- three tests of three points
pub three_tests : (a b c : PlanarPoint) (x y z : Bool) → x ≡ finite_point a → y ≡ finite_point b → z ≡ finite_point c
    → (x && (y && z)) ≡ (finite_point a && (finite_point b && finite_point c))
three_tests a b c x y z e f g = rw (e, f, g) refl

pub all_finite : (a b c : PlanarPoint) → (finite_point a && (finite_point b && finite_point c)) ≡ true
    → (finite_point a ≡ true) × ((finite_point b ≡ true) × (finite_point c ≡ true))
all_finite a b c h =
    let f = (and-eq-true_iff (finite_point a) (finite_point b && finite_point c)).0 h in
    (f.0, (and-eq-true_iff (finite_point b) (finite_point c)).0 f.1)
