-- Three points of doubles below 2 ^ 400 in size: where one rounded product leads the other, the turn is known. Assumes nothing.
use mathlib.Core.Path.{◌≡◌, refl, sym, ap, ◌∙◌, subst}
use mathlib.Core.Logic.{◌⊎◌, inl, inr}
use mathlib.Core.Bool.{Bool, true, false, ◌&&◌, ◌||◌, and-eq-true_iff}
use mathlib.Mathlib.Data.Bool.Basic.{and_elim_left, and_elim_right}
use Prim.Native.Nat.{ℕ, ◌+◌, ◌*◌, ◌^◌, ◌≤◌, ◌<◌}
use native.Mathlib.Omega.{arith}
use lib.Dec.{T, ltb→lt}
use lib.IntN.{ℤ}
use lib.Ieee.{Float, nan, inf, fin, binary64, fits, lt, eq, neg, sub, mul, of_bits}
use Rattle.hypotenuse.proofs.Poly.{poly}
use Rattle.hypotenuse.specs.Hypot.{count}
use Rattle.hypotenuse.proofs.Units.{count_exact}
use Rattle.math.specs.Number.{finite}
use Rattle.math.proofs.Signed.{Signed, ◌⊖◌, ◌⊟◌, ◌⊗◌, negated, total}
use Rattle.math.proofs.Operations.{unit, limit, signed, Is, upward, neg_is}
use Rattle.math.proofs.Ranks.{Less, Equal, lt_signed, eq_signed}
use Rattle.plane.specs.declared.PlanarPoint.{PlanarPoint}
use Rattle.turn.specs.declared.Turn.{Turn}
use Rattle.turn.specs.declared.Turn.TheVariants.{Left, Right, Straight}
use Rattle.turn.specs.Turns.{place, left_sum, right_sum, by_sums, finite_point, turn, DoublePoint}
use Rattle.turn.specs.Filters.{big, more, tiny, inside, inside_point, inside_points, leads, surely_less, left_product, right_product, flat, Ready}
use Rattle.turn.specs.Laws.{above, beneath}
use Rattle.turn.proofs.Places.{or_either, place_level, finite_turn}
use Rattle.turn.proofs.Sign.{sums_level}
use Rattle.turn.proofs.Sums.{tells_left, tells_right, tells_straight}
use Rattle.turn.proofs.Filter.{Difference, difference, Product, multiplied, opposed, led}

-- ---- a number inside

pub record Inside (x : Float) : Type 0 where
  pub units : Signed
  pub is : Is x units
  pub small : total units ≤ 2 ^ 1474
  pub level : place x + units.minus ≡ 2 ^ 2098 + units.plus

big_is : Is big ((2 ^ 1474) ⊖ 0)
unfolding of_bits
big_is = upward big (2 ^ 1474) (refl, refl)

bound : (s : Signed) (L : ℕ) → (s.minus ≡ 0) ⊎ (s.plus ≡ 0) → Less s (L ⊖ 0) → Less (0 ⊖ L) s → total s ≤ L
bound s L (inl z) h k = omega arith
bound s L (inr z) h k = omega arith

pub inside_is : (x : Float) → T (fits binary64 x) → inside x ≡ true → Inside x
unfolding inside lt neg finite place above beneath of_bits
inside_is nan f h = absurd (subst T (sym h) tt)
inside_is (inf true) f h = absurd (subst T (sym (and_elim_right (lt (inf true) big) (lt (neg big) (inf true)) h)) tt)
inside_is (inf false) f h = absurd (subst T (sym (and_elim_left (lt (inf false) big) (lt (neg big) (inf false)) h)) tt)
inside_is (fin s m e) f h =
    let x = fin s m e in
    let u = count m e in
    let i : Is x (signed s u) = record { sign = s; size = u; value = count_exact s m e f; same = refl } in
    let both = (and-eq-true_iff (lt x big) (lt (neg big) x)).0 h in
    record {
      units = signed s u;
      is = i;
      small = bound (signed s u) (2 ^ 1474) (part s u) (lt_signed i big_is both.0) (lt_signed (neg_is big_is) i both.1);
      level = leveled s m e (place_level x f refl);
    }
  where
    leveled : (s : Bool) (m : ℕ) (e : ℤ) → place (fin s m e) + beneath (fin s m e) ≡ 2 ^ 2098 + above (fin s m e)
        → place (fin s m e) + (signed s (count m e)).minus ≡ 2 ^ 2098 + (signed s (count m e)).plus
    leveled true m e h = h
    leveled false m e h = h

    part : (s : Bool) (u : ℕ) → ((signed s u).minus ≡ 0) ⊎ ((signed s u).plus ≡ 0)
    part true u = inr refl
    part false u = inl refl

-- ---- differences and products of two numbers

-- the larger number's size and the other's
abbrev span : ℕ
span = 2 ^ 1475

-- y - x
subtract : {x y : Float} (i : Inside x) (j : Inside y) → Difference span (sub binary64 y x) (j.units ⊟ i.units)
subtract i j = difference span j.is i.is (sum (2 ^ 1474) span (total j.units) (total i.units) refl j.small i.small) (ltb→lt span limit tt)
  where
    sum : (L M x y : ℕ) → M ≡ L + L → x ≤ L → y ≤ L → x + y ≤ M
    sum L M x y e h k = omega arith

-- (y - x) (t - z)
crossed : {x y z t : Float} (i : Inside x) (j : Inside y) (k : Inside z) (l : Inside t)
    → Product (span * span) (mul binary64 (sub binary64 y x) (sub binary64 t z)) ((j.units ⊟ i.units) ⊗ (l.units ⊟ k.units))
crossed i j k l = multiplied span (subtract i j) (subtract k l) (ltb→lt (2 * span * (2 * span)) (unit * limit) tt)

-- v is surely less than w, so the exact products are in that order
in_order : {v w : Float} {X W : Signed} → Product (span * span) v X → Product (span * span) w W → surely_less v w ≡ true → Less X W
unfolding surely_less leads
in_order {v} {w} {X} {W} i j h = elim (or_either (leads v w) (leads (neg w) (neg v)) h) [
  | inl e ↦ let b = (and-eq-true_iff (lt (mul binary64 more v) w) (lt tiny w)).0 e in led (span * span) i j room b.0 b.1
  | inr e ↦ let b = (and-eq-true_iff (lt (mul binary64 more (neg w)) (neg v)) (lt tiny (neg v))).0 e in turned (led (span * span) (opposed j) (opposed i) room b.0 b.1)
]
  where
    room : 2 * (2 * (span * span) + unit) < unit * limit
    room = ltb→lt (2 * (2 * (span * span) + unit)) (unit * limit) tt

    turned : Less (negated W) (negated X) → Less X W
    turned h = omega arith

-- ---- equal numbers have one place
same_place : {x y : Float} (i : Inside x) (j : Inside y) → eq y x ≡ true → place y ≡ place x
same_place {x} {y} i j h = go (2 ^ 2098) (place x) (place y) i.units j.units i.level j.level (eq_signed j.is i.is h)
  where
    go : (O X Y : ℕ) (s t : Signed) → X + s.minus ≡ O + s.plus → Y + t.minus ≡ O + t.plus → Equal t s → Y ≡ X
    go O X Y s t e f g = omega arith

level_a : (ae an be bn ce cn : ℕ) → be ≡ ae → bn ≡ an → ae * bn + be * cn + ce * an ≡ an * be + bn * ce + cn * ae
level_a ae an be bn ce cn e f = rw (e, f) (simp poly (omega arith))

level_b : (ae an be bn ce cn : ℕ) → be ≡ ae → ce ≡ ae → ae * bn + be * cn + ce * an ≡ an * be + bn * ce + cn * ae
level_b ae an be bn ce cn e f = rw (e, f) (simp poly (omega arith))

level_c : (ae an be bn ce cn : ℕ) → cn ≡ an → bn ≡ an → ae * bn + be * cn + ce * an ≡ an * be + bn * ce + cn * ae
level_c ae an be bn ce cn e f = rw (e, f) (simp poly (omega arith))

level_d : (ae an be bn ce cn : ℕ) → cn ≡ an → ce ≡ ae → ae * bn + be * cn + ce * an ≡ an * be + bn * ce + cn * ae
level_d ae an be bn ce cn e f = rw (e, f) (simp poly (omega arith))

-- ---- three points

record InsidePoint (p : PlanarPoint) : Type 0 where
  east : Inside p.east
  north : Inside p.north

inside_both : (p : PlanarPoint) → DoublePoint p → inside_point p ≡ true → InsidePoint p
unfolding inside_point
inside_both p d h =
    let b = (and-eq-true_iff (inside p.east) (inside p.north)).0 h in
    record { east = inside_is p.east d.east_double b.0; north = inside_is p.north d.north_double b.1 }

finite_of : (x : Float) → Inside x → finite x ≡ true
unfolding finite
finite_of nan i = absurd i.is.value
finite_of (inf s) i = absurd i.is.value
finite_of (fin s m e) i = refl

finite_both : (p : PlanarPoint) → InsidePoint p → finite_point p ≡ true
unfolding finite_point
finite_both p i = rw (finite_of p.east i.east, finite_of p.north i.north) refl

record AllInside (a b c : PlanarPoint) : Type 0 where
  first : InsidePoint a
  second : InsidePoint b
  third : InsidePoint c

all_inside_of : (a b c : PlanarPoint) → Ready a b c → AllInside a b c
unfolding inside_points
all_inside_of a b c r =
    let h = (and-eq-true_iff (inside_point a) (inside_point b && inside_point c)).0 r.all_inside in
    let k = (and-eq-true_iff (inside_point b) (inside_point c)).0 h.1 in
    record { first = inside_both a r.first h.0; second = inside_both b r.second k.0; third = inside_both c r.third k.1 }

module _ (a b c : PlanarPoint) (i : AllInside a b c) where
  abbrev left_exact : Signed
  left_exact = (i.second.east.units ⊟ i.first.east.units) ⊗ (i.third.north.units ⊟ i.first.north.units)

  abbrev right_exact : Signed
  right_exact = (i.second.north.units ⊟ i.first.north.units) ⊗ (i.third.east.units ⊟ i.first.east.units)

  left_near : Product (span * span) (left_product a b c) left_exact
  left_near = crossed i.first.east i.second.east i.first.north i.third.north

  right_near : Product (span * span) (right_product a b c) right_exact
  right_near = crossed i.first.north i.second.north i.first.east i.third.east

  sums : left_sum a b c + (left_exact.minus + right_exact.plus) ≡ right_sum a b c + (left_exact.plus + right_exact.minus)
  sums =
      sums_level a b c i.first.east.units i.first.north.units i.second.east.units i.second.north.units i.third.east.units i.third.north.units
      i.first.east.level i.first.north.level i.second.east.level i.second.north.level i.third.east.level i.third.north.level

  to_left : surely_less (right_product a b c) (left_product a b c) ≡ true → right_sum a b c < left_sum a b c
  to_left h = go (left_sum a b c) (right_sum a b c) left_exact right_exact sums (in_order right_near left_near h)
    where
      go : (x y : ℕ) (l r : Signed) → x + (l.minus + r.plus) ≡ y + (l.plus + r.minus) → Less r l → y < x
      go x y l r e h = omega arith

  to_right : surely_less (left_product a b c) (right_product a b c) ≡ true → left_sum a b c < right_sum a b c
  to_right h = go (left_sum a b c) (right_sum a b c) left_exact right_exact sums (in_order left_near right_near h)
    where
      go : (x y : ℕ) (l r : Signed) → x + (l.minus + r.plus) ≡ y + (l.plus + r.minus) → Less l r → x < y
      go x y l r e h = omega arith

  to_line : flat a b c ≡ true → left_sum a b c ≡ right_sum a b c
  unfolding flat left_sum right_sum
  to_line h =
      let x = (and-eq-true_iff (eq b.east a.east || eq c.north a.north) (eq b.north a.north || eq c.east a.east)).0 h in
      elim (or_either (eq b.east a.east) (eq c.north a.north) x.0) [
        | inl e ↦ elim (or_either (eq b.north a.north) (eq c.east a.east) x.1) [
          | inl f ↦ level_a _ _ _ _ (place c.east) (place c.north) (same_place i.first.east i.second.east e) (same_place i.first.north i.second.north f)
          | inr f ↦ level_b _ (place a.north) _ (place b.north) _ (place c.north) (same_place i.first.east i.second.east e) (same_place i.first.east i.third.east f)
        ]
        | inr e ↦ elim (or_either (eq b.north a.north) (eq c.east a.east) x.1) [
          | inl f ↦ level_c (place a.east) _ (place b.east) _ (place c.east) _ (same_place i.first.north i.third.north e) (same_place i.first.north i.second.north f)
          | inr f ↦ level_d _ _ (place b.east) (place b.north) _ _ (same_place i.first.north i.third.north e) (same_place i.first.east i.third.east f)
        ]
      ]

  told : (t : Turn) → by_sums (left_sum a b c) (right_sum a b c) ≡ t → t ≡ turn a b c
  told t e = finite_turn a b c t (rw (finite_both a i.first, finite_both b i.second, finite_both c i.third) refl) (sym e)

-- ---- the filter's answers
module _ (a b c : PlanarPoint) (ready : Ready a b c) (l r : Float) (el : l ≡ left_product a b c) (er : r ≡ right_product a b c) where
  pub says_left : (t : Bool) → t ≡ surely_less r l → t ≡ true → Left ≡ turn a b c
  says_left t e g =
      told a b c (all_inside_of a b c ready) Left (tells_left (left_sum a b c) (right_sum a b c) (to_left a b c (all_inside_of a b c ready)
      (sym (e ∙ ap (λ (x : Float). surely_less x l) er ∙ ap (surely_less (right_product a b c)) el) ∙ g)))

  pub says_right : (t : Bool) → t ≡ surely_less l r → t ≡ true → Right ≡ turn a b c
  says_right t e g =
      told a b c (all_inside_of a b c ready) Right (tells_right (left_sum a b c) (right_sum a b c) (to_right a b c (all_inside_of a b c ready)
      (sym (e ∙ ap (λ (x : Float). surely_less x r) el ∙ ap (surely_less (left_product a b c)) er) ∙ g)))

pub says_straight : (a b c : PlanarPoint) → Ready a b c → (t : Bool) → t ≡ flat a b c → t ≡ true → Straight ≡ turn a b c
says_straight a b c ready t e g =
    told a b c (all_inside_of a b c ready) Straight
    (tells_straight (left_sum a b c) (right_sum a b c) (to_line a b c (all_inside_of a b c ready) (sym e ∙ g)))
