-- The turn from b by a, from b by c, and from a by a; places by the bits. Assumes nothing.
use mathlib.Core.Path.{◌≡◌, refl, sym, ap, ◌∙◌}
use mathlib.Core.Bool.{Bool, true, false, cond, ◌&&◌}
use Prim.Native.Nat.{ℕ, ◌+◌, ◌*◌, ◌/◌, ◌%◌, ◌^◌, ◌≤◌}
use native.Mathlib.Nat.{mul_comm}
use native.Mathlib.Omega.{arith}
use lib.Dec.{eqb}
use lib.Ieee.{Float, nan, inf, fin, binary64, of_bits, of_fields}
use lib.Ieee.Exact.{HasValue}
use Rattle.hypotenuse.specs.Hypot.{count}
use Rattle.hypotenuse.proofs.Units.{count_of}
use Rattle.math.specs.Number.{finite}
use Rattle.math.proofs.Values.{value_of}
use Rattle.plane.specs.declared.PlanarPoint.{PlanarPoint}
use Rattle.turn.specs.declared.Turn.{Turn}
use Rattle.turn.specs.declared.Turn.TheVariants.{Straight, Unknown}
use Rattle.turn.specs.Turns.{place_of, place, Place, place_at, left_places, right_places, turn, by_sums, finite_point, Finite, left_sum, right_sum}
use Rattle.turn.proofs.Sums.{Order, less, equal, more, order, tells_left, tells_right, tells_straight}
use Rattle.turn.proofs.Places.{units_few}
use Rattle.turn.specs.Laws.{opposite, TurnLaws, PlaceOfBits}

swap_first : (a b c : Bool) → (b && (a && c)) ≡ (a && (b && c))
swap_first true true c = refl
swap_first true false c = refl
swap_first false true c = refl
swap_first false false c = refl

rotate : (a b c : Bool) → (b && (c && a)) ≡ (a && (b && c))
rotate true true true = refl
rotate true true false = refl
rotate true false c = refl
rotate false true true = refl
rotate false true false = refl
rotate false false c = refl

swapped : (l r : ℕ) → by_sums r l ≡ opposite (by_sums l r)
unfolding opposite
swapped l r = go (order l r)
  where
    go : Order l r → by_sums r l ≡ opposite (by_sums l r)
    go (less h) = tells_left r l h ∙ sym (ap opposite (tells_right l r h))
    go (equal h) = tells_straight r l (sym h) ∙ sym (ap opposite (tells_straight l r h))
    go (more h) = tells_right r l h ∙ sym (ap opposite (tells_left l r h))

picked : (t : Bool) (x : Turn) → cond t (opposite x) Unknown ≡ opposite (cond t x Unknown)
unfolding opposite
picked true x = refl
picked false x = refl

three : (x y z u v w : ℕ) → x ≡ u → y ≡ w → z ≡ v → x + y + z ≡ u + v + w
three x y z u v w a b c = omega arith

turned : (x y z : ℕ) → y + z + x ≡ x + y + z
turned x y z = omega arith

pub back_left : (a b c : Place) → left_places b a c ≡ right_places a b c
back_left a b c = three _ _ _ _ _ _ (mul_comm b.e a.n) (mul_comm a.e c.n) (mul_comm c.e b.n)

pub back_right : (a b c : Place) → right_places b a c ≡ left_places a b c
back_right a b c = three _ _ _ _ _ _ (mul_comm b.n a.e) (mul_comm a.n c.e) (mul_comm c.n b.e)

round_left : (a b c : PlanarPoint) → left_sum b c a ≡ left_sum a b c
unfolding left_sum
round_left a b c = turned (place a.east * place b.north) (place b.east * place c.north) (place c.east * place a.north)

round_right : (a b c : PlanarPoint) → right_sum b c a ≡ right_sum a b c
unfolding right_sum
round_right a b c = turned (place a.north * place b.east) (place b.north * place c.east) (place c.north * place a.east)

abbrev all : PlanarPoint → PlanarPoint → PlanarPoint → Bool
all a b c = finite_point a && (finite_point b && finite_point c)

-- the same test, and sums that give the same
like : (t u : Bool) (x y : Turn) → t ≡ u → x ≡ y → cond t x Unknown ≡ cond u y Unknown
like t u x y e f = rw (e, f) refl

sums : (l r m s : ℕ) → l ≡ m → r ≡ s → by_sums l r ≡ by_sums m s
sums l r m s e f = rw (e, f) refl

back_turn : (a b c : PlanarPoint) → turn b a c ≡ opposite (turn a b c)
unfolding turn left_sum right_sum
back_turn a b c =
    like (all b a c) (all a b c) _ _ (swap_first (finite_point a) (finite_point b) (finite_point c))
    (sums (left_sum b a c) (right_sum b a c) _ _ (back_left (place_at a) (place_at b) (place_at c)) (back_right (place_at a) (place_at b) (place_at c)) ∙ swapped (left_sum a b c) (right_sum a b c))
    ∙ picked (all a b c) (by_sums (left_sum a b c) (right_sum a b c))

round_turn : (a b c : PlanarPoint) → turn b c a ≡ turn a b c
unfolding turn
round_turn a b c =
    like (all b c a) (all a b c) _ _ (rotate (finite_point a) (finite_point b) (finite_point c))
    (sums (left_sum b c a) (right_sum b c a) _ _ (round_left a b c) (round_right a b c))

still_turn : (a c : PlanarPoint) → Finite a → Finite c → turn a a c ≡ Straight
unfolding turn left_sum right_sum
still_turn a c f g = rw (f.both_finite, g.both_finite) (tells_straight (left_sum a a c) (right_sum a a c) (back_left (place_at a) (place_at a) (place_at c)))

pub turn_laws : TurnLaws
turn_laws = record { back = back_turn; round = round_turn; still = still_turn }

-- ---- places by the bits

-- the place of a number with this value
place_value : (x : Float) (s : Bool) (u : ℕ) → HasValue x s u (2 ^ 1074) → place x ≡ place_of s u
unfolding place
place_value nan s u v = absurd v
place_value (inf t) s u v = absurd v
place_value (fin t m e) s u v = ap (λ (b : Bool). place_of b (count m e)) v.0 ∙ ap (place_of s) (sym (count_of t s m e u v))

-- the last field stands for infinities and NaN
last_field : (s : Bool) (x t : ℕ) → x ≡ 2047 → finite (of_fields binary64 s x t) ≡ false
unfolding of_fields finite
last_field s x t e = ap (λ (y : ℕ). finite (of_fields binary64 s y t)) e ∙ go (eqb t 0) refl
  where
    go : (b : Bool) → eqb t 0 ≡ b → finite (of_fields binary64 s 2047 t) ≡ false
    go true h = rw h refl
    go false h = rw h refl

not_finite : (w : ℕ) → 0x7ff0_0000_0000_0000 ≤ w % 2 ^ 63 → finite (of_bits binary64 w) ≡ false
unfolding of_bits
not_finite w h = last_field _ (w % 2 ^ 63 / 2 ^ 52) (w % 2 ^ 52) (field w h)
  where
    field : (w : ℕ) → 0x7ff0_0000_0000_0000 ≤ w % 2 ^ 63 → w % 2 ^ 63 / 2 ^ 52 ≡ 2047
    field w h = omega arith

pub place_of_bits : PlaceOfBits
place_of_bits = record {
  place_is = λ w h. place_value (of_bits binary64 w) _ _ (value_of w h);
  few = λ w h. units_few (w % 2 ^ 63) h;
  others = not_finite;
}
