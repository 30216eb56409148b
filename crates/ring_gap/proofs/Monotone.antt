-- Rounded sums and products keep the order: "x is not below y", `lt x y ≡ false`, holds of any two floats where one is a NaN. Assumes nothing.
use Prim.Native.Nat.{ℕ, zero, suc, ◌+◌, ◌-◌, ◌*◌, ◌^◌, ◌≤◌, ◌<◌, zero-le}
use native.Mathlib.Nat.{le_trans, le_of_eq, mul-pos, mul_assoc, mul-one, mul-le-mul_right, add_comm, zero-mul}
use native.Mathlib.Omega.{arith}
use mathlib.Core.Path.{◌≡◌, refl, sym, ap, ◌∙◌, subst}
use mathlib.Core.Bool.{Bool, true, false, not, cond, ◌&&◌, beq, true≢false, false≢true}
use borrow.Author.Tests.{ltb-true, ltb-false, le-ltb}
use lib.Dec.{T, ltb, eqb}
use lib.IntN.{ℤ, pos}
use lib.Ieee.{Float, nan, inf, fin, Format, binary64, up, down, unlike, below, level, odd, units, round, sum, neg, add, sub, mul, lt, le, eq, is_nan}
use lib.Ieee.Exact.{HasValue}
use lib.Ieee.Fits.{round_is, up_pos, down_pos}
use lib.Ieee.Order.{round_mono}
use Rattle.hypotenuse.proofs.Poly.{poly}
use Rattle.math.proofs.Swap.{add_swap}
use Rattle.math.proofs.Differences.{round_neg, no_factor, zero_value, no_value}
use Rattle.math.proofs.Order.{lt_nan}
use Rattle.math.proofs.Laws.{lt_infinity, or_le}

-- ---- at the ends of the line
not_below_bottom : (x : Float) → lt x (inf true) ≡ false
unfolding lt
not_below_bottom nan = refl
not_below_bottom (inf false) = refl
not_below_bottom (inf true) = refl
not_below_bottom (fin s m e) = refl

-- ---- negation turns the order round
below_neg : (s t : Bool) (a b : ℕ) → below (not s) a (not t) b ≡ below t b s a
below_neg false false a b = refl
below_neg false true a b = ap (ltb 0) (add_comm a b)
below_neg true false a b = refl
below_neg true true a b = refl

pub lt_neg : (x y : Float) → lt (neg x) (neg y) ≡ lt y x
unfolding lt neg
lt_neg nan nan = refl
lt_neg nan (inf t) = refl
lt_neg nan (fin t n d) = refl
lt_neg (inf s) nan = refl
lt_neg (inf false) (inf false) = refl
lt_neg (inf false) (inf true) = refl
lt_neg (inf true) (inf false) = refl
lt_neg (inf true) (inf true) = refl
lt_neg (inf false) (fin t n d) = refl
lt_neg (inf true) (fin t n d) = refl
lt_neg (fin s m e) nan = refl
lt_neg (fin s m e) (inf false) = refl
lt_neg (fin s m e) (inf true) = refl
lt_neg (fin s m e) (fin t n d) = below_neg s t (m * up e * down d) (n * up d * down e)

-- ---- a rounded fraction has its sign
pub data Signed (s : Bool) (x : Float) : Type 0 where
  endless : x ≡ inf s → Signed s x
  number : (m : ℕ) (e : ℤ) → x ≡ fin s m e → Signed s x

units_signed : (f : Format) (s : Bool) (q k : ℕ) → Signed s (units f s q k)
unfolding units odd
units_signed f s q k = go (ltb (q * 2 ^ k) (2 ^ (lib.Ieee.low f + suc (lib.Ieee.emax f)))) q
  where
    go : (b : Bool) (q : ℕ) → Signed s (cond b (odd (suc (lib.Ieee.prec f)) s q k (lib.Ieee.low f)) (inf s))
    go false q = endless refl
    go true zero = number _ _ refl
    go true (suc q) = number _ _ refl

pub round_signed : (s : Bool) (a c : ℕ) → Signed s (round binary64 s a c)
round_signed s a c = subst (Signed s) (sym (round_is binary64 s a c)) (units_signed binary64 s _ _)

up_not_below_down : (x y : Float) → Signed false x → Signed true y → lt x y ≡ false
unfolding lt
up_not_below_down x y (endless e) w = rw e (lt_infinity y)
up_not_below_down x y (number m e p) (endless q) = rw q (not_below_bottom x)
up_not_below_down x y (number m e p) (number n d q) = rw (p, q) refl

zeros_level : (x y : Float) (c d : ℕ) → 0 < c → 0 < d → HasValue x true 0 c → HasValue y false 0 d → lt x y ≡ false
unfolding lt
zeros_level nan y c d C D v w = absurd v
zeros_level (inf s) y c d C D v w = absurd v
zeros_level (fin s m e) nan c d C D v w = absurd w
zeros_level (fin s m e) (inf t) c d C D v w = absurd w
zeros_level (fin s m e) (fin t n g) c d C D v w = rw (v.0, w.0, no_value m e c C v.1, no_value n g d D w.1, zero-mul (down g), zero-mul (down e)) refl

-- ---- what is at least another is not below it
pub is_true : (b : Bool) → T b → b ≡ true
is_true true t = refl
is_true false t = absurd t

signed_over : (x y : Float) → Signed false x → Signed false y → le y x ≡ true → lt x y ≡ false
unfolding le lt eq
signed_over x y (endless e) w h = rw e (lt_infinity y)
signed_over x y (number m e p) (endless q) h = absurd (true≢false (sym h ∙ ap (λ (z : Float). le z x) q ∙ ap (le (inf false)) p))
signed_over x y (number m e p) (number n d q) h =
    rw (p, q) (le-ltb (m * up e * down d) (n * up d * down e) (or_le (n * up d * down e) (m * up e * down d) (sym (ap (λ (z : Float). le z x) q ∙ ap (le (fin false n d)) p) ∙ h)))

-- ---- rounding keeps the order: ±A / c against ±B / d
abbrev plus : Bool → ℕ → ℕ
plus false a = a
plus true a = 0

abbrev minus : Bool → ℕ → ℕ
minus false a = 0
minus true a = a

round_order : (s t : Bool) (A c B d : ℕ) → 0 < c → 0 < d → plus t B * c + minus s A * d ≤ plus s A * d + minus t B * c → lt (round binary64 s A c) (round binary64 t B d) ≡ false
round_order false false A c B d C D h = signed_over _ _ (round_signed false A c) (round_signed false B d) (is_true _ (round_mono binary64 B d A c D C (omega arith)))
round_order false true A c B d C D h = up_not_below_down _ _ (round_signed false A c) (round_signed true B d)
round_order true true A c B d C D h =
    rw (round_neg A c, round_neg B d, lt_neg (round binary64 false A c) (round binary64 false B d))
    (signed_over _ _ (round_signed false B d) (round_signed false A c) (is_true _ (round_mono binary64 A c B d C D (omega arith))))
round_order true false A c B d C D h =
    zeros_level _ _ c d C D (subst (λ (z : ℕ). HasValue (round binary64 true z c) true 0 c) (sym (no_factor A d D (omega arith))) (zero_value true c C))
    (subst (λ (z : ℕ). HasValue (round binary64 false z d) false 0 d) (sym (no_factor B c C (omega arith))) (zero_value false d D))

-- ---- sums
-- a sum of two fractions is one rounded fraction, of the sum's sign and size
record Summed (z : Float) (p m c : ℕ) : Type 0 where
  sign : Bool
  size : ℕ
  is : z ≡ round binary64 sign size c
  level : plus sign size + m ≡ minus sign size + p

summed : (s : Bool) (a : ℕ) (t : Bool) (b c : ℕ) → Summed (sum binary64 s a t b c) (plus s a + plus t b) (minus s a + minus t b) c
unfolding sum
summed false a false b c = record { sign = false; size = a + b; is = refl; level = omega arith }
summed true a true b c = record { sign = true; size = a + b; is = refl; level = omega arith }
summed false a true b c = go (ltb a b) refl
  where
    go : (o : Bool) → ltb a b ≡ o → Summed (cond o (round binary64 true (b - a) c) (round binary64 false (a - b) c)) (a + 0) (0 + b) c
    go true e = let h = ltb-true a b e in record { sign = true; size = b - a; is = refl; level = omega arith }
    go false e = let h = ltb-false a b e in record { sign = false; size = a - b; is = refl; level = omega arith }
summed true a false b c = go (ltb a b) refl
  where
    tie : (o : Bool) → ltb b a ≡ o → b ≤ a → Summed (round binary64 o (a - b) c) (0 + b) (a + 0) c
    tie true e h = record { sign = true; size = a - b; is = refl; level = omega arith }
    tie false e h = let g = ltb-false b a e in record { sign = false; size = a - b; is = refl; level = omega arith }

    go : (o : Bool) → ltb a b ≡ o → Summed (cond o (round binary64 false (b - a) c) (round binary64 (true && ltb b a) (a - b) c)) (0 + b) (a + 0) c
    go true e = let h = ltb-true a b e in record { sign = false; size = b - a; is = refl; level = omega arith }
    go false e = tie (ltb b a) refl (ltb-false a b e)

-- over plain numbers: (a1 - a0) / E against (b1 - b0) / D, where the first is (xp - xm + kp - km) / E and the second (yp - ym + jp - jm) / D
sums_order :
    (a1 a0 b1 b0 xp xm yp ym kp km jp jm E D : ℕ) → a1 + (xm + km) ≡ a0 + (xp + kp) → b1 + (ym + jm) ≡ b0 + (yp + jp) → kp * D ≡ jp * E → km * D ≡ jm * E →
    yp * E + xm * D ≤ xp * D + ym * E → b1 * E + a0 * D ≤ a1 * D + b0 * E
sums_order a1 a0 b1 b0 xp xm yp ym kp km jp jm E D f g k j h =
    let u : a1 * D + (xm * D + km * D) ≡ a0 * D + (xp * D + kp * D) = spread a1 xm km D ∙ ap (λ (z : ℕ). z * D) f ∙ sym (spread a0 xp kp D) in
    let v : b1 * E + (ym * E + jm * E) ≡ b0 * E + (yp * E + jp * E) = spread b1 ym jm E ∙ ap (λ (z : ℕ). z * E) g ∙ sym (spread b0 yp jp E) in
    last (a1 * D) (a0 * D) (b1 * E) (b0 * E) (xp * D) (xm * D) (yp * E) (ym * E) (kp * D) (km * D) (jp * E) (jm * E) u v k j h
  where
    spread : (x y z D : ℕ) → x * D + (y * D + z * D) ≡ (x + (y + z)) * D
    spread x y z D = simp poly

    last : (a1 a0 b1 b0 xp xm yp ym kp km jp jm : ℕ) → a1 + (xm + km) ≡ a0 + (xp + kp) → b1 + (ym + jm) ≡ b0 + (yp + jp) → kp ≡ jp → km ≡ jm → yp + xm ≤ xp + ym → b1 + a0 ≤ a1 + b0
    last a1 a0 b1 b0 xp xm yp ym kp km jp jm u v k j h = omega arith

-- the order of two numbers, by parts
parts_order : (s t : Bool) (a b : ℕ) → below s a t b ≡ false → plus t b + minus s a ≤ plus s a + minus t b
parts_order false false a b h = let l = ltb-false a b h in omega arith
parts_order false true a b h = omega arith
parts_order true false a b h = let l = ltb-false 0 (a + b) h in omega arith
parts_order true true a b h = let l = ltb-false b a h in omega arith

plus_swap : (s : Bool) (x y z : ℕ) → plus s (x * y) * z ≡ plus s (x * z) * y
plus_swap false x y z = simp poly
plus_swap true x y z = zero-mul z ∙ sym (zero-mul y)

minus_swap : (s : Bool) (x y z : ℕ) → minus s (x * y) * z ≡ minus s (x * z) * y
minus_swap false x y z = zero-mul z ∙ sym (zero-mul y)
minus_swap true x y z = simp poly

module _ (s : Bool) (X E : ℕ) (t : Bool) (Y D : ℕ) (u : Bool) (K C : ℕ) (pe : 0 < E) (pd : 0 < D) (pc : 0 < C) where
  sums_kept : below s (X * D) t (Y * E) ≡ false → lt (sum binary64 s (X * C) u (K * E) (E * C)) (sum binary64 t (Y * C) u (K * D) (D * C)) ≡ false
  sums_kept h =
      let v = summed s (X * C) u (K * E) (E * C) in
      let w = summed t (Y * C) u (K * D) (D * C) in
      rw (v.is, w.is)
      (round_order v.sign w.sign v.size (E * C) w.size (D * C) (mul-pos pe pc) (mul-pos pd pc)
      (scaled (plus w.sign w.size) (minus v.sign v.size) (plus v.sign v.size) (minus w.sign w.size)
      (sums_order _ _ _ _ (plus s (X * C)) (minus s (X * C)) (plus t (Y * C)) (minus t (Y * C)) (plus u (K * E)) (minus u (K * E)) (plus u (K * D)) (minus u (K * D)) E D v.level w.level
      (plus_swap u K E D) (minus_swap u K E D) crossed)))
    where
      crossed : plus t (Y * C) * E + minus s (X * C) * D ≤ plus s (X * C) * D + minus t (Y * C) * E
      crossed =
          rw (plus_swap t Y C E, minus_swap s X C D, plus_swap s X C D, minus_swap t Y C E)
          (join (plus t (Y * E)) (minus s (X * D)) (plus s (X * D)) (minus t (Y * E)) (parts_order s t (X * D) (Y * E) h))
        where
          join : (x y z w : ℕ) → x + y ≤ z + w → x * C + y * C ≤ z * C + w * C
          join x y z w h = le_trans (le_of_eq (spread x y)) (le_trans (mul-le-mul_right C h) (le_of_eq (sym (spread z w))))
            where
              spread : (x y : ℕ) → x * C + y * C ≡ (x + y) * C
              spread x y = simp poly

      scaled : (b1 a0 a1 b0 : ℕ) → b1 * E + a0 * D ≤ a1 * D + b0 * E → b1 * (E * C) + a0 * (D * C) ≤ a1 * (D * C) + b0 * (E * C)
      scaled b1 a0 a1 b0 h = let g = mul-le-mul_right C h in le_trans (le_of_eq (spread b1 E a0 D)) (le_trans g (le_of_eq (sym (spread a1 D b0 E))))
        where
          spread : (x y z w : ℕ) → x * (y * C) + z * (w * C) ≡ (x * y + z * w) * C
          spread x y z w = simp poly

endless_sum : (s t u : Bool) → (s && not t) ≡ false → lt (cond (beq s u) (inf s) nan) (cond (beq t u) (inf t) nan) ≡ false
unfolding lt
endless_sum false false false h = refl
endless_sum false false true h = refl
endless_sum false true false h = refl
endless_sum false true true h = refl
endless_sum true false u h = absurd (true≢false h)
endless_sum true true false h = refl
endless_sum true true true h = refl

past_top : (u : Bool) → lt (cond (beq false u) (inf false) nan) (inf u) ≡ false
unfolding lt
past_top false = refl
past_top true = refl

past_bottom : (u : Bool) → lt (inf u) (cond (beq true u) (inf true) nan) ≡ false
unfolding lt
past_bottom false = refl
past_bottom true = refl

itself : (u : Bool) → (u && not u) ≡ false
itself false = refl
itself true = refl

-- x not below y: x + q not below y + q
add_kept : (x y q : Float) → lt x y ≡ false → lt (add binary64 x q) (add binary64 y q) ≡ false
unfolding add lt
add_kept nan y q h = refl
add_kept (inf s) nan q h = lt_nan (add binary64 (inf s) q)
add_kept (inf s) (inf t) nan h = refl
add_kept (inf s) (inf t) (inf u) h = endless_sum s t u h
add_kept (inf s) (inf t) (fin u k c) h = h
add_kept (inf false) (fin t n d) nan h = refl
add_kept (inf false) (fin t n d) (inf u) h = past_top u
add_kept (inf false) (fin t n d) (fin u k c) h = lt_infinity (add binary64 (fin t n d) (fin u k c))
add_kept (inf true) (fin t n d) q h = absurd (true≢false h)
add_kept (fin s m e) nan q h = lt_nan (add binary64 (fin s m e) q)
add_kept (fin s m e) (inf false) q h = absurd (true≢false h)
add_kept (fin s m e) (inf true) nan h = refl
add_kept (fin s m e) (inf true) (inf u) h = past_bottom u
add_kept (fin s m e) (inf true) (fin u k c) h = not_below_bottom (add binary64 (fin s m e) (fin u k c))
add_kept (fin s m e) (fin t n d) nan h = refl
add_kept (fin s m e) (fin t n d) (inf u) h = itself u
add_kept (fin s m e) (fin t n d) (fin u k c) h = sums_kept s (m * up e) (down e) t (n * up d) (down d) u (k * up c) (down c) (down_pos e) (down_pos d) (down_pos c) h

pub sub_kept : (x y p : Float) → lt x y ≡ false → lt (sub binary64 x p) (sub binary64 y p) ≡ false
unfolding sub
sub_kept x y p h = add_kept x y (neg p) h

pub add_kept_second : (a x y : Float) → lt x y ≡ false → lt (add binary64 a x) (add binary64 a y) ≡ false
add_kept_second a x y h = rw (add_swap a x, add_swap a y) (add_kept x y a h)

-- ---- products by a number from 0 to 1
abbrev pub nought : Float
nought = fin false 0 (pos 0)

abbrev pub whole : Float
whole = fin false 1 (pos 0)

-- z lies between 0 and w, on either side
pub data Between (z w : Float) : Type 0 where
  upward : lt z nought ≡ false → lt w z ≡ false → Between z w
  downward : lt nought z ≡ false → lt z w ≡ false → Between z w

nought_is : nought ≡ round binary64 false 0 1
unfolding round units odd lib.Ieee.size lib.Ieee.span lib.Ieee.climb lib.Count.count_trailing_zeros
nought_is = refl

scaled_down : (T N E G : ℕ) → T ≤ E → T * N * G ≤ N * (E * G)
scaled_down T N E G h = le_trans (le_of_eq (left T N G)) (le_trans (mul-le-mul_right (N * G) h) (le_of_eq (right E N G)))
  where
    left : (T N G : ℕ) → T * N * G ≡ T * (N * G)
    left T N G = mul_assoc T N G

    right : (E N G : ℕ) → E * (N * G) ≡ N * (E * G)
    right E N G = simp poly

module _ (T N E G : ℕ) (pe : 0 < E) (pg : 0 < G) (h : T ≤ E) where
  products : (s u : Bool) → (s ≡ true → T ≡ 0) → Between (round binary64 (unlike s u) (T * N) (E * G)) (round binary64 u N G)
  products false false z =
      upward (rw nought_is (round_order false false (T * N) (E * G) 0 1 (mul-pos pe pg) (omega arith) (omega arith)))
      (round_order false false N G (T * N) (E * G) pg (mul-pos pe pg) (let l = scaled_down T N E G h in omega arith))
  products false true z =
      downward (rw nought_is (round_order false true 0 1 (T * N) (E * G) (omega arith) (mul-pos pe pg) (omega arith)))
      (round_order true true (T * N) (E * G) N G (mul-pos pe pg) pg (let l = scaled_down T N E G h in omega arith))
  products true false z =
      let e : T * N ≡ 0 = ap (λ (x : ℕ). x * N) (z refl) ∙ zero-mul N in
      rw e
      (upward (rw nought_is (round_order true false 0 (E * G) 0 1 (mul-pos pe pg) (omega arith) (omega arith)))
      (round_order false true N G 0 (E * G) pg (mul-pos pe pg) (omega arith)))
  products true true z =
      let e : T * N ≡ 0 = ap (λ (x : ℕ). x * N) (z refl) ∙ zero-mul N in
      rw e
      (downward (rw nought_is (round_order false false 0 1 0 (E * G) (omega arith) (mul-pos pe pg) (omega arith)))
      (round_order false true 0 (E * G) N G (mul-pos pe pg) pg (omega arith)))

-- not below 0 and not above 1, or no number
pub record Part (t : Float) : Type 0 where
  pub low : lt t nought ≡ false
  pub high : lt whole t ≡ false

none_up : (m : ℕ) (e : ℤ) → m * up e ≡ 0 → m ≡ 0
none_up m e h = no_factor m (up e) (up_pos e) h

pub part_size : (s : Bool) (m : ℕ) (e : ℤ) → Part (fin s m e) → (m * up e ≤ down e) × (s ≡ true → m * up e ≡ 0)
unfolding lt
part_size false m e p = (le_trans (le_of_eq (sym (mul-one (m * up e)))) (le_trans (ltb-false (1 * 1 * down e) (m * up e * 1) p.high) (le_of_eq (one (down e)))), λ h. absurd (false≢true h))
  where
    one : (x : ℕ) → 1 * 1 * x ≡ x
    one x = omega arith
part_size true m e p =
    let z : m * up e ≡ 0 = gone (m * up e) (down e) (ltb-false 0 (m * up e * 1 + 0 * 1 * down e) p.low) in
    (le_trans (le_of_eq z) zero-le, λ h. z)
  where
    gone : (x d : ℕ) → x * 1 + 0 * 1 * d ≤ 0 → x ≡ 0
    gone x d h = omega arith

endless_product : (s u : Bool) (m : ℕ) (e : ℤ) → Part (fin s m e) → Between (cond (eqb m 0) nan (inf (unlike s u))) (inf (unlike false u))
unfolding lt
endless_product s u m e p = go s u (eqb m 0) refl (part_size s m e p).1
  where
    some : {A : Type 0} → eqb m 0 ≡ false → m * up e ≡ 0 → A
    some f z = absurd (true≢false (sym (borrow.Author.Tests.eq-eqb m 0 (none_up m e z)) ∙ f))

    go : (s u b : Bool) → eqb m 0 ≡ b → (s ≡ true → m * up e ≡ 0) → Between (cond b nan (inf (unlike s u))) (inf (unlike false u))
    go s u true f z = upward refl (lt_nan (inf (unlike false u)))
    go false false false f z = upward refl refl
    go false true false f z = downward refl refl
    go true u false f z = some f (z refl)

pub mul_between : (t d : Float) → Part t → Between (mul binary64 t d) (mul binary64 whole d)
unfolding mul lt
mul_between nan d p = upward refl (lt_nan (mul binary64 whole d))
mul_between (inf false) d p = absurd (true≢false p.high)
mul_between (inf true) d p = absurd (true≢false p.low)
mul_between (fin s m e) nan p = upward refl refl
mul_between (fin s m e) (inf u) p = endless_product s u m e p
mul_between (fin s m e) (fin u n g) p =
    subst (λ (z : Float). Between (round binary64 (unlike s u) (m * up e * (n * up g)) (down e * down g)) z) (same u)
    (products (m * up e) (n * up g) (down e) (down g) (down_pos e) (down_pos g) (part_size s m e p).0 s u (part_size s m e p).1)
  where
    one : (x : ℕ) → x ≡ 1 * 1 * x
    one x = omega arith

    once : (x : ℕ) → x ≡ 1 * x
    once x = omega arith

    same : (u : Bool) → round binary64 u (n * up g) (down g) ≡ round binary64 (unlike false u) (1 * 1 * (n * up g)) (1 * down g)
    same false = ap (λ (z : ℕ). round binary64 false z (down g)) (one (n * up g)) ∙ ap (round binary64 false (1 * 1 * (n * up g))) (once (down g))
    same true = ap (λ (z : ℕ). round binary64 true z (down g)) (one (n * up g)) ∙ ap (round binary64 true (1 * 1 * (n * up g))) (once (down g))

-- ---- where a sum is a number
pub signed_number : (s : Bool) (x : Float) → Signed s x → is_nan x ≡ false
unfolding is_nan
signed_number s x (endless e) = rw e refl
signed_number s x (number m d e) = rw e refl

sum_number : (s : Bool) (a : ℕ) (t : Bool) (b c : ℕ) → is_nan (sum binary64 s a t b c) ≡ false
sum_number s a t b c = let v = summed s a t b c in rw v.is (signed_number v.sign _ (round_signed v.sign v.size c))

-- a + x is a number, so a + 0 is, by either zero
pub start_number : (u : Bool) (a x : Float) → is_nan (add binary64 a x) ≡ false → is_nan (add binary64 a (fin u 0 (pos 0))) ≡ false
unfolding add is_nan
start_number u nan x h = absurd (true≢false h)
start_number u (inf s) x h = refl
start_number u (fin s m e) x h = sum_number s (m * up e * 1) u (0 * 1 * down e) (down e * 1)

with_number : (s : Bool) (m : ℕ) (e : ℤ) (q : Float) → is_nan q ≡ false → is_nan (add binary64 (fin s m e) q) ≡ false
unfolding add is_nan
with_number s m e nan h = absurd (true≢false h)
with_number s m e (inf t) h = refl
with_number s m e (fin t n d) h = sum_number s (m * up e * down d) t (n * up d * down e) (down e * down d)

of_number : (s : Bool) (m : ℕ) (e : ℤ) (q : Float) → is_nan (add binary64 (fin s m e) q) ≡ false → is_nan q ≡ false
unfolding add is_nan
of_number s m e nan h = absurd (true≢false h)
of_number s m e (inf t) h = refl
of_number s m e (fin t n d) h = refl

product_number : (t d : Float) → is_nan (mul binary64 t d) ≡ false → is_nan (mul binary64 whole d) ≡ false
unfolding mul is_nan
product_number nan d h = absurd (true≢false h)
product_number (inf s) nan h = absurd (true≢false h)
product_number (inf s) (inf t) h = refl
product_number (inf s) (fin u n g) h = signed_number _ _ (round_signed (unlike false u) (1 * 1 * (n * up g)) (1 * down g))
product_number (fin s m e) nan h = absurd (true≢false h)
product_number (fin s m e) (inf t) h = refl
product_number (fin s m e) (fin u n g) h = signed_number _ _ (round_signed (unlike false u) (1 * 1 * (n * up g)) (1 * down g))

-- from an infinite start there is no step that ends at a number
step_back : (s r : Bool) (m : ℕ) (e : ℤ) → Part (fin r m e) → is_nan (add binary64 (inf s) (cond (eqb m 0) nan (inf (unlike r (not s))))) ≡ true
unfolding add is_nan
step_back s r m e p = go s r (eqb m 0) refl (part_size r m e p).1
  where
    go : (s r b : Bool) → eqb m 0 ≡ b → (r ≡ true → m * up e ≡ 0) → is_nan (add binary64 (inf s) (cond b nan (inf (unlike r (not s))))) ≡ true
    go s r true f z = refl
    go false false false f z = refl
    go true false false f z = refl
    go s true false f z = absurd (true≢false (sym (borrow.Author.Tests.eq-eqb m 0 (none_up m e (z refl))) ∙ f))

endless_step : (s : Bool) (b t : Float) → Part t → is_nan (add binary64 (inf s) (mul binary64 t (sub binary64 b (inf s)))) ≡ true
unfolding add mul sub neg is_nan lt
endless_step s b nan p = refl
endless_step s b (inf false) p = absurd (true≢false p.high)
endless_step s b (inf true) p = absurd (true≢false p.low)
endless_step s nan (fin r m e) p = refl
endless_step s (inf u) (fin r m e) p = go s u (step_back s r m e p)
  where
    go : (s u : Bool) → is_nan (add binary64 (inf s) (cond (eqb m 0) nan (inf (unlike r (not s))))) ≡ true →
        is_nan (add binary64 (inf s) (mul binary64 (fin r m e) (cond (beq u (not s)) (inf u) nan))) ≡ true
    go false false h = refl
    go false true h = h
    go true false h = h
    go true true h = refl
endless_step s (fin u n g) (fin r m e) p = step_back s r m e p

-- a + t (b - a) is a number, so a + 1 (b - a) is
pub end_number : (a b t : Float) → Part t → is_nan (add binary64 a (mul binary64 t (sub binary64 b a))) ≡ false → is_nan (add binary64 a (mul binary64 whole (sub binary64 b a))) ≡ false
unfolding add is_nan
end_number nan b t p h = absurd (true≢false h)
end_number (inf s) b t p h = absurd (true≢false (sym (endless_step s b t p) ∙ h))
end_number (fin s m e) b t p h =
    let d = sub binary64 b (fin s m e) in with_number s m e (mul binary64 whole d) (product_number t d (of_number s m e (mul binary64 t d) h))
