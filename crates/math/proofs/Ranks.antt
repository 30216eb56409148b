-- The order of finite doubles is that of their units: `lt` and `eq` are the tests below and level of lib.Ieee of the units. Assumes nothing.
use mathlib.Core.Path.{◌≡◌, refl, sym, ap, ◌∙◌, subst}
use mathlib.Core.Bool.{Bool, beq, true, false, ◌&&◌, ◌||◌}
use Prim.Native.Nat.{ℕ, ◌+◌, ◌*◌, ◌^◌, ◌≤◌, ◌<◌}
use native.Mathlib.Nat.{le_trans, le_of_eq, add-mul, mul-lt-mul_of_pos_right, mul-le-mul_right, lt_of_mul-lt-mul_right, le_of_mul-le-mul_right, le_of_lt}
use native.Mathlib.Nat.{mul-pos, mul_comm, mul_assoc, mul_right_comm}
use native.Mathlib.Omega.{arith}
use lib.Dec.{T, ltb, eqb}
use lib.Pow.{pow_pos}
use lib.Ieee.{Float, nan, inf, fin, up, down, lt, eq, below, level, le}
use lib.Ieee.Exact.{HasValue}
use lib.Ieee.Fits.{down_pos}
use borrow.Author.Tests.{ltb-true, ltb-false, lt-ltb, le-ltb, eq-eqb, ne_eqb, eqb-true, eqb-false}
use Rattle.hypotenuse.proofs.Order.{le_of_not_lt}
use Rattle.math.proofs.Signed.{Signed}
use Rattle.math.proofs.Operations.{unit, signed, Is, by_sign, scaled_units}
use Rattle.math.proofs.Laws.{or_le}

-- a / c against b / d, which are P and Q units
pub units_order : (a c b d P Q u : ℕ) → 0 < c → 0 < d → a * u ≡ P * c → b * u ≡ Q * d → a * d ≤ b * c → P ≤ Q
units_order a c b d P Q u C D e f h =
    le_of_mul-le-mul_right {k = c * d}
    (le_trans (le_of_eq (sym (mul_assoc P c d) ∙ ap (λ (x : ℕ). x * d) (sym e) ∙ mul_right_comm a u d))
    (le_trans (mul-le-mul_right u h) (le_of_eq (mul_right_comm b c u ∙ ap (λ (x : ℕ). x * c) f ∙ mul_right_comm Q d c ∙ mul_assoc Q c d))))
    (mul-pos C D)

-- two numbers a / c and b / c that are P and Q units
record Fractions (a b c P Q : ℕ) : Type 0 where
  some : 0 < c
  first : a * unit ≡ P * c
  second : b * unit ≡ Q * c

swapped : {a b c P Q : ℕ} → Fractions a b c P Q → Fractions b a c Q P
swapped f = record { some = f.some; first = f.second; second = f.first }

-- 0 against their sum
summed : {a b c P Q : ℕ} → Fractions a b c P Q → Fractions 0 (a + b) c 0 (P + Q)
summed {a} {b} {c} {P} {Q} f = record {
  some = f.some;
  first = none unit c;
  second = add-mul a b unit ∙ ap (λ (x : ℕ). x + b * unit) f.first ∙ ap (λ (x : ℕ). P * c + x) f.second ∙ sym (add-mul P Q c);
}
  where
    none : (u c : ℕ) → 0 * u ≡ 0 * c
    none u c = omega arith

-- the first against 0
against_zero : {a b c P Q : ℕ} → Fractions a b c P Q → Fractions a 0 c P 0
against_zero {c = c} f = record { some = f.some; first = f.first; second = none unit c }
  where
    none : (u c : ℕ) → 0 * u ≡ 0 * c
    none u c = omega arith

less_scaled : {a b c P Q : ℕ} → Fractions a b c P Q → a < b → P < Q
less_scaled {a} {b} {c} {P} {Q} f h =
    lt_of_mul-lt-mul_right c {m = P} {n = Q}
    (subst (λ (x : ℕ). x < Q * c) f.first (subst (λ (x : ℕ). a * unit < x) f.second (mul-lt-mul_of_pos_right h (pow_pos 1074))))

most_scaled : {a b c P Q : ℕ} → Fractions a b c P Q → b ≤ a → Q ≤ P
most_scaled {a} {b} {c} {P} {Q} f h = units_order b c a c Q P unit f.some f.some f.second f.first (mul-le-mul_right c h)

ltb_scaled : {a b c P Q : ℕ} → Fractions a b c P Q → ltb a b ≡ ltb P Q
ltb_scaled {a} {b} {c} {P} {Q} f = go (ltb a b) refl
  where
    go : (t : Bool) → ltb a b ≡ t → ltb a b ≡ ltb P Q
    go true h = h ∙ sym (lt-ltb P Q (less_scaled f (ltb-true a b h)))
    go false h = h ∙ sym (le-ltb P Q (most_scaled f (ltb-false a b h)))

eqb_scaled : {a b c P Q : ℕ} → Fractions a b c P Q → eqb a b ≡ eqb P Q
eqb_scaled {a} {b} {c} {P} {Q} f = go (eqb a b) refl
  where
    same : (x y : ℕ) → x ≤ y → y ≤ x → x ≡ y
    same x y h k = omega arith

    equal : a ≡ b → P ≡ Q
    equal e = same P Q (most_scaled (swapped f) (omega arith)) (most_scaled f (omega arith))

    units_equal : P ≡ Q → a ≡ b
    units_equal e = same a b (le_of_not_lt (λ (h : b < a). let l = less_scaled (swapped f) h in omega arith))
        (le_of_not_lt (λ (h : a < b). let l = less_scaled f h in omega arith))

    go : (t : Bool) → eqb a b ≡ t → eqb a b ≡ eqb P Q
    go true h = h ∙ sym (eq-eqb P Q (equal (eqb-true a b h)))
    go false h = h ∙ sym (ne_eqb P Q (λ (e : P ≡ Q). eqb-false a b h (units_equal e)))

below_scaled : (s t : Bool) {a b c P Q : ℕ} → Fractions a b c P Q → below s a t b ≡ below s P t Q
below_scaled false false f = ltb_scaled f
below_scaled false true f = refl
below_scaled true false f = ltb_scaled (summed f)
below_scaled true true f = ltb_scaled (swapped f)

level_scaled : (s t : Bool) {a b c P Q : ℕ} → Fractions a b c P Q → level s a t b ≡ level s P t Q
level_scaled s t {a} {b} {c} {P} {Q} f =
    ap (λ (x : Bool). x && (beq s t || eqb a 0)) (eqb_scaled f)
    ∙ ap (λ (x : Bool). eqb P Q && (beq s t || x)) (eqb_scaled (against_zero f))

-- over the common divisor
fractions : (m e n d P Q : ℕ) → 0 < e → 0 < d → m * unit ≡ P * e → n * unit ≡ Q * d → Fractions (m * d) (n * e) (e * d) P Q
fractions m e n d P Q E D u v = record {
  some = mul-pos E D;
  first = scaled_units m e d P u;
  second = scaled_units n d e Q v ∙ ap (λ (x : ℕ). Q * x) (mul_comm d e);
}

-- x and y of P and Q units, with their signs
pub lt_units : (x y : Float) (s t : Bool) (P Q : ℕ) → HasValue x s P (2 ^ 1074) → HasValue y t Q (2 ^ 1074) → lt x y ≡ below s P t Q
unfolding lt
lt_units nan y s t P Q u v = absurd u
lt_units (inf _) y s t P Q u v = absurd u
lt_units (fin _ _ _) nan s t P Q u v = absurd v
lt_units (fin _ _ _) (inf _) s t P Q u v = absurd v
lt_units (fin s' m e) (fin t' n d) s t P Q u v =
    ap (λ (b : Bool). below b (m * up e * down d) t' (n * up d * down e)) u.0
    ∙ ap (λ (b : Bool). below s (m * up e * down d) b (n * up d * down e)) v.0
    ∙ below_scaled s t (fractions (m * up e) (down e) (n * up d) (down d) P Q (down_pos e) (down_pos d) u.1 v.1)

pub eq_units : (x y : Float) (s t : Bool) (P Q : ℕ) → HasValue x s P (2 ^ 1074) → HasValue y t Q (2 ^ 1074) → eq x y ≡ level s P t Q
unfolding eq
eq_units nan y s t P Q u v = absurd u
eq_units (inf _) y s t P Q u v = absurd u
eq_units (fin _ _ _) nan s t P Q u v = absurd v
eq_units (fin _ _ _) (inf _) s t P Q u v = absurd v
eq_units (fin s' m e) (fin t' n d) s t P Q u v =
    ap (λ (b : Bool). level b (m * up e * down d) t' (n * up d * down e)) u.0
    ∙ ap (λ (b : Bool). level s (m * up e * down d) b (n * up d * down e)) v.0
    ∙ level_scaled s t (fractions (m * up e) (down e) (n * up d) (down d) P Q (down_pos e) (down_pos d) u.1 v.1)

-- ---- of numbers that are not negative

pub lt_most : (x y : Float) (P Q : ℕ) → HasValue x false P (2 ^ 1074) → HasValue y false Q (2 ^ 1074) → lt x y ≡ true → P ≤ Q
lt_most x y P Q u v h = le_of_lt (ltb-true P Q (sym (lt_units x y false false P Q u v) ∙ h))

pub le_most : (x y : Float) (P Q : ℕ) → HasValue x false P (2 ^ 1074) → HasValue y false Q (2 ^ 1074) → le x y ≡ true → P ≤ Q
unfolding le
le_most x y P Q u v h =
    or_le P Q (ap (λ (t : Bool). t || (eqb P Q && true)) (sym (lt_units x y false false P Q u v)) ∙ ap (λ (t : Bool). lt x y || t) (sym (eq_units x y false false P Q u v)) ∙ h)

-- ---- as signed numbers

-- a is less than b
abbrev pub Less : Signed → Signed → Type 0
Less a b = a.plus + b.minus < a.minus + b.plus

-- a is b
abbrev pub Equal : Signed → Signed → Type 0
Equal a b = a.plus + b.minus ≡ a.minus + b.plus

below_signed : (s t : Bool) (P Q : ℕ) → below s P t Q ≡ true → Less (signed s P) (signed t Q)
below_signed false false P Q h = let l = ltb-true P Q h in omega arith
below_signed false true P Q h = absurd (subst T (sym h) tt)
below_signed true false P Q h = let l = ltb-true 0 (P + Q) h in omega arith
below_signed true true P Q h = let l = ltb-true Q P h in omega arith

pub lt_signed : {x y : Float} {s t : Signed} → Is x s → Is y t → lt x y ≡ true → Less s t
lt_signed {x} {y} {s} {t} i j h =
    by_sign (λ (s : Signed). Less s t) i (λ a P u. by_sign (λ (t : Signed). Less (signed a P) t) j
    (λ b Q v. below_signed a b P Q (sym (lt_units x y a b P Q u v) ∙ h)))

level_signed : (s t : Bool) (P Q : ℕ) → level s P t Q ≡ true → Equal (signed s P) (signed t Q)
level_signed s t P Q h = go s t (eqb P Q) (eqb P 0) refl refl h
  where
    go : (s t a b : Bool) → eqb P Q ≡ a → eqb P 0 ≡ b → (a && (beq s t || b)) ≡ true → Equal (signed s P) (signed t Q)
    go s t false b e f h = absurd (subst T (sym h) tt)
    go false false true b e f h = let x = eqb-true P Q e in omega arith
    go true true true b e f h = let x = eqb-true P Q e in omega arith
    go false true true true e f h = let x = eqb-true P Q e in let y = eqb-true P 0 f in omega arith
    go true false true true e f h = let x = eqb-true P Q e in let y = eqb-true P 0 f in omega arith
    go false true true false e f h = absurd (subst T (sym h) tt)
    go true false true false e f h = absurd (subst T (sym h) tt)

pub eq_signed : {x y : Float} {s t : Signed} → Is x s → Is y t → eq x y ≡ true → Equal s t
eq_signed {x} {y} {s} {t} i j h =
    by_sign (λ (s : Signed). Equal s t) i (λ a P u. by_sign (λ (t : Signed). Equal (signed a P) t) j
    (λ b Q v. level_signed a b P Q (sym (eq_units x y a b P Q u v) ∙ h)))
