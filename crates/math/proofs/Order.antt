-- The order of doubles: what lies past a number lies past what is below it, a NaN or not. Assumes nothing.
use Prim.Native.Nat.{ℕ, ◌+◌, ◌*◌, ◌≤◌, ◌<◌}
use native.Mathlib.Nat.{not-le_of_lt, mul-pos, zero-mul, lt_of_not-le}
use native.Mathlib.Omega.{arith}
use mathlib.Core.Path.{◌≡◌, refl, sym, ap, ◌∙◌}
use mathlib.Core.Bool.{Bool, true, false, ◌&&◌, ◌||◌, true≢false, false≢true}
use mathlib.Mathlib.Data.Bool.Basic.{or_inl, or-eq-false-eq-eq-false-and-eq-false}
use borrow.Author.Tests.{ltb-true, ltb-false, eqb-true, le-ltb, ne_eqb, eq-eqb}
use lib.Dec.{ltb, eqb}
use lib.Ieee.{Float, nan, inf, fin, up, down, below, level, lt, le, eq, is_nan}
use lib.Ieee.Fits.{down_pos}
use lib.Ieee.Positive.{through, first_pos}

-- ---- fractions

strictly : (x y z p q r : ℕ) → 0 < r → x * q < y * p → y * r ≤ z * q → x * r < z * p
strictly x y z p q r R h k = lt_of_not-le (λ (l : z * p ≤ x * r). not-le_of_lt h (through y z x q r p R k l))

strictly_then : (x y z p q r : ℕ) → 0 < p → x * q ≤ y * p → y * r < z * q → x * r < z * p
strictly_then x y z p q r P h k = lt_of_not-le (λ (l : z * p ≤ x * r). not-le_of_lt k (through z x y r p q P l h))

nothing : (x p : ℕ) → 0 < p → x * p ≡ 0 → x ≡ 0
nothing x p P h = small (λ (l : 0 < x). positive (mul-pos l P) h)
  where
    small : (0 < x → ⊥) → x ≡ 0
    small n = omega arith

    positive : {a : ℕ} → 0 < a → a ≡ 0 → ⊥
    positive l e = omega arith

times : (x p : ℕ) → x ≡ 0 → x * p ≡ 0
times x p e = rw (e, zero-mul p) refl

none : (a b : ℕ) → a ≡ 0 → b < a → ⊥
none a b e l = omega arith

left : (a b : ℕ) → a + b ≤ 0 → a ≡ 0
left a b l = omega arith

right : (a b : ℕ) → a + b ≤ 0 → b ≡ 0
right a b l = omega arith

under : (a b : ℕ) → b ≡ 0 → a ≤ b → a ≡ 0
under a b e l = omega arith

sum_none : (a b : ℕ) → a ≡ 0 → b ≡ 0 → 0 < a + b → ⊥
sum_none a b e d l = omega arith

rest : (a b : ℕ) → a ≡ 0 → 0 < a + b → 0 < b
rest a b e l = omega arith

rest_left : (a b : ℕ) → b ≡ 0 → 0 < a + b → 0 < a
rest_left a b e l = omega arith

above_none : (a b : ℕ) → a ≡ 0 → 0 < b → a < b
above_none a b e l = omega arith

-- ---- a test that fails, by the signs

plus_plus : (a b : ℕ) → b < a → (ltb a b || (eqb a b && true)) ≡ false
plus_plus a b l = rw (le-ltb a b (omega arith), ne_eqb a b (λ e. omega arith)) refl

minus_minus : (a b : ℕ) → a < b → (ltb b a || (eqb a b && true)) ≡ false
minus_minus a b l = rw (le-ltb b a (omega arith), ne_eqb a b (λ e. omega arith)) refl

plus_minus : (a b : ℕ) → (a ≡ 0 → b ≡ 0 → ⊥) → (eqb a b && eqb a 0) ≡ false
plus_minus a b n = go (eqb a b) (eqb a 0) refl refl
  where
    go : (p q : Bool) → eqb a b ≡ p → eqb a 0 ≡ q → (p && q) ≡ false
    go false q e d = refl
    go true false e d = refl
    go true true e d = absurd (n (eqb-true a 0 d) (let s : a ≡ b = eqb-true a b e in let z : a ≡ 0 = eqb-true a 0 d in omega arith))

-- ---- x below y, and z not below y: z is not at most x

past_fin :
    (s t u : Bool) (x y z p q r : ℕ) → 0 < p → 0 < q → 0 < r → below s (x * q) t (y * p) ≡ true → below u (z * q) t (y * r) ≡ false →
    (below u (z * p) s (x * r) || level u (z * p) s (x * r)) ≡ false
past_fin false false false x y z p q r P Q R h g = plus_plus (z * p) (x * r) (strictly x y z p q r R (ltb-true _ _ h) (ltb-false _ _ g))
past_fin false false true x y z p q r P Q R h g =
    let e : y ≡ 0 = nothing y r R (right (z * q) (y * r) (ltb-false _ _ g)) in
    absurd (none (y * p) (x * q) (times y p e) (ltb-true _ _ h))
past_fin false true u x y z p q r P Q R h g = absurd (false≢true h)
past_fin true false false x y z p q r P Q R h g =
    plus_minus (z * p) (x * r)
    (λ a b.
    let f : y ≡ 0 = nothing y r R (under (y * r) (z * q) (times z q (nothing z p P a)) (ltb-false _ _ g)) in
    sum_none (x * q) (y * p) (times x q (nothing x r R b)) (times y p f) (ltb-true _ _ h))
past_fin true false true x y z p q r P Q R h g =
    let l : z * q + y * r ≤ 0 = ltb-false _ _ g in
    let f : y ≡ 0 = nothing y r R (right (z * q) (y * r) l) in
    let k : 0 < x = first_pos x q (rest_left (x * q) (y * p) (times y p f) (ltb-true _ _ h)) in
    minus_minus (z * p) (x * r) (above_none (z * p) (x * r) (times z p (nothing z q Q (left (z * q) (y * r) l))) (mul-pos k R))
past_fin true true false x y z p q r P Q R h g =
    plus_minus (z * p) (x * r) (λ a b. none (x * q) (y * p) (times x q (nothing x r R b)) (ltb-true _ _ h))
past_fin true true true x y z p q r P Q R h g = minus_minus (z * p) (x * r) (strictly_then z y x r q p R (ltb-false _ _ g) (ltb-true _ _ h))

pub past : (x y z : Float) → lt x y ≡ true → lt z y ≡ false → le z x ≡ false
unfolding lt le eq
past nan y z h g = absurd (false≢true h)
past (inf false) nan z h g = absurd (false≢true h)
past (inf false) (inf t) z h g = absurd (false≢true h)
past (inf false) (fin t n d) z h g = absurd (false≢true h)
past (inf true) y nan h g = refl
past (inf true) y (inf false) h g = refl
past (inf true) y (inf true) h g = absurd (true≢false (sym h ∙ g))
past (inf true) y (fin u k c) h g = refl
past (fin s m e) nan z h g = absurd (false≢true h)
past (fin s m e) (inf true) z h g = absurd (false≢true h)
past (fin s m e) (inf false) nan h g = refl
past (fin s m e) (inf false) (inf true) h g = absurd (true≢false g)
past (fin s m e) (inf false) (inf false) h g = refl
past (fin s m e) (inf false) (fin u k c) h g = absurd (true≢false g)
past (fin s m e) (fin t n d) nan h g = refl
past (fin s m e) (fin t n d) (inf true) h g = absurd (true≢false g)
past (fin s m e) (fin t n d) (inf false) h g = refl
past (fin s m e) (fin t n d) (fin u k c) h g = past_fin s t u (m * up e) (n * up d) (k * up c) (down e) (down d) (down c) (down_pos e) (down_pos d) (down_pos c) h g

-- ---- x below y, and x not below z: y is not at most z

short_fin :
    (s t u : Bool) (x y z p q r : ℕ) → 0 < p → 0 < q → 0 < r → below s (x * q) t (y * p) ≡ true → below s (x * r) u (z * p) ≡ false →
    (below t (y * r) u (z * q) || level t (y * r) u (z * q)) ≡ false
short_fin false false false x y z p q r P Q R h g = plus_plus (y * r) (z * q) (strictly_then z x y r p q R (ltb-false _ _ g) (ltb-true _ _ h))
short_fin false false true x y z p q r P Q R h g =
    plus_minus (y * r) (z * q) (λ a b. none (y * p) (x * q) (times y p (nothing y r R a)) (ltb-true _ _ h))
short_fin false true u x y z p q r P Q R h g = absurd (false≢true h)
short_fin true false false x y z p q r P Q R h g =
    let l : x * r + z * p ≤ 0 = ltb-false _ _ g in
    let f : x ≡ 0 = nothing x r R (left (x * r) (z * p) l) in
    let k : 0 < y = first_pos y p (rest (x * q) (y * p) (times x q f) (ltb-true _ _ h)) in
    plus_plus (y * r) (z * q) (above_none (z * q) (y * r) (times z q (nothing z p P (right (x * r) (z * p) l))) (mul-pos k R))
short_fin true false true x y z p q r P Q R h g =
    plus_minus (y * r) (z * q)
    (λ a b.
    let f : x ≡ 0 = nothing x r R (under (x * r) (z * p) (times z p (nothing z q Q b)) (ltb-false _ _ g)) in
    sum_none (x * q) (y * p) (times x q f) (times y p (nothing y r R a)) (ltb-true _ _ h))
short_fin true true false x y z p q r P Q R h g =
    absurd (none (x * q) (y * p) (times x q (nothing x r R (left (x * r) (z * p) (ltb-false _ _ g)))) (ltb-true _ _ h))
short_fin true true true x y z p q r P Q R h g = minus_minus (y * r) (z * q) (strictly y x z q p r R (ltb-true _ _ h) (ltb-false _ _ g))

pub short : (x y z : Float) → lt x y ≡ true → lt x z ≡ false → le y z ≡ false
unfolding lt le eq
short nan y z h g = absurd (false≢true h)
short (inf false) nan z h g = absurd (false≢true h)
short (inf false) (inf t) z h g = absurd (false≢true h)
short (inf false) (fin t n d) z h g = absurd (false≢true h)
short (inf true) nan z h g = absurd (false≢true h)
short (inf true) (inf true) z h g = absurd (false≢true h)
short (inf true) (inf false) nan h g = refl
short (inf true) (inf false) (inf true) h g = refl
short (inf true) (inf false) (inf false) h g = absurd (true≢false g)
short (inf true) (inf false) (fin u k c) h g = absurd (true≢false g)
short (inf true) (fin t n d) nan h g = refl
short (inf true) (fin t n d) (inf true) h g = refl
short (inf true) (fin t n d) (inf false) h g = absurd (true≢false g)
short (inf true) (fin t n d) (fin u k c) h g = absurd (true≢false g)
short (fin s m e) nan z h g = absurd (false≢true h)
short (fin s m e) (inf true) z h g = absurd (false≢true h)
short (fin s m e) (inf false) nan h g = refl
short (fin s m e) (inf false) (inf true) h g = refl
short (fin s m e) (inf false) (inf false) h g = absurd (true≢false g)
short (fin s m e) (inf false) (fin u k c) h g = refl
short (fin s m e) (fin t n d) nan h g = refl
short (fin s m e) (fin t n d) (inf true) h g = refl
short (fin s m e) (fin t n d) (inf false) h g = absurd (true≢false g)
short (fin s m e) (fin t n d) (fin u k c) h g = short_fin s t u (m * up e) (n * up d) (k * up c) (down e) (down d) (down c) (down_pos e) (down_pos d) (down_pos c) h g

-- ---- of two numbers

pub irreflexive : (x : Float) → lt x x ≡ false
unfolding lt
irreflexive nan = refl
irreflexive (inf true) = refl
irreflexive (inf false) = refl
irreflexive (fin true m e) = le-ltb (m * up e * down e) (m * up e * down e) (omega arith)
irreflexive (fin false m e) = le-ltb (m * up e * down e) (m * up e * down e) (omega arith)

pub under_not_over : (x y : Float) → lt x y ≡ true → le y x ≡ false
under_not_over x y h = past x y y h (irreflexive y)

pub one_way : (x y : Float) → lt x y ≡ true → lt y x ≡ false
unfolding le
one_way x y h = ((or-eq-false-eq-eq-false-and-eq-false (lt y x) (eq y x)).0 (under_not_over x y h)).0

pub lt_le : (x y : Float) → lt x y ≡ true → le x y ≡ true
unfolding le
lt_le x y h = or_inl (lt x y) (eq x y) h

pub itself : (x : Float) → eq x x ≡ false → x ≡ nan
unfolding eq
itself nan h = refl
itself (inf true) h = absurd (true≢false h)
itself (inf false) h = absurd (true≢false h)
itself (fin s m e) h = absurd (true≢false (sym (go s) ∙ h))
  where
    go : (s : Bool) → level s (m * up e * down e) s (m * up e * down e) ≡ true
    go true = rw (eq-eqb (m * up e * down e) (m * up e * down e) refl) refl
    go false = rw (eq-eqb (m * up e * down e) (m * up e * down e) refl) refl

pub nan_under : (x y : Float) → eq x x ≡ false → lt x y ≡ false
unfolding lt
nan_under x y h = rw (itself x h) refl

pub lt_nan : (x : Float) → lt x nan ≡ false
unfolding lt
lt_nan nan = refl
lt_nan (inf s) = refl
lt_nan (fin s m e) = refl

pub le_nan : (x : Float) → le x nan ≡ false
unfolding le lt eq
le_nan nan = refl
le_nan (inf s) = refl
le_nan (fin s m e) = refl

pub under_nan : (x y : Float) → eq y y ≡ false → lt x y ≡ false
unfolding lt
under_nan x y h = rw (itself y h) (lt_nan x)

-- ---- not below one another: at least

-- two numbers by signs and counts
level_or : (a b : ℕ) → a ≤ b → (ltb a b || (eqb a b && true)) ≡ true
level_or a b l = go (ltb a b) refl
  where
    go : (t : Bool) → ltb a b ≡ t → (t || (eqb a b && true)) ≡ true
    go true e = refl
    go false e = rw (eq-eqb a b (let h : b ≤ a = ltb-false a b e in omega arith)) refl

level_or_down : (a b : ℕ) → b ≤ a → (ltb b a || (eqb a b && true)) ≡ true
level_or_down a b l = go (ltb b a) refl
  where
    go : (t : Bool) → ltb b a ≡ t → (t || (eqb a b && true)) ≡ true
    go true e = refl
    go false e = rw (eq-eqb a b (let h : a ≤ b = ltb-false b a e in omega arith)) refl

both_none : (a b : ℕ) → a + b ≤ 0 → (eqb a b && eqb a 0) ≡ true
both_none a b l = rw (eq-eqb a b (omega arith), eq-eqb a 0 (omega arith)) refl

none_or : (a b : ℕ) → (ltb 0 (a + b) || (eqb a b && eqb a 0)) ≡ true
none_or a b = go (ltb 0 (a + b)) refl
  where
    go : (t : Bool) → ltb 0 (a + b) ≡ t → (t || (eqb a b && eqb a 0)) ≡ true
    go true e = refl
    go false e = both_none a b (ltb-false 0 (a + b) e)

at_least_fin : (s t : Bool) (a b : ℕ) → below t b s a ≡ false → (below s a t b || level s a t b) ≡ true
at_least_fin false false a b h = level_or a b (ltb-false b a h)
at_least_fin false true a b h = both_none a b (let l : b + a ≤ 0 = ltb-false 0 (b + a) h in omega arith)
at_least_fin true false a b h = none_or a b
at_least_fin true true a b h = level_or_down a b (ltb-false a b h)

numbers : (b g : Float) → eq b b ≡ true → is_nan g ≡ false → lt g b ≡ false → le b g ≡ true
unfolding le lt eq is_nan
numbers nan g e n h = absurd (false≢true e)
numbers (inf s) nan e n h = absurd (true≢false n)
numbers (inf true) (inf true) e n h = refl
numbers (inf true) (inf false) e n h = refl
numbers (inf false) (inf true) e n h = absurd (true≢false h)
numbers (inf false) (inf false) e n h = refl
numbers (inf true) (fin t k d) e n h = refl
numbers (inf false) (fin t k d) e n h = absurd (true≢false h)
numbers (fin s m c) nan e n h = absurd (true≢false n)
numbers (fin s m c) (inf true) e n h = absurd (true≢false h)
numbers (fin s m c) (inf false) e n h = refl
numbers (fin s m c) (fin t k d) e n h = at_least_fin s t (m * up c * down d) (k * up d * down c) h

-- a number that is not below b is at least b, where b is one itself
pub at_least : (b g : Float) → is_nan g ≡ false → lt g b ≡ false → le b g ≡ eq b b
unfolding le lt eq
at_least b g n h = go (eq b b) refl
  where
    go : (t : Bool) → eq b b ≡ t → le b g ≡ t
    go true e = numbers b g e n h
    go false e = rw (itself b e) refl

-- ---- below: less than what is above

le_of_lt : (x y : Float) → lt x y ≡ true → le x y ≡ true
unfolding le
le_of_lt x y h = rw h refl

-- x below y and y below z
pub lt_trans : (x y z : Float) → lt x y ≡ true → lt y z ≡ true → lt x z ≡ true
lt_trans x y z h g = go (lt x z) refl
  where
    go : (t : Bool) → lt x z ≡ t → t ≡ true
    go true e = refl
    go false e = sym (short x y z h e) ∙ le_of_lt y z g

-- x below z and not below the number y, so y is below z
pub lt_from : (x y z : Float) → is_nan y ≡ false → lt x z ≡ true → lt x y ≡ false → lt y z ≡ true
lt_from x y z n h g = go (lt y z) refl
  where
    go : (t : Bool) → lt y z ≡ t → t ≡ true
    go true e = refl
    go false e = number (eq z z) refl
      where
        number : (t : Bool) → eq z z ≡ t → false ≡ true
        number true d = sym (short x z y h g) ∙ at_least z y n e ∙ d
        number false d = sym (under_nan x z d) ∙ h

-- what is below something is a number
pub lt_number : (x y : Float) → lt x y ≡ true → is_nan x ≡ false
unfolding lt is_nan
lt_number nan y h = absurd (false≢true h)
lt_number (inf s) y h = refl
lt_number (fin s m e) y h = refl

-- ---- of two numbers, one is at most the other

eq_number : (x : Float) → eq x x ≡ true → is_nan x ≡ false
unfolding eq is_nan
eq_number nan e = absurd (false≢true e)
eq_number (inf s) e = refl
eq_number (fin s m d) e = refl

pub over : (x y : Float) → eq x x ≡ true → eq y y ≡ true → le x y ≡ false → lt y x ≡ true
over x y a b h = go (lt y x) refl
  where
    go : (t : Bool) → lt y x ≡ t → lt y x ≡ true
    go true e = e
    go false e = absurd (false≢true (sym h ∙ at_least x y (eq_number y b) e ∙ a))

from_nan : (x : Float) → le nan x ≡ false
unfolding lt le eq
from_nan nan = refl
from_nan (inf true) = refl
from_nan (inf false) = refl
from_nan (fin s m e) = refl

-- what a number is compared with is a number
right_number : (x y : Float) → le x y ≡ true → eq y y ≡ true
right_number x y h = go (eq y y) refl
  where
    go : (t : Bool) → eq y y ≡ t → eq y y ≡ true
    go true e = e
    go false e = absurd (false≢true (sym (le_nan x) ∙ sym (ap (le x) (itself y e)) ∙ h))

left_number : (x y : Float) → le x y ≡ true → eq x x ≡ true
left_number x y h = go (eq x x) refl
  where
    go : (t : Bool) → eq x x ≡ t → eq x x ≡ true
    go true e = e
    go false e = absurd (false≢true (sym (from_nan y) ∙ sym (ap (λ (z : Float). le z y) (itself x e)) ∙ h))

-- what a number is at least, or at most, holds of one that is not above it, or not below it
module _ (a b p : Float) (m : eq b b ≡ true) where
  pub low_too : lt a b ≡ false → le a p ≡ true → le b p ≡ true
  low_too h k = go (le b p) refl
    where
      go : (t : Bool) → le b p ≡ t → le b p ≡ true
      go true e = e
      go false e = absurd (false≢true (sym (past p b a (over b p m (right_number a p k) e) h) ∙ k))

  pub high_too : lt b a ≡ false → le p a ≡ true → le p b ≡ true
  high_too h k = go (le p b) refl
    where
      go : (t : Bool) → le p b ≡ t → le p b ≡ true
      go true e = e
      go false e = absurd (false≢true (sym (short b p a (over p b (left_number p a k) m e) h) ∙ k))
