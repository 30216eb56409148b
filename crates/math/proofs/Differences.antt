-- A rounded difference: told from the other side it is the same but for its sign, and that of equal numbers is nothing. Assumes nothing.
use Prim.Native.Nat.{ℕ, zero, suc, ◌+◌, ◌-◌, ◌*◌, ◌^◌, ◌<◌}
use native.Mathlib.Nat.{zero-mul, mul-one, mul-pos}
use native.Mathlib.Omega.{arith}
use mathlib.Core.Path.{◌≡◌, refl, sym, ap, ◌∙◌}
use mathlib.Core.Bool.{Bool, true, false, not, cond, ◌&&◌, ◌||◌, beq, false≢true}
use borrow.Author.Tests.{ltb-true, le-ltb, ne_eqb, eqb-true}
use lib.Dec.{ltb, eqb}
use lib.IntN.{ℤ}
use lib.Ieee.{Float, nan, inf, fin, Format, binary64, up, down, odd, units, round, sum, neg, lt, le, eq, of_bits}
use lib.Ieee.Exact.{HasValue, round_exact}
use lib.Ieee.Fits.{round_is, down_pos}
use lib.Pow.{pow_pos}
use Rattle.math.specs.Number.{abs, sub, zero_float}
use Rattle.math.proofs.Swap.{add_swap}
use Rattle.math.proofs.Order.{le_nan}

-- ---- a rounded fraction has its sign, and nothing else of it depends on the sign

units_neg : (f : Format) (q k : ℕ) → units f true q k ≡ neg (units f false q k)
unfolding units odd neg
units_neg f q k = go (ltb (q * 2 ^ k) (2 ^ (lib.Ieee.low f + suc (lib.Ieee.emax f)))) q
  where
    go : (b : Bool) (q : ℕ) → cond b (odd (suc (lib.Ieee.prec f)) true q k (lib.Ieee.low f)) (inf true) ≡ neg (cond b (odd (suc (lib.Ieee.prec f)) false q k (lib.Ieee.low f)) (inf false))
    go false q = refl
    go true zero = refl
    go true (suc q) = refl

pub round_neg : (a c : ℕ) → round binary64 true a c ≡ neg (round binary64 false a c)
round_neg a c = round_is binary64 true a c ∙ units_neg binary64 _ _ ∙ ap neg (sym (round_is binary64 false a c))

abs_neg : (x : Float) → abs (neg x) ≡ abs x
unfolding abs neg
abs_neg nan = refl
abs_neg (inf s) = refl
abs_neg (fin s m e) = refl

abs_round : (s : Bool) (a c : ℕ) → abs (round binary64 s a c) ≡ abs (round binary64 false a c)
abs_round false a c = refl
abs_round true a c = ap abs (round_neg a c) ∙ abs_neg (round binary64 false a c)

-- ---- a difference from either side

-- a sum without its sign, of two of one sign or of two of different ones
size_of : Bool → ℕ → ℕ → ℕ → Float
size_of like a b c =
    cond like (abs (round binary64 false (a + b) c)) (cond (ltb a b) (abs (round binary64 false (b - a) c)) (abs (round binary64 false (a - b) c)))

abs_cond : (t : Bool) (x y z w : Float) → abs x ≡ z → abs y ≡ w → abs (cond t x y) ≡ cond t z w
abs_cond true x y z w e f = e
abs_cond false x y z w e f = f

abs_sum : (s : Bool) (a : ℕ) (t : Bool) (b c : ℕ) → abs (sum binary64 s a t b c) ≡ size_of (beq s t) a b c
unfolding sum size_of
abs_sum s a t b c =
    abs_cond (beq s t) _ _ _ _ (abs_round s (a + b) c)
    (abs_cond (ltb a b) _ _ _ _ (abs_round t (b - a) c) (abs_round (s && ltb b a) (a - b) c))

like_not : (s t : Bool) → beq s (not t) ≡ beq (not s) t
like_not true true = refl
like_not true false = refl
like_not false true = refl
like_not false false = refl

infinities : (s t : Bool) → abs (cond (beq s (not t)) (inf s) nan) ≡ abs (cond (beq (not s) t) (inf (not s)) nan)
unfolding abs
infinities true true = refl
infinities true false = refl
infinities false true = refl
infinities false false = refl

turned : (x y : Float) → abs (lib.Ieee.add binary64 x (neg y)) ≡ abs (lib.Ieee.add binary64 (neg x) y)
unfolding lib.Ieee.add neg abs
turned nan y = refl
turned (inf s) nan = refl
turned (inf s) (inf t) = infinities s t
turned (inf s) (fin t n d) = refl
turned (fin s m e) nan = refl
turned (fin s m e) (inf t) = refl
turned (fin s m e) (fin t n d) =
    let a : ℕ = m * up e * down d in
    let b : ℕ = n * up d * down e in
    let c : ℕ = down e * down d in
    abs_sum s a (not t) b c ∙ ap (λ (like : Bool). size_of like a b c) (like_not s t) ∙ sym (abs_sum (not s) a t b c)

pub abs_sub : (x y : Float) → abs (sub x y) ≡ abs (sub y x)
unfolding lib.Ieee.sub
abs_sub x y = turned x y ∙ ap abs (add_swap (neg x) y)

-- ---- a difference of equal numbers

pub no_factor : (x c : ℕ) → 0 < c → x * c ≡ 0 → x ≡ 0
no_factor zero c C h = refl
no_factor (suc x) zero C h = absurd (omega arith)
no_factor (suc x) (suc c) C h = absurd (omega arith)

pub zero_value : (s : Bool) (c : ℕ) → 0 < c → HasValue (round binary64 s 0 c) s 0 c
zero_value s c C = round_exact binary64 s 0 c 0 0 C (pow_pos 53) (pow_pos 2098) (simp (zero-mul))

-- a number of value 0 has the significand 0
pub no_value : (m : ℕ) (e : ℤ) (c : ℕ) → 0 < c → m * up e * c ≡ 0 * down e → m * up e ≡ 0
no_value m e c C h = no_factor (m * up e) c C (h ∙ zero-mul (down e))

above_nothing : (n : ℕ) (d : ℤ) (m : ℕ) (e : ℤ) → 0 < n * up d → m * up e ≡ 0 → le (fin false n d) (fin false m e) ≡ false
unfolding le lt eq
above_nothing n d m e l h =
    rw (h, zero-mul (down d), le-ltb (n * up d * down e) 0 (omega arith), ne_eqb (n * up d * down e) 0 (λ g. absurd (omega (arith, mul-pos l (down_pos e), g)))) refl

some : (n : ℕ) (d : ℤ) → lt zero_float (fin false n d) ≡ true → 0 < n * up d
unfolding lt of_bits
some n d h = omega (arith, mul-one (n * up d), ltb-true (0 * 1 * down d) (n * up d * 1) h)

under_all : (b x : Float) (s : Bool) (c : ℕ) → 0 < c → lt zero_float b ≡ true → HasValue x s 0 c → le b (abs x) ≡ false
unfolding lt le eq abs of_bits
under_all b nan s c C l v = absurd v
under_all b (inf t) s c C l v = absurd v
under_all nan (fin t m e) s c C l v = refl
under_all (inf true) (fin t m e) s c C l v = absurd (false≢true l)
under_all (inf false) (fin t m e) s c C l v = refl
under_all (fin true n d) (fin t m e) s c C l v = absurd (false≢true l)
under_all (fin false n d) (fin t m e) s c C l v = above_nothing n d m e (some n d l) (no_value m e c C v.1)

module _ (b : Float) (l : lt zero_float b ≡ true) where
  nothing : (a c : ℕ) → 0 < c → a ≡ 0 → le b (abs (round binary64 false a c)) ≡ false
  nothing a c C e = rw e (under_all b (round binary64 false 0 c) false c C l (zero_value false c C))

  equal_sizes : (like : Bool) (x y c : ℕ) → 0 < c → x ≡ y → (like ≡ true → x ≡ 0) → le b (size_of like x y c) ≡ false
  unfolding size_of
  equal_sizes true x y c C e z = nothing (x + y) c C (omega (arith, e, z refl))
  equal_sizes false x y c C e z = go (ltb x y)
    where
      go : (t : Bool) → le b (cond t (abs (round binary64 false (y - x) c)) (abs (round binary64 false (x - y) c))) ≡ false
      go true = nothing (y - x) c C (omega (arith, e))
      go false = nothing (x - y) c C (omega (arith, e))

  level_both : (s t : Bool) (x y : ℕ) → (eqb x y && (beq s t || eqb x 0)) ≡ true → (x ≡ y) × (beq s (not t) ≡ true → x ≡ 0)
  level_both s t x y h = go s t (eqb x y) (eqb x 0) refl refl h
    where
      go : (s t p q : Bool) → eqb x y ≡ p → eqb x 0 ≡ q → (p && (beq s t || q)) ≡ true → (x ≡ y) × (beq s (not t) ≡ true → x ≡ 0)
      go s t false q e f h = absurd (false≢true h)
      go s t true true e f h = (eqb-true x y e, λ g. eqb-true x 0 f)
      go true true true false e f h = (eqb-true x y e, λ g. absurd (false≢true g))
      go false false true false e f h = (eqb-true x y e, λ g. absurd (false≢true g))
      go true false true false e f h = absurd (false≢true h)
      go false true true false e f h = absurd (false≢true h)

  -- equal numbers are nowhere apart by what is above 0: an infinity less itself is a NaN
  pub equal_sub : (x y : Float) → eq x y ≡ true → le b (abs (sub x y)) ≡ false
  unfolding eq lib.Ieee.sub lib.Ieee.add neg abs
  equal_sub nan y h = absurd (false≢true h)
  equal_sub (inf s) nan h = absurd (false≢true h)
  equal_sub (inf true) (inf true) h = le_nan b
  equal_sub (inf false) (inf false) h = le_nan b
  equal_sub (inf true) (inf false) h = absurd (false≢true h)
  equal_sub (inf false) (inf true) h = absurd (false≢true h)
  equal_sub (inf s) (fin t n d) h = absurd (false≢true h)
  equal_sub (fin s m e) nan h = absurd (false≢true h)
  equal_sub (fin s m e) (inf t) h = absurd (false≢true h)
  equal_sub (fin s m e) (fin t n d) h =
      let x : ℕ = m * up e * down d in
      let y : ℕ = n * up d * down e in
      let c : ℕ = down e * down d in
      let told : (x ≡ y) × (beq s (not t) ≡ true → x ≡ 0) = level_both s t x y h in
      ap (le b) (abs_sum s x (not t) y c) ∙ equal_sizes (beq s (not t)) x y c (mul-pos (down_pos e) (down_pos d)) told.0 told.1
