-- Doubles in units: a finite one is `over` - `under` units, and the order of doubles is that of their units. Assumes nothing.
use mathlib.Core.Path.{◌≡◌, refl, sym, ◌∙◌}
use mathlib.Core.Bool.{Bool, true, false, cond, ◌&&◌, true≢false, false≢true, ◌||◌}
use Prim.Native.Nat.{ℕ, zero, suc, ◌+◌, ◌*◌, ◌^◌, ◌≤◌, ◌<◌, zero-le}
use native.Mathlib.Nat.{mul-pos}
use native.Mathlib.Omega.{arith}
use borrow.Author.Tests.{ltb-false, eq-eqb, le-ltb, ne_eqb}
use lib.Dec.{T, ltb, eqb}
use lib.Pow.{pow_pos}
use lib.Ieee.{Float, nan, inf, fin, binary64, up, down, fits, lt, le, eq, of_bits}
use lib.Ieee.Exact.{HasValue}
use lib.Ieee.Fits.{down_pos}
use Rattle.math.specs.Number.{finite, zero_float}
use Rattle.plane.specs.declared.PlanarPoint.{PlanarPoint}
use Rattle.hypotenuse.specs.Hypot.{count}
use Rattle.hypotenuse.proofs.Units.{count_of, count_exact}
use Rattle.margins.specs.Far.{over, under}
use Rattle.math.proofs.Signed.{Signed, ◌⊖◌, Vector}
pub use Rattle.math.proofs.Operations.{upward}
pub use Rattle.math.proofs.Ranks.{units_order}
use Rattle.math.proofs.Ranks.{lt_units}
use Rattle.math.proofs.Operations.{signed, Is, by_sign}
use Rattle.margins.proofs.Quotient.{Length}

-- ---- a finite double in units

-- a point in units
abbrev pub units_of : PlanarPoint → Vector
units_of p = record { east = over p.east ⊖ under p.east; north = over p.north ⊖ under p.north }

-- a finite double is that many units
pub of_double : (x : Float) → T (fits binary64 x) → finite x ≡ true → Is x (over x ⊖ under x)
unfolding finite over under
of_double nan f h = absurd (false≢true h)
of_double (inf s) f h = absurd (false≢true h)
of_double (fin s m e) f h = record { sign = s; size = count m e; value = count_exact s m e f; same = both s }
  where
    both : (s : Bool) → (cond s 0 (count m e) ⊖ cond s (count m e) 0) ≡ signed s (count m e)
    both true = refl
    both false = refl

-- a number has one size
pub size_is : (x : Float) (s t : Bool) (a b : ℕ) → HasValue x s a (2 ^ 1074) → HasValue x t b (2 ^ 1074) → a ≡ b
size_is nan s t a b h k = absurd h
size_is (inf u) s t a b h k = absurd h
size_is (fin u m e) s t a b h k = count_of u s m e a h ∙ sym (count_of u t m e b k)

-- ---- order

-- g is not below z
reaches_value : (g z : Float) (s : Bool) (q n : ℕ) → HasValue g false q (2 ^ 1074) → HasValue z s n (2 ^ 1074) → lt g z ≡ false → (signed s n).plus ≤ q
reaches_value g z true q n v w h = zero-le
reaches_value g z false q n v w h = ltb-false q n (sym (lt_units g z false false q n v w) ∙ h)

-- so it has at least as many units above 0
pub reaches : (g z : Float) (q p m : ℕ) → HasValue g false q (2 ^ 1074) → Is z (p ⊖ m) → lt g z ≡ false → p ≤ q
reaches g z q p m v i h = by_sign (λ (s : Signed). s.plus ≤ q) i (λ s n w. reaches_value g z s q n v w h)

-- ---- above 0

-- a negative number is at most 0
minus_le : (a b : ℕ) → (ltb 0 (a + b) || (eqb a b && eqb a 0)) ≡ true
minus_le a b = go (ltb 0 (a + b)) refl
  where
    go : (t : Bool) → ltb 0 (a + b) ≡ t → (t || (eqb a b && eqb a 0)) ≡ true
    go true e = refl
    go false e = let l : a + b ≤ 0 = ltb-false 0 (a + b) e in rw (eq-eqb a b (omega arith), eq-eqb a 0 (omega arith)) refl

-- 0 is at most 0
zero_le_zero : (a b : ℕ) → a ≡ 0 → b ≡ 0 → (ltb a b || (eqb a b && true)) ≡ true
zero_le_zero a b e f = rw (le-ltb a b (omega arith), eq-eqb a b (omega arith)) refl

-- a number above 0 is not
some_not_le : (a b : ℕ) → 0 < a → b ≡ 0 → (ltb a b || (eqb a b && true)) ≡ false
some_not_le a b l e = rw (le-ltb a b (omega arith), ne_eqb a b (λ h. omega arith)) refl

none : (d : ℕ) → 0 * 1 * d ≡ 0
none d = omega arith

above_value : (z : Float) (b : Bool) (n : ℕ) → HasValue z b n (2 ^ 1074) → le z zero_float ≡ false → Length z
unfolding le lt eq of_bits
above_value nan b n v h = absurd v
above_value (inf _) b n v h = absurd v
above_value (fin true w e) b n v h = absurd (true≢false (sym (minus_le (w * up e * 1) (0 * 1 * down e)) ∙ h))
above_value (fin false w e) b n v h = record { size = n; value = (refl, v.1); some = some n v.1 }
  where
    some : (q : ℕ) → w * up e * 2 ^ 1074 ≡ q * down e → 0 < q
    some (suc q) v = omega arith
    some zero v =
        let at_zero = zero_le_zero (w * up e * 1) (0 * 1 * down e) (gone (w * up e) (2 ^ 1074) (down e) (pow_pos 1074) v) (none (down e)) in
        absurd (true≢false (sym at_zero ∙ h))
      where
        gone : (a u d : ℕ) → 0 < u → a * u ≡ 0 * d → a * 1 ≡ 0
        gone zero u d U h = refl
        gone (suc a) u d U h = absurd (no a u d U h)
          where
            no : (a u d : ℕ) → 0 < u → suc a * u ≡ 0 * d → ⊥
            no a u d U h = omega arith

-- a finite number that is not at most 0
pub above : {z : Float} {s : Signed} → Is z s → le z zero_float ≡ false → Length z
above {z} i h = above_value z i.sign i.size i.value h

-- and the other way round
pub not_zero : (z : Float) → Length z → le z zero_float ≡ false
unfolding le lt eq of_bits
not_zero nan l = absurd l.value
not_zero (inf s) l = absurd l.value
not_zero (fin true w e) l = absurd (true≢false l.value.0)
not_zero (fin false w e) l = some_not_le (w * up e * 1) (0 * 1 * down e) (some (w * up e) l.size l.some l.value.1) (none (down e))
  where
    some : (a q : ℕ) → 0 < q → a * 2 ^ 1074 ≡ q * down e → 0 < a * 1
    some zero q Q h = absurd (no q (down e) (2 ^ 1074) Q (down_pos e) h)
      where
        no : (q d u : ℕ) → 0 < q → 0 < d → 0 * u ≡ q * d → ⊥
        no q d u Q D h = let p = mul-pos Q D in omega arith
    some (suc a) q Q h = omega arith
