-- A double in three digits of 27 bits at a slot. Assumes nothing.
use mathlib.Core.Path.{◌≡◌, refl, sym, ap, ◌∙◌, subst}
use mathlib.Core.Bool.{Bool, true, not}
use Prim.Native.Nat.{ℕ, ◌+◌, ◌-◌, ◌*◌, ◌/◌, ◌%◌, ◌^◌, ◌≤◌, ◌<◌}
use native.Mathlib.Nat.{mul-le-mul, mul_assoc, div-add-mod'}
use native.Mathlib.Omega.{arith}
use lib.Dec.{T}
use lib.Pow.{pow-add, pow_mono}
use lib.Ieee.{Float, nan, inf, fin, is_nan}
use Rattle.hypotenuse.proofs.Poly.{poly}
use Rattle.math.specs.Number.{finite}
use Rattle.math.specs.Parts.{exponent_of, significand_of, units_of}
use Rattle.turn.specs.declared.exact.Limbs.{Limbs}
use Rattle.turn.specs.Digits.{LimbsOf}

-- the products of the parts of m with 2 ^ s, as plain numbers
record Shifted (m s h l : ℕ) : Type 0 where
  small : h ≤ 2 ^ 52
  low : l ≤ (2 ^ 27 - 1) * 2 ^ 26
  is : h * 2 ^ 27 + l ≡ m * 2 ^ s

shifted : (m s u : ℕ) → m < 2 ^ 53 → s ≤ 26 → u ≡ 2 ^ s → Shifted m s (m / 134217728 * u) (m % 134217728 * u)
shifted m s u h g e =
    let high : m / 134217728 ≤ 2 ^ 26 = omega arith in
    let lo : m % 134217728 ≤ 2 ^ 27 - 1 = omega arith in
    let top : u ≤ 2 ^ 26 = subst (λ (x : ℕ). x ≤ 2 ^ 26) (sym e) (pow_mono g) in
    record {
      small = mul-le-mul high top;
      low = mul-le-mul lo top;
      is = joined (m / 134217728) (m % 134217728) u ∙ ap (λ (x : ℕ). x * u) (div-add-mod' m 134217728) ∙ ap (λ (x : ℕ). m * x) e;
    }
  where
    joined : (a b u : ℕ) → a * u * 2 ^ 27 + b * u ≡ (a * 134217728 + b) * u
    joined a b u = simp poly (omega arith)

pub first_fits : (m e u : ℕ) → m < 2 ^ 53 → u ≡ 2 ^ (e % 27) → m % 134217728 * u < 2 ^ 64
first_fits m e u h g = let s = shifted m (e % 27) u h (omega arith) g in omega (arith, s.low)

pub second_fits : (m e u : ℕ) → m < 2 ^ 53 → u ≡ 2 ^ (e % 27) → m / 134217728 * u < 2 ^ 64
second_fits m e u h g = let s = shifted m (e % 27) u h (omega arith) g in omega (arith, s.small)

pub sum_fits : (m e u : ℕ) → m < 2 ^ 53 → u ≡ 2 ^ (e % 27) → m / 134217728 * u + m % 134217728 * u / 134217728 < 2 ^ 64
sum_fits m e u h g = let s = shifted m (e % 27) u h (omega arith) g in fits_in (m / 134217728 * u) (m % 134217728 * u) s.small s.low
  where
    fits_in : (h l : ℕ) → h ≤ 2 ^ 52 → l ≤ (2 ^ 27 - 1) * 2 ^ 26 → h + l / 134217728 < 2 ^ 64
    fits_in h l a b = omega arith

-- three digits of h * 2 ^ 27 + l
record Three (h l : ℕ) : Type 0 where
  is : l % 134217728 + (h + l / 134217728) % 134217728 * 2 ^ 27 + (h + l / 134217728) / 134217728 * 2 ^ 54 ≡ h * 2 ^ 27 + l
  low_lt : l % 134217728 < 2 ^ 27
  mid_lt : (h + l / 134217728) % 134217728 < 2 ^ 27
  high_lt : (h + l / 134217728) / 134217728 < 2 ^ 27

three : (h l : ℕ) → h ≤ 2 ^ 52 → l ≤ (2 ^ 27 - 1) * 2 ^ 26 → Three h l
three h l a b = record { is = omega arith; low_lt = omega arith; mid_lt = omega arith; high_lt = omega arith }

pub spread_law : (back : Bool) (m e u slot : ℕ) → m < 2 ^ 53 → e ≤ 2045 → u ≡ 2 ^ (e % 27) → e % 27 + 27 * slot ≡ e
    → LimbsOf back (m * 2 ^ e) (record {
      back = back;
      slot = slot;
      low = m % 134217728 * u % 134217728;
      mid = (m / 134217728 * u + m % 134217728 * u / 134217728) % 134217728;
      high = (m / 134217728 * u + m % 134217728 * u / 134217728) / 134217728;
    })
spread_law back m e u slot h g p whole =
    let s = shifted m (e % 27) u h (omega arith) p in
    let t = three (m / 134217728 * u) (m % 134217728 * u) s.small s.low in
    record {
      back_is = refl;
      is = ap (λ (x : ℕ). x * 2 ^ (27 * slot)) (t.is ∙ s.is) ∙ mul_assoc m (2 ^ (e % 27)) (2 ^ (27 * slot)) ∙ ap (λ (x : ℕ). m * x) (sym (pow-add 2 (e % 27) (27 * slot))) ∙ ap (λ (x : ℕ). m * 2 ^ x) whole;
      small = record { slot_le = omega arith; low_lt = t.low_lt; mid_lt = t.mid_lt; high_lt = t.high_lt };
    }

-- ---- a finite double
pub no_nan : (x : Float) → finite x ≡ true → T (not (is_nan x))
unfolding finite is_nan
no_nan nan h = subst T (sym h) tt
no_nan (inf s) h = tt
no_nan (fin s m e) h = tt

pub limbs_law : (back : Bool) (b a m e : ℕ) (l : Limbs) → a ≡ b % 2 ^ 63 → m ≡ significand_of a → e ≡ exponent_of a → LimbsOf back (m * 2 ^ e) l → LimbsOf back (units_of (b % 2 ^ 63)) l
unfolding units_of
limbs_law back b a m e l p q r w = subst (λ (u : ℕ). LimbsOf back u l) (ap (λ (x : ℕ). x * 2 ^ e) q ∙ ap (λ (x : ℕ). significand_of a * 2 ^ x) r ∙ ap (λ (x : ℕ). significand_of x * 2 ^ exponent_of x) p) w

pub parts_small : (b a m e : ℕ) → b % 2 ^ 63 < 2047 * 2 ^ 52 → a ≡ b % 2 ^ 63 → m ≡ significand_of a → e ≡ exponent_of a → (m < 2 ^ 53) × (e ≤ 2045)
parts_small b a m e h p q r = (short a m q, few a e (subst (λ (x : ℕ). x < 2047 * 2 ^ 52) (sym p) h) r)
  where
    short : (a m : ℕ) → m ≡ significand_of a → m < 2 ^ 53
    short a m q = omega arith

    few : (a e : ℕ) → a < 2047 * 2 ^ 52 → e ≡ exponent_of a → e ≤ 2045
    few a e h r = omega arith
