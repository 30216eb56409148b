-- Whatever a finite number divided by a positive one rounds to, infinity too, its clamp is a fraction from 0 to 1. For tiny edges, whose
-- quotient may be anything. Assumes nothing.
use mathlib.Core.Path.{◌≡◌, refl, sym, subst}
use mathlib.Core.Logic.{◌⊎◌, inl, inr}
use mathlib.Core.Bool.{Bool, true, false, cond}
use Prim.Native.Nat.{ℕ, suc, ◌+◌, ◌*◌, ◌^◌, ◌≤◌, ◌<◌, zero-le}
use native.Mathlib.Nat.{le_refl}
use lib.Dec.{ltb, eqb}
use lib.Ieee.{Float, nan, inf, fin, binary64, low, emax, up, down, unlike, odd, units, round, lt, of_bits}
use lib.Ieee
use lib.Ieee.Fits.{round_is, down_pos}
use lib.Ieee.Bits.{cond_no}
use lib.Ieee.Exact.{HasValue, odd_sign}
use lib.Ieee.Order.{drop, kept}
use Rattle.math.specs.Number.{raised, lowered, clamp, div}
use Rattle.math.proofs.Signed.{Signed, ◌⊖◌}
use Rattle.math.proofs.Operations.{unit, signed, Is, divisor_some, divisor_test}
use Rattle.margins.proofs.Clamp.{clamp_fraction, zero_is, one_is}

-- z is a fraction of t units
pub record FractionOf (z : Float) : Type 0 where
  pub t : ℕ
  pub is : Is z (t ⊖ 0)
  pub at_most : t ≤ unit

-- z is a number of units with the sign s
record Finite (z : Float) (s : Bool) : Type 0 where
  size : ℕ
  value : HasValue z s size (2 ^ 1074)

units_or : (s : Bool) (q k : ℕ) → Finite (units binary64 s q k) s ⊎ (units binary64 s q k ≡ inf s)
unfolding units
units_or s q k = go (ltb (q * 2 ^ k) (2 ^ (low binary64 + suc (emax binary64))))
  where
    go : (b : Bool) → Finite (cond b (odd 54 s q k 1074) (inf s)) s ⊎ (cond b (odd 54 s q k 1074) (inf s) ≡ inf s)
    go true = inl (record { size = q * 2 ^ k; value = odd_sign 54 s q k 1074 })
    go false = inr refl

-- a rounded fraction is finite or infinite
round_or : (s : Bool) (num den : ℕ) → Finite (round binary64 s num den) s ⊎ (round binary64 s num den ≡ inf s)
round_or s num den =
    subst (λ (z : Float). Finite z s ⊎ (z ≡ inf s)) (sym (round_is binary64 s num den))
    (units_or s (kept 53 (num * 2 ^ 1074) den) (drop 53 (num * 2 ^ 1074) den))

clamp_inf : (s : Bool) → FractionOf (clamp (inf s))
unfolding lt clamp raised lowered of_bits
clamp_inf false = record { t = unit; is = one_is; at_most = le_refl unit }
clamp_inf true = record { t = 0; is = zero_is; at_most = zero-le }

clamp_or : (z : Float) (s : Bool) → Finite z s ⊎ (z ≡ inf s) → FractionOf (clamp z)
clamp_or z s (inl v) =
    let f = clamp_fraction {s = signed s v.size} (record { sign = s; size = v.size; value = v.value; same = refl }) in
    record { t = f.t; is = f.is; at_most = f.at_most }
clamp_or z s (inr e) = subst (λ (x : Float). FractionOf (clamp x)) (sym e) (clamp_inf s)

-- the clamp of a quotient by a divisor of Q units, above 0
pub any_fraction : (x y : Float) {s : Signed} (Q : ℕ) → Is x s → HasValue y false Q (2 ^ 1074) → 0 < Q → FractionOf (clamp (div x y))
unfolding lib.Ieee.div
any_fraction nan y Q i v Qp = absurd i.value
any_fraction (inf _) y Q i v Qp = absurd i.value
any_fraction (fin _ _ _) nan Q i v Qp = absurd v
any_fraction (fin _ _ _) (inf _) Q i v Qp = absurd v
any_fraction (fin s w c) (fin t z d) Q i v Qp =
    let r = round binary64 (unlike s t) (w * up c * down d) (z * up d * down c) in
    subst (λ (o : Float). FractionOf (clamp o))
    (sym (cond_no (eqb z 0) (cond (eqb w 0) nan (inf (unlike s t))) r (divisor_test z (divisor_some z (up d) (down d) Q (down_pos d) Qp v.1))))
    (clamp_or r (unlike s t) (round_or (unlike s t) (w * up c * down d) (z * up d * down c)))
