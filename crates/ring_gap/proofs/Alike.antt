-- Two doubles without a sign, neither below the other, are one. Assumes nothing.
use Prim.Native.Nat.{ℕ, ◌+◌, ◌-◌, ◌*◌, ◌/◌, ◌^◌}
use native.Mathlib.Nat.{le_antisymm}
use mathlib.Core.Path.{◌≡◌, refl, sym, ap, ◌∙◌}
use mathlib.Core.Bool.{true, false, true≢false, false≢true}
use borrow.Author.Tests.{ltb-false}
use lib.Dec.{T}
use lib.IntN.{ℤ}
use lib.Ieee.{Float, nan, inf, fin, binary64, size, fits, to_bits, of_bits, lt, is_nan}
use lib.Ieee.Bits.{of_bits-to_bits}
use Rattle.hypotenuse.specs.Hypot.{count}
use Rattle.math.specs.Number.{abs}
use Rattle.ring_near.proofs.Leads.{count_level}

-- a double without a sign
pub record Unsigned (x : Float) : Type 0 where
  pub double : T (fits binary64 x)
  pub plain : abs x ≡ x
  pub number : is_nan x ≡ false

same_bits : (m : ℕ) (e : ℤ) (n : ℕ) (d : ℤ) → count m e ≡ count n d → to_bits binary64 (fin false m e) ≡ to_bits binary64 (fin false n d)
unfolding to_bits
same_bits m e n d h = ap (λ (x : ℕ). 0 + (size x - 53) * 2 ^ 52 + x / 2 ^ (size x - 53)) h

pub alike : (x y : Float) → Unsigned x → Unsigned y → lt x y ≡ false → lt y x ≡ false → x ≡ y
unfolding lt abs is_nan
alike nan y u v f g = absurd (true≢false u.number)
alike (inf s) nan u v f g = absurd (true≢false v.number)
alike (inf true) (inf t) u v f g = absurd (false≢true (let e = u.plain in cc))
alike (inf false) (inf true) u v f g = absurd (false≢true (let e = v.plain in cc))
alike (inf false) (inf false) u v f g = refl
alike (inf true) (fin t n d) u v f g = absurd (false≢true (let e = u.plain in cc))
alike (inf false) (fin t n d) u v f g = absurd (true≢false g)
alike (fin s m e) nan u v f g = absurd (true≢false v.number)
alike (fin s m e) (inf true) u v f g = absurd (false≢true (let e = v.plain in cc))
alike (fin s m e) (inf false) u v f g = absurd (true≢false f)
alike (fin true m e) (fin t n d) u v f g = absurd (false≢true (let e = u.plain in cc))
alike (fin false m e) (fin true n d) u v f g = absurd (false≢true (let e = v.plain in cc))
alike (fin false m e) (fin false n d) u v f g =
    sym (of_bits-to_bits binary64 (fin false m e) u.double)
    ∙ ap (of_bits binary64) (same_bits m e n d (count_level m e n d (le_antisymm (ltb-false _ _ g) (ltb-false _ _ f))))
    ∙ of_bits-to_bits binary64 (fin false n d) v.double
