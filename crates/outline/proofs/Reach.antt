-- The tests of single numbers: of the first that is not finite a walk is left, and one past the end is not in range. Assumes nothing.
use Prim.Native.Nat.{ℕ, ◌+◌, ◌*◌, ◌/◌, ◌<◌}
use native.Mathlib.Nat.{le_refl}
use native.Mathlib.Omega.{arith}
use mathlib.Core.Path.{◌≡◌, refl, sym, ◌∙◌}
use mathlib.Core.Bool.{Bool, true, false, ◌&&◌, and-false}
use mathlib.Core.List.{List}
use lib.ListN.{length, get_or}
use lib.Ieee.{Float, nan, lt, le, eq}
use Rattle.math.specs.Number.{abs, finite}
use Rattle.error.specs.declared.Refusal.TheVariants.{Granted, NotFinite}
use Rattle.error.specs.Refusals.{values, number, granted}
use Rattle.base.specs.Loop.{rounds}
use Rattle.base.proofs.Laws.{next_round, stays_to}
use Rattle.base.proofs.Lists.{past_end}
use Rattle.ring_check.specs.Checks.{max_coordinate}
use Rattle.outline.specs.Outlines.{finite_step, check_finite, in_range_step, in_range}

-- ---- the first number that is not finite

module _ (ps : List Float) (k : ℕ) (x : Float) (b : Bool) (e : x ≡ get_or ps k nan) (f : b ≡ finite x) (so_far : rounds (finite_step ps) k Granted ≡ Granted) where
  pub finite_goes_on : b ≡ true → rounds (finite_step ps) (k + 1) Granted ≡ Granted
  unfolding finite_step granted number values
  finite_goes_on t = next_round (finite_step ps) k Granted ∙ rw (so_far, ← e, ← f, t) refl

  pub not_finite : k < length ps → b ≡ false → NotFinite k ≡ check_finite ps
  unfolding check_finite finite_step granted number values
  not_finite l t =
      sym
      (stays_to (finite_step ps) Granted (NotFinite k) (k + 1) (length ps) (omega arith) (next_round (finite_step ps) k Granted ∙ rw (so_far, ← e, ← f, t) refl) (λ m. refl))

-- ---- a number in range

pub in_step : (ps : List Float) (k : ℕ) (s r : Bool) (x : Float) → x ≡ get_or ps k nan → r ≡ le (abs x) max_coordinate → (s && r) ≡ in_range_step ps k s
unfolding in_range_step
in_step ps k s r x e h = rw (h, e) refl

-- ---- numbers that are missing

pub short : (ps : List Float) (n : ℕ) → length ps / 2 < n → false ≡ in_range ps n
unfolding in_range in_range_step abs le lt eq
short ps n l =
    sym (stays_to (in_range_step ps) true false (length ps + 1) (2 * n) (omega arith) (next_round (in_range_step ps) (length ps) true ∙ rw
    (← past_end ps nan (length ps) (le_refl (length ps))) (and-false (rounds (in_range_step ps) (length ps) true))) (λ m. refl))
