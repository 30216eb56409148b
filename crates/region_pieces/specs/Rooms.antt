-- Whether there is a place for a whole piece of a region's inset: 17 for a second outer ring, 19 for a ninth hole. Assumes nothing.
use Rattle.std.specs.Prelude.{ℕ, Bool, cond, ltb, Float}
use Rattle.error.specs.declared.Refusal.{Refusal}
use Rattle.error.specs.declared.Refusal.TheVariants.{Granted, Splits, ManyPieces}

unfoldable pub place_refusal : Float → Bool → Bool → ℕ → Refusal
place_refusal d outer found held = cond outer (cond found (Splits d) Granted) (cond (ltb held 8) Granted (ManyPieces 9))
