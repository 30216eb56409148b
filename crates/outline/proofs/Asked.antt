-- What is granted after 21 passed 21. Assumes nothing.
use mathlib.Core.Path.{◌≡◌, refl}
use mathlib.Core.Bool.{Bool, true, false, false≢true}
use Rattle.error.specs.declared.Refusal.{Refusal}
use Rattle.error.specs.Refusals.{values, number, granted}
use Rattle.outline.specs.Outlines.{ask}

pub asked_yes : (b : Bool) (c : Refusal) → granted (ask b c) ≡ true → (b ≡ true) × (granted c ≡ true)
unfolding ask granted number values
asked_yes true c h = (refl, h)
asked_yes false c h = absurd (false≢true h)
