-- Laws of the refusal's number. Assumes nothing.
use native.Mathlib.Omega.{arith}
use Rattle.std.proofs.lemmas.Grind.{common_steps}
use mathlib.Core.Path.{◌≡◌}
use mathlib.Core.Bool.{true}
use Rattle.error.specs.declared.Refusal.{Refusal}
use Rattle.error.specs.declared.Refusal.TheVariants.{Granted}
use Rattle.error.specs.Refusals.{values, number, granted}

-- only `Granted` has the number 0
pub granted_is : (r : Refusal) → granted r ≡ true → r ≡ Granted
unfolding granted number values
granted_is r h = grind (arith, common_steps)
