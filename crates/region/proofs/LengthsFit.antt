-- What question 3 tells where it is answered with yes. Assumes nothing.
use Prim.Native.Nat.{ℕ, ◌*◌, ◌<◌}
use mathlib.Core.Bool.{true}
use mathlib.Core.Path.{◌≡◌}
use mathlib.Core.List.{List}
use mathlib.Mathlib.Data.Bool.Basic.{and_elim_left, and_elim_right}
use borrow.Author.Tests.{ltb-true, eqb-true}
use lib.Dec.{ltb, eqb}
use lib.ListN.{length}
use lib.Ieee.{Float}
use Rattle.region.specs.Checks.{total, lengths_fit}

module _ (lengths : List ℕ) (ps : List Float) (fit : lengths_fit lengths ps ≡ true) where
  pub some_ring : 0 < length lengths
  unfolding lengths_fit
  some_ring = ltb-true 0 (length lengths) (and_elim_left (ltb 0 (length lengths)) (eqb (2 * total lengths) (length ps)) fit)

  pub all_numbers : 2 * total lengths ≡ length ps
  unfolding lengths_fit
  all_numbers = eqb-true (2 * total lengths) (length ps) (and_elim_right (ltb 0 (length lengths)) (eqb (2 * total lengths) (length ps)) fit)
