-- The pair of two outlines, told or refused. Assumes nothing.
use mathlib.Core.Path.{◌≡◌, refl, sym, ap, ◌∙◌}
use mathlib.Core.Bool.{Bool, true, false}
use Rattle.error.specs.declared.Refusal.{Refusal}
use Rattle.error.specs.Refusals.{granted}
use Rattle.std.specs.Prelude.{Option}
use Rattle.ring_cross.specs.declared.EdgePair.{EdgePair}
use Rattle.outline_ask.specs.Queries.{unmet, met_by, paired}

module _ (r s : Refusal) (e : r ≡ s) where
  pub paired_yes : (x y : Option EdgePair) (b d : Bool) → x ≡ y → b ≡ d → granted r ≡ true → met_by x b ≡ paired s y d
  unfolding paired
  paired_yes x y b d q f h = let t : granted s ≡ true = sym (ap granted e) ∙ h in rw (t, q, f) refl

  pub paired_no : (y : Option EdgePair) (d : Bool) → granted r ≡ false → unmet r ≡ paired s y d
  unfolding paired
  paired_no y d h = let t : granted s ≡ false = sym (ap granted e) ∙ h in rw (t, e) refl
