-- A point in answer: where it is granted, and where it is refused. Assumes nothing.
use mathlib.Core.Path.{◌≡◌, refl, sym, ap, ◌∙◌}
use mathlib.Core.Bool.{true, false}
use Rattle.plane.specs.declared.PlanarPoint.{PlanarPoint}
use Rattle.error.specs.declared.Refusal.{Refusal}
use Rattle.error.specs.declared.Refusal.TheVariants.{Granted}
use Rattle.error.specs.Refusals.{granted}
use Rattle.plane.specs.Points.{origin}
use Rattle.outline_ask.specs.Queries.{footed}

module _ (r s : Refusal) (e : r ≡ s) where
  pub footed_yes : (x p : PlanarPoint) → x ≡ p → granted r ≡ true → record { refusal = Granted; point = x } ≡ footed s p
  unfolding footed
  footed_yes x p q h = let t : granted s ≡ true = sym (ap granted e) ∙ h in rw (t, q) refl

  pub footed_no : (p : PlanarPoint) → granted r ≡ false → record { refusal = r; point = origin } ≡ footed s p
  unfolding footed
  footed_no p h = let t : granted s ≡ false = sym (ap granted e) ∙ h in rw (t, e) refl
