-- A value of two parts, each known by an equation. Assumes nothing.
use mathlib.Core.Path.{◌≡◌, refl, ◌∙◌}

pub of_two : {A B C : Type 0} (f : A → B → C) {r : C} {a b : A} {s t : B} → r ≡ f a s → a ≡ b → s ≡ t → r ≡ f b t
of_two f e p q = e ∙ rw (p, q) refl
