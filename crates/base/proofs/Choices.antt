-- A choice by a test: what holds of the side that is taken holds of the choice, and the code's branch is the definition's `cond`. Assumes nothing.
use mathlib.Core.Path.{◌≡◌, refl}
use mathlib.Core.Logic.{◌≢◌}
use mathlib.Core.Bool.{Bool, true, false, cond}
use Prim.Native.Nat.{ℕ}
use borrow.Author.Tests.{eqb-true, eqb-false}
use lib.Dec.{eqb}

-- what holds of the one side where the test holds, and of the other where it does not
pub by_test : {A : Type 0} (P : A → Type 0) (b : Bool) {x y : A} → (b ≡ true → P x) → (b ≡ false → P y) → P (cond b x y)
by_test P true h k = h refl
by_test P false h k = k refl

-- what holds of both sides
pub both : {A : Type 0} (P : A → Type 0) (b : Bool) {x y : A} → P x → P y → P (cond b x y)
both P b p q = by_test P b (λ h. p) (λ h. q)

-- a branch of the code, and the test that it was taken by
pub yes : {A : Type 0} (b : Bool) (r x y : A) → r ≡ x → b ≡ true → r ≡ cond b x y
yes b r x y e h = rw h e

pub no : {A : Type 0} (b : Bool) (r x y : A) → r ≡ y → b ≡ false → r ≡ cond b x y
no b r x y e h = rw h e

-- two numbers are one, or not
pub by_cases : {P : Type 0} (a b : ℕ) → (a ≡ b → P) → (a ≢ b → P) → P
by_cases {P} a b f g = go (eqb a b) refl
  where
    go : (t : Bool) → eqb a b ≡ t → P
    go true e = f (eqb-true a b e)
    go false e = g (eqb-false a b e)
