-- How often a number stands in a list: "no number twice", "in no other list" and every rotation or regrouping of lists is then linear arithmetic.
-- Assumes nothing.
use mathlib.Core.Path.{◌≡◌, refl, sym, ap}
use mathlib.Core.Logic.{◌≢◌}
use mathlib.Core.List.{List, [], ◌∷◌, ◌++◌}
use Prim.Native.Nat.{ℕ, suc, ◌+◌, ◌≤◌, ◌<◌}
use native.Mathlib.Omega.{arith}
use native.Mathlib.Decide.{ℕ_discrete}
use Rattle.base.proofs.Choices.{by_cases}

-- 1 if the two are one number, 0 if not
same_of : {a b : ℕ} → Dec (a ≡ b) → ℕ
same_of (yes e) = 1
same_of (no h) = 0

pub same : ℕ → ℕ → ℕ
same a b = same_of (ℕ_discrete a b)

same_of_eq : {a b : ℕ} (d : Dec (a ≡ b)) → a ≡ b → same_of d ≡ 1
unfolding same_of
same_of_eq (yes e) p = refl
same_of_eq (no h) p = absurd (h p)

same_of_ne : {a b : ℕ} (d : Dec (a ≡ b)) → a ≢ b → same_of d ≡ 0
unfolding same_of
same_of_ne (yes e) h = absurd (h e)
same_of_ne (no g) h = refl

pub same_eq : (a b : ℕ) → a ≡ b → same a b ≡ 1
unfolding same
same_eq a b p = same_of_eq (ℕ_discrete a b) p

pub same_ne : (a b : ℕ) → a ≢ b → same a b ≡ 0
unfolding same
same_ne a b h = same_of_ne (ℕ_discrete a b) h

pub same_self : (a : ℕ) → same a a ≡ 1
same_self a = same_eq a a refl

same_of_pos : {a b : ℕ} (d : Dec (a ≡ b)) → 0 < same_of d → a ≡ b
unfolding same_of
same_of_pos (yes e) h = e
same_of_pos (no g) h = absurd (omega arith)

-- counted as the same, they are
pub same_pos : (a b : ℕ) → 0 < same a b → a ≡ b
unfolding same
same_pos a b h = same_of_pos (ℕ_discrete a b) h

-- how often s stands in the list
pub occ : ℕ → List ℕ → ℕ
occ s [] = 0
occ s (x ∷ xs) = same s x + occ s xs

pub occ_nil : (s : ℕ) → occ s [] ≡ 0
unfolding occ
occ_nil s = refl

pub occ_cons : (s x : ℕ) (xs : List ℕ) → occ s (x ∷ xs) ≡ same s x + occ s xs
unfolding occ
occ_cons s x xs = refl

pub occ_append : (s : ℕ) (xs ys : List ℕ) → occ s (xs ++ ys) ≡ occ s xs + occ s ys
unfolding occ
occ_append s [] ys = omega arith
occ_append s (x ∷ xs) ys = omega (arith, occ_append s xs ys)

pub occ_self : (x : ℕ) (xs : List ℕ) → occ x (x ∷ xs) ≡ suc (occ x xs)
occ_self x xs = omega (arith, occ_cons x x xs, same_self x)

pub occ_later : (s x : ℕ) (xs : List ℕ) → occ s xs ≤ occ s (x ∷ xs)
occ_later s x xs = omega (arith, occ_cons s x xs)

-- an element cuts its list in two
pub record Cut (x : ℕ) (l : List ℕ) : Type 0 where
  pub before : List ℕ
  pub after : List ℕ
  pub is : l ≡ before ++ x ∷ after

pub cut : (x : ℕ) (l : List ℕ) → 0 < occ x l → Cut x l
unfolding occ
cut x [] h = absurd (omega arith)
cut x (y ∷ ys) h = by_cases x y
    (λ e. record { before = []; after = ys; is = ap (λ (k : ℕ). k ∷ ys) (sym e) })
    (λ d. let c : Cut x ys = cut x ys (omega (arith, same_ne x y d)) in
    record { before = y ∷ c.before; after = c.after; is = ap (λ (r : List ℕ). y ∷ r) c.is })
