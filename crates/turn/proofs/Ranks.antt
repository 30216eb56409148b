-- The order of finite doubles is that of their places. Assumes nothing.
use mathlib.Core.Path.{◌≡◌, refl, sym, ◌∙◌}
use mathlib.Core.Bool.{Bool, true, false, cond}
use Prim.Native.Nat.{ℕ, ◌+◌, ◌-◌, ◌≤◌, ◌<◌}
use native.Mathlib.Omega.{arith}
use lib.Dec.{ltb}
use lib.Ieee.{below}
use borrow.Author.Tests.{ltb-true, ltb-false, lt-ltb, le-ltb}

ltb_is : (a b c d : ℕ) → (a < b → c < d) → (b ≤ a → d ≤ c) → ltb a b ≡ ltb c d
ltb_is a b c d f g = go (ltb a b) refl
  where
    go : (t : Bool) → ltb a b ≡ t → ltb a b ≡ ltb c d
    go true h = h ∙ sym (lt-ltb c d (f (ltb-true a b h)))
    go false h = h ∙ sym (le-ltb c d (g (ltb-false a b h)))

-- P and Q units with their signs, counted from O
pub below_place : (O : ℕ) (s t : Bool) (P Q : ℕ) → P ≤ O → Q ≤ O → below s P t Q ≡ ltb (cond s (O - P) (O + P)) (cond t (O - Q) (O + Q))
below_place O false false P Q a b = ltb_is P Q (O + P) (O + Q) (λ (h : P < Q). omega arith) (λ (h : Q ≤ P). omega arith)
below_place O false true P Q a b = sym (le-ltb (O + P) (O - Q) (omega arith))
below_place O true false P Q a b = ltb_is 0 (P + Q) (O - P) (O + Q) (λ (h : 0 < P + Q). omega arith) (λ (h : P + Q ≤ 0). omega arith)
below_place O true true P Q a b = ltb_is Q P (O - P) (O - Q) (λ (h : Q < P). omega arith) (λ (h : P ≤ Q). omega arith)
