-- Which vertex of the given ring a stored one is, where the ring is reversed or not. Assumes nothing.
use Prim.Native.Nat.{ℕ, ◌-◌, ◌<◌}
use mathlib.Core.Path.{◌≡◌, refl, sym, ap, ◌∙◌, subst}
use mathlib.Core.Bool.{Bool, true, false}
use native.Mathlib.Omega.{arith}
use borrow.Author.Tests.{lt-ltb}
use Rattle.base.proofs.Choices.{by_cases}
use Rattle.ring.specs.Ring.{source}

pub source_on : (m k : ℕ) → source m false k ≡ k
unfolding source
source_on m k = refl

pub source_first : (m : ℕ) → source m true 0 ≡ 0
unfolding source
source_first m = refl

pub source_later : (m k : ℕ) → 0 < k → source m true k ≡ m - k
unfolding source
source_later m k l = rw (lt-ltb 0 k l) refl

pub source_lt : (m : ℕ) (back : Bool) (k : ℕ) → k < m → source m back k < m
source_lt m false k l = subst (λ (i : ℕ). i < m) (sym (source_on m k)) l
source_lt m true k l = by_cases k 0
    (λ e. subst (λ (i : ℕ). source m true i < m) (sym e) (subst (λ (i : ℕ). i < m) (sym (source_first m)) (omega arith)))
    (λ e. subst (λ (i : ℕ). i < m) (sym (source_later m k (omega arith))) (omega arith))

-- twice is not at all
pub source_twice : (m : ℕ) (back : Bool) (k : ℕ) → k < m → source m back (source m back k) ≡ k
source_twice m false k l = source_on m (source m false k) ∙ source_on m k
source_twice m true k l = by_cases k 0
    (λ e. rw e (ap (source m true) (source_first m) ∙ source_first m))
    (λ e. ap (source m true) (source_later m k (omega arith)) ∙ source_later m (m - k) (omega arith) ∙ omega arith)
