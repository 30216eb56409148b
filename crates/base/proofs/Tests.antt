-- What a walk that asks one test more each round tells: `s || test k` is true exactly where one of its tests holds, `s && test k` where all do.
-- Assumes nothing.
use Prim.Native.Nat.{ℕ, zero, suc, ◌+◌, ◌≤◌, ◌<◌}
use native.Mathlib.Nat.{le_antisymm}
use native.Mathlib.Omega.{arith}
use mathlib.Core.Path.{◌≡◌, refl, sym, ap, subst, ◌∙◌}
use mathlib.Core.Bool.{Bool, true, false, ◌&&◌, ◌||◌, true≢false}
use mathlib.Mathlib.Data.Bool.Basic.{and_elim_left, and_elim_right, or_inl, or_inr}
use borrow.Author.Tests.{eqb-true, eqb-false}
use lib.Dec.{eqb}
use Rattle.base.specs.Loop.{rounds}
use Rattle.base.proofs.Laws.{rounds_keep, next_round, stays_to}
use Rattle.base.proofs.Choices.{by_cases}

-- the round, of n, whose test holds
pub record Passed (test : ℕ → Bool) (n : ℕ) : Type 0 where
  pub at : ℕ
  pub under : at < n
  pub is : test at ≡ true

module _ (f : ℕ → Bool → Bool) (test : ℕ → Bool) (body : (k : ℕ) (s : Bool) → f k s ≡ (s || test k)) where
  pub one_passed : (n : ℕ) → rounds f n false ≡ true → Passed test n
  one_passed =
      rounds_keep f (λ (n : ℕ) (s : Bool). s ≡ true → Passed test n) false (λ e. absurd (true≢false (sym e)))
      (λ n s h e. go n s h (sym (body n s) ∙ e))
    where
      go : (n : ℕ) (s : Bool) → (s ≡ true → Passed test n) → (s || test n) ≡ true → Passed test (suc n)
      go n false h e = record { at = n; under = omega arith; is = e }
      go n true h e = let r = h refl in record { at = r.at; under = omega (arith, r.under); is = r.is }

  pub passed_one : (n : ℕ) → Passed test n → rounds f n false ≡ true
  passed_one n w = held n w.at w.under w.is
    where
      held : (n k : ℕ) → k < n → test k ≡ true → rounds f n false ≡ true
      held n k l h = rounds_keep f (λ (n : ℕ) (s : Bool). k < n → s ≡ true) false (λ l. absurd (omega arith)) (λ n s g l. step n s g l (eqb k n) refl) n l
        where
          step : (n : ℕ) (s : Bool) → (k < n → s ≡ true) → k < suc n → (b : Bool) → eqb k n ≡ b → f n s ≡ true
          step n s g l true t = body n s ∙ or_inr s (test n) (subst (λ (m : ℕ). test m ≡ true) (eqb-true k n t) h)
          step n s g l false t = body n s ∙ or_inl s (test n) (g (omega (arith, eqb-false k n t)))

  pub found_at : (n k : ℕ) → k < n → test k ≡ true → rounds f n false ≡ true
  found_at n k l h = passed_one n (record { at = k; under = l; is = h })

  -- none of the tests so far holds, nor does the next
  pub none_yet : (k : ℕ) → rounds f k false ≡ false → test k ≡ false → rounds f (k + 1) false ≡ false
  none_yet k none h = next_round f k false ∙ body k (rounds f k false) ∙ ap (λ (s : Bool). s || test k) none ∙ h

  pub none_pass : (n : ℕ) → rounds f n false ≡ false → (k : ℕ) → k < n → test k ≡ false
  none_pass n q k l = go (test k) refl
    where
      go : (b : Bool) → test k ≡ b → test k ≡ false
      go true e = absurd (true≢false (sym (passed_one n (record { at = k; under = l; is = e })) ∙ q))
      go false e = e

  pub none_all : (n : ℕ) → ((k : ℕ) → k < n → test k ≡ false) → rounds f n false ≡ false
  none_all n h = go (rounds f n false) refl
    where
      go : (b : Bool) → rounds f n false ≡ b → rounds f n false ≡ false
      go true e = let w = one_passed n e in absurd (true≢false (sym w.is ∙ h w.at w.under))
      go false e = e

-- a walk that asks whether every round's test is passed
module _ (f : ℕ → Bool → Bool) (test : ℕ → Bool) (body : (k : ℕ) (s : Bool) → f k s ≡ (s && test k)) where
  pub all_pass : (n : ℕ) → rounds f n true ≡ true → (k : ℕ) → k < n → test k ≡ true
  all_pass =
      rounds_keep f (λ n s. s ≡ true → (k : ℕ) → k < n → test k ≡ true) true (λ q k l. absurd (omega arith))
      (λ i s h q k l.
      let z : (s && test i) ≡ true = sym (body i s) ∙ q in
      by_cases k i (λ e. rw e (and_elim_right s (test i) z)) (λ e. h (and_elim_left s (test i) z) k (omega arith)))

  pub pass_all : (n : ℕ) → ((k : ℕ) → k < n → test k ≡ true) → rounds f n true ≡ true
  unfolding rounds
  pass_all zero h = refl
  pass_all (suc n) h = body n (rounds f n true) ∙ rw (pass_all n (λ k l. h k (omega arith)), h n (omega arith)) refl

  -- the walk as the code takes it, which ends at the first test that fails
  module _ (n k : ℕ) (all : rounds f k true ≡ true) where
    told : rounds f (k + 1) true ≡ test k
    told = next_round f k true ∙ body k (rounds f k true) ∙ ap (λ (s : Bool). s && test k) all

    pub tests_on : test k ≡ true → rounds f (k + 1) true ≡ true
    tests_on h = told ∙ h

    pub test_fails : k < n → test k ≡ false → rounds f n true ≡ false
    test_fails l h = stays_to f true false (k + 1) n (omega arith) (told ∙ h) (λ (j : ℕ). body j false)

    pub tests_end : k ≤ n → n ≤ k → rounds f n true ≡ true
    tests_end l h = ap (λ (m : ℕ). rounds f m true) (le_antisymm h l) ∙ all
