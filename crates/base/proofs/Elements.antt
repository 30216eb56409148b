-- Round k works on element k: a walk over a list, a test of every number below n, a list made element by element. Assumes nothing.
use Prim.Native.Nat.{ℕ, zero, suc, ◌<◌}
use native.Mathlib.Nat.{le_of_suc-le-suc, not-suc-le-zero, eq-or-lt_of_le}
use native.Mathlib.Numerals.{add-one}
use mathlib.Core.Bool.{Bool, true, ◌&&◌}
use mathlib.Core.Logic.{inl, inr}
use mathlib.Core.Path.{◌≡◌, refl, sym, ap, ◌∙◌, subst}
use mathlib.Core.List.{List, [], ◌∷◌, ◌++◌}
use lib.ListN.{get_or, length, length-append, get_or-append}
use lib.Seq.{get_or_at}
use Rattle.base.specs.Loop.{rounds}
use Rattle.base.proofs.Tests.{all_pass, pass_all}

abbrev pub walk : {A S : Type 0} → (S → A → S) → A → List A → S → S
walk f d xs s = rounds (λ k t. f t (get_or xs k d)) (length xs) s

shift : {A S : Type 0} (f : S → A → S) (d x : A) (xs : List A) (s : S) (n : ℕ)
    → rounds (λ k t. f t (get_or (x ∷ xs) k d)) (suc n) s ≡ rounds (λ k t. f t (get_or xs k d)) n (f s x)
unfolding rounds
shift f d x xs s zero = refl
shift f d x xs s (suc n) = ap (λ t. f t (get_or xs n d)) (shift f d x xs s n)

pub walk_nil : {A S : Type 0} (f : S → A → S) (d : A) (s : S) → walk f d [] s ≡ s
unfolding rounds
walk_nil f d s = refl

-- the first element is worked on first
pub walk_cons : {A S : Type 0} (f : S → A → S) (d x : A) (xs : List A) (s : S) → walk f d (x ∷ xs) s ≡ walk f d xs (f s x)
walk_cons f d x xs s = shift f d x xs s (length xs)

-- a walk over two lists is one after the other
pub walk_append : {A S : Type 0} (f : S → A → S) (d : A) (xs ys : List A) (s : S) → walk f d (xs ++ ys) s ≡ walk f d ys (walk f d xs s)
unfolding rounds
walk_append f d [] ys s = refl
walk_append f d (x ∷ xs) ys s =
    walk_cons f d x (xs ++ ys) s ∙ walk_append f d xs ys (f s x) ∙ ap (λ t. walk f d ys t) (sym (walk_cons f d x xs s))

-- ---- a test of every number below n

pub tested : (n : ℕ) (test : ℕ → Bool) → ((k : ℕ) → k < n → test k ≡ true) → rounds (λ k t. t && test k) n true ≡ true
tested n test = pass_all (λ (k : ℕ) (t : Bool). t && test k) test (λ k t. refl) n

pub tested_at : (n : ℕ) (test : ℕ → Bool) → rounds (λ k t. t && test k) n true ≡ true → (k : ℕ) → k < n → test k ≡ true
tested_at n test = all_pass (λ (k : ℕ) (t : Bool). t && test k) test (λ k t. refl) n

-- ---- a list made element by element

abbrev pub made : {A : Type 0} → (ℕ → A) → ℕ → List A
made g n = rounds (λ k xs. xs ++ g k ∷ []) n []

pub made_length : {A : Type 0} (g : ℕ → A) (n : ℕ) → length (made g n) ≡ n
unfolding rounds
made_length g zero = refl
made_length g (suc n) = length-append (made g n) (g n ∷ []) ∙ add-one (length (made g n)) ∙ ap suc (made_length g n)

pub made_at : {A : Type 0} (g : ℕ → A) (n k : ℕ) (d : A) → k < n → get_or (made g n) k d ≡ g k
unfolding rounds
made_at g zero k d l = absurd (not-suc-le-zero l)
made_at g (suc n) k d l =
    elim (eq-or-lt_of_le (le_of_suc-le-suc l)) [
      | inl h ↦ get_or_at (made g n) (g n) [] d k (made_length g n ∙ sym h) ∙ ap g (sym h)
      | inr h ↦ get_or-append (made g n) (g n ∷ []) d k (subst (λ (m : ℕ). k < m) (sym (made_length g n)) h) ∙ made_at g n k d h
    ]
