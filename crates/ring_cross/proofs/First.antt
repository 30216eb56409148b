-- A walk that keeps the first thing that one of its rounds finds: what it gives where nothing is found so far, where something is, and what
-- its end tells. Assumes nothing.
use Prim.Native.Nat.{ℕ, suc, ◌+◌, ◌≤◌, ◌<◌}
use mathlib.Core.Path.{◌≡◌, refl, sym, ap, ◌∙◌, subst}
use mathlib.Core.Bool.{true, false, true≢false}
use native.Mathlib.Omega.{arith}
use Rattle.std.specs.Prelude.{Option, None, Some}
use Rattle.std.specs.Option.{is_some, option_or}
use Rattle.base.specs.Loop.{rounds}
use Rattle.base.proofs.Laws.{next_round, stays_to, idle, rounds_keep}
use Rattle.base.proofs.Choices.{by_cases}
use Rattle.ring_cross.specs.declared.EdgePair.{EdgePair}
use Rattle.ring_cross.specs.EdgePairs.{edges}

module _ {A : Type 0} where
  pub only_none : (s : Option A) → is_some s ≡ false → s ≡ None
  only_none None e = refl
  only_none (Some a) e = absurd (true≢false e)

  stays : (s x : Option A) → is_some s ≡ true → option_or s x ≡ s
  stays None x e = absurd (true≢false (sym e))
  stays (Some a) x e = refl

  or_none : (s : Option A) → option_or s None ≡ s
  or_none None = refl
  or_none (Some a) = refl

module _ {A : Type 0} (c : ℕ → Option A) (f : ℕ → Option A → Option A) (step : (k : ℕ) (s : Option A) → f k s ≡ option_or s (c k)) where
  module _ (k : ℕ) (so_far : rounds f k None ≡ None) where
    pub next : rounds f (k + 1) None ≡ c k
    next = next_round f k None ∙ step k (rounds f k None) ∙ ap (λ (s : Option A). option_or s (c k)) so_far

    pub none_yet : c k ≡ None → rounds f (k + 1) None ≡ None
    none_yet e = next ∙ e

    pub found : (n : ℕ) → k < n → is_some (c k) ≡ true → rounds f n None ≡ c k
    found n l h = stays_to f None (c k) (k + 1) n (omega arith) next (λ (j : ℕ). step j (c k) ∙ stays (c k) (c j) h)

  -- rounds that find nothing
  pub skipped : (a b : ℕ) → a ≤ b → ((k : ℕ) → a ≤ k → k < b → c k ≡ None) → rounds f b None ≡ rounds f a None
  skipped a b l h = idle f None a b l (λ k i j s. step k s ∙ ap (option_or s) (h k i j) ∙ or_none s)

  -- what is found first stays
  pub kept : (k n : ℕ) (r : Option A) → k ≤ n → r ≡ rounds f k None → is_some r ≡ true → r ≡ rounds f n None
  kept k n r l e h = sym (stays_to f None r k n l (sym e) (λ (j : ℕ). step j r ∙ stays r (c j) h))

  -- the first round that found it
  pub record Round (n : ℕ) (s : Option A) : Type 0 where
    pub at : ℕ
    pub under : at < n
    pub gives : c at ≡ s
    pub before : (k : ℕ) → k < at → c k ≡ None

  record Told (n : ℕ) (s : Option A) : Type 0 where
    nothing : s ≡ None → (k : ℕ) → k < n → c k ≡ None
    something : is_some s ≡ true → Round n s

  told : (n : ℕ) → Told n (rounds f n None)
  told =
      rounds_keep f Told None
      (record { nothing = λ e k l. absurd (omega arith); something = λ e. absurd (true≢false (sym e)) })
      (λ n s h. subst (Told (suc n)) (sym (step n s)) (go n s h))
    where
      go : (n : ℕ) (s : Option A) → Told n s → Told (suc n) (option_or s (c n))
      go n (Some a) h = record {
        nothing = λ z. absurd (true≢false (ap is_some z));
        something = λ z. let r = h.something z in record { at = r.at; under = omega (arith, r.under); gives = r.gives; before = r.before };
      }
      go n None h =
          let earlier = h.nothing refl in
          record {
            nothing = λ x k l. by_cases k n (λ q. subst (λ (j : ℕ). c j ≡ None) (sym q) x) (λ q. earlier k (omega arith));
            something = λ x. record { at = n; under = omega arith; gives = refl; before = earlier };
          }

  pub all_none : (n : ℕ) → rounds f n None ≡ None → (k : ℕ) → k < n → c k ≡ None
  all_none n = (told n).nothing

  pub found_in : (n : ℕ) → is_some (rounds f n None) ≡ true → Round n (rounds f n None)
  found_in n = (told n).something

-- ---- two edges, or none
pub no_edges : (i j : ℕ) → None ≡ edges i j → ⊥
no_edges i j e = cc

pub same_edges : (a b i j : ℕ) → edges a b ≡ edges i j → (a ≡ i) × (b ≡ j)
same_edges a b i j e = (ap first e, ap second e)
  where
    first : Option EdgePair → ℕ
    first None = a
    first (Some p) = p.first

    second : Option EdgePair → ℕ
    second None = b
    second (Some p) = p.second
