-- The walk to the end of a field, by place. Assumes nothing.
use Prim.Native.Nat.{ℕ, ◌+◌, ◌-◌, ◌≤◌, ◌<◌}
use native.Mathlib.Nat.{le_antisymm, sub_self}
use native.Mathlib.Omega.{arith}
use Rattle.std.proofs.Common.{max}
use mathlib.Core.Bool.{Bool, true, false, cond}
use mathlib.Core.Path.{◌≡◌, sym, ap, ◌∙◌}
use mathlib.Core.List.{List}
use lib.Dec.{eqb}
use lib.ListN.{get_or, length}
use borrow.Author.Tests.{eq-eqb, ne_eqb}
use Rattle.base.specs.Loop.{rounds}
use Rattle.base.proofs.Laws.{no_round, next_round, stays_to}
use Rattle.format.specs.Fields.{comma, end_step, part_end, field_end}

-- the walk from `start` has come to `at`, and passed no comma
abbrev pub EndTo : List ℕ → ℕ → ℕ → Type 0
EndTo line start at = (start ≤ at) × (at - start ≤ length line - start) × (at ≡ rounds (end_step comma line) (at - start) start)

module _ (line : List ℕ) (start : ℕ) where
  pub begin : EndTo line start start
  begin = (omega arith, omega arith, sym (ap (λ (n : ℕ). rounds (end_step comma line) n start) (sub_self start) ∙ no_round (end_step comma line) start))

  step : (at : ℕ) (t : Bool) → eqb (get_or line at 0) comma ≡ t → (k : ℕ) → end_step comma line k at ≡ cond t at (at + 1)
  unfolding end_step
  step at t e k = ap (λ (b : Bool). cond b at (at + 1)) e

  pub further : (at : ℕ) → at < length line → (get_or line at 0 ≡ comma → ⊥) → EndTo line start at → EndTo line start (at + 1)
  further at l n (s, h, e) = (
    omega arith,
    omega arith,
    sym (ap (λ (k : ℕ). rounds (end_step comma line) k start) (one_more at s)
        ∙ next_round (end_step comma line) (at - start) start
        ∙ ap (λ (a : ℕ). end_step comma line (at - start) a) (sym e)
        ∙ step at false (ne_eqb (get_or line at 0) comma n) (at - start)),
  )
    where
      one_more : (a : ℕ) → start ≤ a → a + 1 - start ≡ a - start + 1
      one_more a h = omega arith

  pub found : (at : ℕ) → get_or line at 0 ≡ comma → EndTo line start at → at ≡ field_end line start
  unfolding field_end part_end
  found at c (s, h, e) =
      sym (stays_to (end_step comma line) start at (at - start) (length line - start) h (sym e) (step at true (eq-eqb (get_or line at 0) comma c)))

  pub gone : (at end : ℕ) → length line ≤ at → end ≡ max (length line) start → EndTo line start at → end ≡ field_end line start
  unfolding field_end part_end
  gone at end l c (s, h, e) =
      last (length line) at end l s h c ∙ e ∙ ap (λ (k : ℕ). rounds (end_step comma line) k start) (le_antisymm h (less (length line) at l))
    where
      less : (n a : ℕ) → n ≤ a → n - start ≤ a - start
      less n a h = omega arith

      last : (n a e : ℕ) → n ≤ a → start ≤ a → a - start ≤ n - start → e ≡ max n start → e ≡ a
      last n a e p q r m = omega arith
