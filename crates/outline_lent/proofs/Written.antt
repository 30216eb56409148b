-- What a write of n vertices leaves of lent output, and that a granted one has room. Assumes nothing.
use Prim.Native.Nat.{ℕ, suc, ◌+◌, ◌*◌, ◌≤◌, ◌<◌}
use mathlib.Core.Path.{◌≡◌, refl, ◌∙◌}
use mathlib.Core.Bool.{Bool, true, false≢true}
use mathlib.Core.List.{List}
use native.Mathlib.Omega.{arith}
use borrow.Author.Tests.{leb-true}
use lib.Dec.{leb}
use lib.ListN.{get_or, length, length-set}
use lib.Seq.{get_or-set_same, get_or-set_other}
use lib.Ieee.{Float, nan}
use Rattle.error.specs.declared.Refusal.{Refusal}
use Rattle.error.specs.Refusals.{number, values, granted}
use Rattle.base.proofs.Laws.{rounds_keep}
use Rattle.base.proofs.Choices.{by_cases, by_test}
use Rattle.base.proofs.Choices.{both}
use Rattle.outline.specs.Outlines.{ask}
use Rattle.outline_lent.specs.Writes.{write_step, write_ring, write_refusal}

-- ---- n vertices of ps from number `base` on

module _ (ps : List Float) (n base : ℕ) (out : List Float) where
  pub record Writing (k : ℕ) (s : List Float) : Type 0 where
    pub size : length s ≡ length out
    pub new : (i : ℕ) → i < k → base + k ≤ length out → get_or s (base + i) nan ≡ get_or ps i nan
    pub below : (i : ℕ) → i < base → get_or s i nan ≡ get_or out i nan
    pub above : (i : ℕ) → base + k ≤ i → get_or s i nan ≡ get_or out i nan

  step_writing : (k : ℕ) (s : List Float) → Writing k s → Writing (suc k) (write_step ps base k s)
  unfolding write_step
  step_writing k s h = record {
    size = length-set s (base + k) (get_or ps k nan) ∙ h.size;
    new = λ i l z. by_cases i k
        (λ e. rw e (get_or-set_same s (base + k) (get_or ps k nan) nan (omega (arith, h.size))))
        (λ e. get_or-set_other s (base + k) (base + i) (get_or ps k nan) nan (λ q. e (omega arith)) ∙ h.new i (omega arith) (omega arith));
    below = λ i l. get_or-set_other s (base + k) i (get_or ps k nan) nan (λ q. omega arith) ∙ h.below i l;
    above = λ i l. get_or-set_other s (base + k) i (get_or ps k nan) nan (λ q. omega arith) ∙ h.above i (omega arith);
  }

  pub ring_writing : Writing (2 * n) (write_ring ps n base out)
  unfolding write_ring
  ring_writing =
      rounds_keep (write_step ps base) Writing out (record { size = refl; new = λ i l z. absurd (omega arith); below = λ i l. refl; above = λ i l. refl }) step_writing (2 * n)

-- ---- 20

pub record Fits (needed : ℕ) (out : List Float) (u : Refusal) : Type 0 where
  pub fits : granted u ≡ true → needed ≤ length out

pub refusal_fits : (needed : ℕ) (out : List Float) → Fits needed out (write_refusal needed out)
unfolding write_refusal granted number values
refusal_fits needed out =
    by_test (Fits needed out) (leb needed (length out)) (λ h. record { fits = λ q. leb-true needed (length out) h }) (λ h. record { fits = λ q. absurd (false≢true q) })

-- what is asked before 20 makes no difference to that
pub ask_fits : (needed : ℕ) (out : List Float) (b : Bool) (u : Refusal) → Fits needed out u → Fits needed out (ask b u)
unfolding ask granted number values
ask_fits needed out b u h = both (Fits needed out) b h (record { fits = λ q. absurd (false≢true q) })
