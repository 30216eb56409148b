-- One step of tidying, and the steps one after the other. Assumes nothing.
use Prim.Native.Nat.{ℕ, ◌+◌, ◌<◌}
use native.Mathlib.Omega.{arith}
use mathlib.Core.Bool.{Bool, true, false, cond, not, ◌&&◌, true≢false}
use mathlib.Core.List.{List}
use mathlib.Core.Path.{◌≡◌, refl, sym, ap, ◌∙◌}
use lib.Ieee.{Float}
use Rattle.base.specs.Loop.{rounds}
use Rattle.base.proofs.Laws.{next_round, stays_to}
use Rattle.front.specs.declared.Edge.{Edge}
use Rattle.front.specs.declared.Front.{Front}
use Rattle.front.specs.declared.Tidy.{Tidy}
use Rattle.front.specs.declared.Tidy.TheVariants.{Settled}
use Rattle.front.specs.Edges.{altered}
use Rattle.front.specs.Tidying.{find_tidy, tidy_by, tidy_once, tidy_step, tidy}

-- ---- a step that finds nothing

abbrev pub unchanged : List Edge → Front
unchanged f = record { edges = f; stalled = false; changed = false }

pub by_none : (f : List Edge) (t : Float) (found : Tidy) → found ≡ Settled → unchanged f ≡ tidy_by f t found
unfolding tidy_by
by_none f t found h = rw h refl

-- ---- the steps

abbrev front : List Edge → Bool → Bool → Front
front f a b = record { edges = f; stalled = a; changed = b }

-- a front that goes on is altered and not stalled
goes_altered : (s : Front) → (s.changed && not s.stalled) ≡ true → s ≡ altered s.edges
unfolding altered
goes_altered s = go s.stalled s.changed
  where
    go : (a b : Bool) → (b && not a) ≡ true → front s.edges a b ≡ front s.edges false true
    go false true h = refl
    go true true h = absurd (true≢false (sym h))
    go a false h = absurd (true≢false (sym h))

module _ (start f : List Edge) (t : Float) (k : ℕ) (found : Tidy) (so_far : rounds (tidy_step t) k (altered start) ≡ altered f) (found_is : found ≡ find_tidy f t) where
  one_more : rounds (tidy_step t) (k + 1) (altered start) ≡ tidy_by f t found
  unfolding tidy_step tidy_once altered
  one_more = next_round (tidy_step t) k (altered start) ∙ ap (tidy_step t k) so_far ∙ ap (tidy_by f t) (sym found_is)

  stops : (s : Front) → k < 129 → rounds (tidy_step t) (k + 1) (altered start) ≡ s → (s.changed && not s.stalled) ≡ false → s ≡ tidy start t
  unfolding tidy tidy_step
  stops s l e h =
      sym (stays_to (tidy_step t) (altered start) s (k + 1) 129 (omega arith) e (λ m. ap (λ (b : Bool). cond b (tidy_once s.edges t) s) h))

  pub tidy_none : k < 129 → found ≡ Settled → unchanged f ≡ tidy start t
  tidy_none l h = stops (unchanged f) l (one_more ∙ sym (by_none f t found h)) refl

  module _ (s : Front) (s_is : s ≡ tidy_by f t found) where
    pub tidy_ends : k < 129 → (s.changed && not s.stalled) ≡ false → s ≡ tidy start t
    tidy_ends l h = stops s l (one_more ∙ sym s_is) h

    pub tidy_goes : (s.changed && not s.stalled) ≡ true → rounds (tidy_step t) (k + 1) (altered start) ≡ altered s.edges
    tidy_goes h = one_more ∙ sym s_is ∙ goes_altered s h

pub tidy_all : (start f : List Edge) (t : Float) (k : ℕ) → rounds (tidy_step t) k (altered start) ≡ altered f → k ≡ 129 → altered f ≡ tidy start t
unfolding tidy
tidy_all start f t k so_far e = sym so_far ∙ ap (λ (m : ℕ). rounds (tidy_step t) m (altered start)) e
