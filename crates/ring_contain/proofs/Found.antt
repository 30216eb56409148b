-- A point is told to be on the boundary exactly where it touches one of the edges. Assumes nothing.
use Prim.Native.Nat.{ℕ, suc, ◌<◌}
use native.Mathlib.Omega.{arith}
use mathlib.Core.Path.{◌≡◌, refl, sym, ap, ◌∙◌, subst}
use mathlib.Core.Bool.{Bool, true, false, cond, true≢false}
use mathlib.Core.List.{List}
use borrow.Author.Tests.{eqb-true, eqb-false}
use lib.Dec.{eqb}
use lib.Ieee.{Float}
use Rattle.plane.specs.declared.Containment.{Containment}
use Rattle.plane.specs.declared.Containment.TheVariants.{Inside, OnBoundary, Outside}
use Rattle.plane.specs.declared.PlanarPoint.{PlanarPoint}
use Rattle.turn.specs.Turns.{turn}
use Rattle.segment.specs.Segments.{touches}
use Rattle.ring.specs.Ring.{vertex_at, edge_end}
use Rattle.base.proofs.Laws.{rounds_keep}
use Rattle.base.proofs.Tests.{Passed}
use Rattle.ring_contain.specs.Contains.{unless_on, flipped, passes, contains_edge, contains_step, ring_contains}

abbrev on : Containment → Bool
on Inside = false
on OnBoundary = true
on Outside = false

not_on : (c : Containment) → on c ≡ false → c ≡ OnBoundary → ⊥
not_on c n e = true≢false (sym (ap on e) ∙ n)

module _ (ps : List Float) (n : ℕ) (p : PlanarPoint) where
  -- the point touches edge k
  abbrev pub touches_edge : ℕ → Bool
  touches_edge k = touches (turn (vertex_at ps k) (edge_end ps n k) p) (vertex_at ps k) (edge_end ps n k) p

  pub boundary_found : ring_contains ps n p ≡ OnBoundary → Passed touches_edge n
  unfolding ring_contains contains_step contains_edge unless_on flipped
  boundary_found =
      rounds_keep (contains_step ps n p) (λ (m : ℕ) (s : Containment). s ≡ OnBoundary → Passed touches_edge m) Outside
      (λ e. absurd (not_on Outside refl e)) (λ k s h e. go k s h e) n
    where
      here : (k : ℕ) (t r : Bool) (x y : Containment) → on x ≡ false → on y ≡ false → t ≡ touches_edge k → cond t OnBoundary (cond r x y) ≡ OnBoundary → Passed touches_edge (suc k)
      here k true r x y a b u e = record { at = k; under = omega arith; is = sym u }
      here k false true x y a b u e = absurd (not_on x a e)
      here k false false x y a b u e = absurd (not_on y b e)

      go : (k : ℕ) (s : Containment) → (s ≡ OnBoundary → Passed touches_edge k) → contains_step ps n p k s ≡ OnBoundary → Passed touches_edge (suc k)
      go k Inside h e = here k (touches_edge k) (passes (vertex_at ps k) (edge_end ps n k) p) Outside Inside refl refl refl e
      go k OnBoundary h e = let r = h refl in record { at = r.at; under = omega (arith, r.under); is = r.is }
      go k Outside h e = here k (touches_edge k) (passes (vertex_at ps k) (edge_end ps n k) p) Inside Outside refl refl refl e

  pub found_boundary : Passed touches_edge n → ring_contains ps n p ≡ OnBoundary
  unfolding ring_contains contains_step contains_edge unless_on flipped
  found_boundary w =
      rounds_keep (contains_step ps n p) (λ (m : ℕ) (s : Containment). w.at < m → s ≡ OnBoundary) Outside
      (λ l. absurd (omega arith)) (λ k s h l. go k s h l (eqb w.at k) refl) n w.under
    where
      found : (k : ℕ) (s : Containment) → touches_edge k ≡ true → contains_step ps n p k s ≡ OnBoundary
      found k Inside t = rw t refl
      found k OnBoundary t = refl
      found k Outside t = rw t refl

      kept : (k : ℕ) (s : Containment) → s ≡ OnBoundary → contains_step ps n p k s ≡ OnBoundary
      kept k s e = subst (λ (c : Containment). contains_step ps n p k c ≡ OnBoundary) (sym e) refl

      go : (k : ℕ) (s : Containment) → (w.at < k → s ≡ OnBoundary) → w.at < suc k → (b : Bool) → eqb w.at k ≡ b → contains_step ps n p k s ≡ OnBoundary
      go k s h l true t = found k s (subst (λ (m : ℕ). touches_edge m ≡ true) (eqb-true w.at k t) w.is)
      go k s h l false t = kept k s (h (omega (arith, eqb-false w.at k t)))
