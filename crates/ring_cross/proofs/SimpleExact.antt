-- Of a simple ring with finite numbers no two edges that are no neighbours share a point; a pair that is named does, or folds back. Assumes nothing.
use Prim.Native.Nat.{ℕ, ◌+◌, ◌-◌, ◌<◌}
use native.Mathlib.Omega.{arith}
use mathlib.Core.Path.{◌≡◌, refl, sym, ◌∙◌}
use mathlib.Core.Bool.{Bool, true, false, ◌&&◌, true≢false}
use mathlib.Core.List.{List}
use mathlib.Mathlib.Data.Bool.Basic.{and_elim_left, and_elim_right}
use borrow.Author.Tests.{eqb-true, eqb-false, eq-eqb, ne_eqb}
use lib.Dec.{eqb}
use lib.Ieee.{Float}
use Rattle.plane.specs.declared.PlanarPoint.{PlanarPoint}
use Rattle.turn.specs.Turns.{Finite}
use Rattle.segment.specs.Segments.{segments_meet, folds_back}
use Rattle.segment.proofs.Theorem.{meet_iff_shared}
use Rattle.ring.specs.Ring.{following, stored_at}
use Rattle.ring.proofs.Vertices.{following_lt}
use Rattle.std.specs.Prelude.{None}
use Rattle.ring_cross.specs.EdgePairs.{edges}
use Rattle.ring_cross.specs.Simple.{crossing, crossing_by, check_simple}
use Rattle.ring_cross.specs.SimpleExact.{FiniteRing, EdgesShare, Strangers, Folded, next, round, Why, shared, folded, SimpleExact}
use Rattle.ring_cross.proofs.Found.{none_crosses, Crosses, named_crosses}

module _ (ps : List Float) (n : ℕ) (back : Bool) where
  abbrev v : ℕ → PlanarPoint
  v k = stored_at ps n back k

  abbrev met : ℕ → ℕ → Bool
  met i j = segments_meet (v i) (v (following n i)) (v j) (v (following n j))

  -- the first edge and the last
  abbrev ends : ℕ → ℕ → Bool
  ends i j = eqb i 0 && eqb j (n - 1)

  -- two edges that have no end in common
  asked : (i j : ℕ) → Strangers n i j → crossing ps n back i j ≡ met i j
  unfolding crossing crossing_by
  asked i j w = simp (ne_eqb j (i + 1) (λ (e : j ≡ i + 1). absurd (omega (arith, w.later))), apart (eqb i 0) (eqb j (n - 1)) (eqb-true i 0) (eqb-true j (n - 1)))
    where
      apart : (a b : Bool) → (a ≡ true → i ≡ 0) → (b ≡ true → j ≡ n - 1) → (a && b) ≡ false
      apart false b f g = refl
      apart true false f g = refl
      apart true true f g = absurd (w.unless_round (f refl) (omega (arith, g refl, w.within)))

  -- an edge and the next
  asked_next : (i j : ℕ) → j ≡ i + 1 → crossing ps n back i j ≡ folds_back (v (following n i)) (v i) (v (following n j))
  unfolding crossing crossing_by
  asked_next i j e = simp (eq-eqb j (i + 1) e)

  -- the first edge and the last, which is not the next
  asked_round : (i j : ℕ) → i ≡ 0 → 1 < j → j + 1 ≡ n → crossing ps n back i j ≡ folds_back (v i) (v (following n i)) (v j)
  unfolding crossing crossing_by
  asked_round i j e l f = simp (ne_eqb j (i + 1) (λ (g : j ≡ i + 1). absurd (omega arith)), eq-eqb i 0 e, eq-eqb j (n - 1) (omega arith))

  module _ (finite : FiniteRing ps n back) where
    end_finite : (k : ℕ) → k < n → Finite (v (following n k))
    end_finite k l = finite (following n k) (following_lt n k l)

    not_shared : check_simple ps n back ≡ None → (i j : ℕ) → Strangers n i j → EdgesShare ps n back i j → ⊥
    not_shared e i j w s =
        let a : i < n = omega (arith, w.later, w.within) in
        let m = meet_iff_shared.sharing_meet _ _ _ _ (finite i a) (end_finite i a) (finite j w.within) (end_finite j w.within) s in
        true≢false (sym m ∙ sym (asked i j w) ∙ none_crosses ps n back e i j (omega (arith, w.later)) w.within)

    -- an edge and the next; the first and the last; no neighbours
    named_why : (i j : ℕ) → check_simple ps n back ≡ edges i j → Why ps n back i j
    named_why i j e = let w = named_crosses ps n back i j e in go w (eqb j (i + 1)) refl (eqb i 0 && eqb j (n - 1)) refl
      where
        strangers : Crosses ps n back i j → eqb j (i + 1) ≡ false → (eqb i 0 && eqb j (n - 1)) ≡ false → Strangers n i j
        strangers w d f = record {
          later = omega (arith, w.lower, eqb-false j (i + 1) d);
          within = w.under;
          unless_round = λ (a : i ≡ 0) (b : j + 1 ≡ n). true≢false (sym (simp (eq-eqb i 0 a, eq-eqb j (n - 1) (omega arith))) ∙ f);
        }

        go : Crosses ps n back i j → (d : Bool) → eqb j (i + 1) ≡ d → (f : Bool) → (eqb i 0 && eqb j (n - 1)) ≡ f → Why ps n back i j
        go w true d f g = folded (next (eqb-true j (i + 1) d) (sym (asked_next i j (eqb-true j (i + 1) d)) ∙ w.is))
        go w false d true g = folded (round first more last (sym (asked_round i j first more last) ∙ w.is))
          where
            first : i ≡ 0
            first = eqb-true i 0 (and_elim_left (eqb i 0) (eqb j (n - 1)) g)

            last : j + 1 ≡ n
            last = omega (arith, eqb-true j (n - 1) (and_elim_right (eqb i 0) (eqb j (n - 1)) g), w.under)

            more : 1 < j
            more = omega (arith, first, w.lower, eqb-false j (i + 1) d)
        go w false d false g =
            let s = strangers w d g in
            let a : i < n = omega (arith, w.lower, w.under) in
            shared s (meet_iff_shared.meeting_share _ _ _ _ (finite i a) (end_finite i a) (finite j w.under) (end_finite j w.under)
            (sym (asked i j s) ∙ w.is))

  not_folded : check_simple ps n back ≡ None → (i j : ℕ) → i < j → j < n → Folded ps n back i j → ⊥
  not_folded e i j l m (next a f) = true≢false (sym f ∙ sym (asked_next i j a) ∙ none_crosses ps n back e i j l m)
  not_folded e i j l m (round a b c f) = true≢false (sym f ∙ sym (asked_round i j a b c) ∙ none_crosses ps n back e i j l m)

pub simple_exact : SimpleExact
simple_exact = record {
  simple = λ ps n back f e. not_shared ps n back f e;
  unfolded = λ ps n back e. not_folded ps n back e;
  named = λ ps n back f. named_why ps n back f;
}
