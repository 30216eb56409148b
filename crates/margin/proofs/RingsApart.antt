-- What 11 and 12 grant: no two rings of a region meet. Assumes nothing.
use Prim.Native.Nat.{ℕ, zero, suc, ◌+◌, ◌-◌, ◌≤◌, ◌<◌}
use native.Mathlib.Omega.{arith}
use mathlib.Core.Path.{◌≡◌, refl, sym, ap, ◌∙◌, subst}
use mathlib.Core.Bool.{Bool, true, false, cond, not, false≢true}
use mathlib.Mathlib.Data.Bool.Basic.{and_elim_right, or-eq-false-eq-eq-false-and-eq-false}
use borrow.Author.Tests.{eqb-true, eqb-false, not-true}
use lib.Dec.{eqb, leb}
use Rattle.error.specs.declared.Refusal.{Refusal}
use Rattle.error.specs.declared.Refusal.TheVariants.{Granted, HoleOutside, HolesTouch, ManyHoles}
use Rattle.error.specs.Refusals.{number, values, granted}
use Rattle.base.specs.Loop.{rounds}
use Rattle.base.proofs.Laws.{rounds_keep}
use Rattle.ring_cross.specs.Meet.{rings_meet}
use Rattle.offset.specs.Clear.{every_vertex}
use Rattle.region.specs.declared.Region.{Region}
use Rattle.region.specs.Regions.{ring_points, ring_count, hole_points, hole_count}
use Rattle.region.specs.Checks.{inside_of, hole_free, hole_step, check_holes, holes_touch, second_step, first_step, check_apart, then_apart, check_region}

-- a walk that goes on while nothing is refused
module _ (c : ℕ → Refusal) (f : ℕ → Refusal → Refusal) (step : (k : ℕ) (s : Refusal) → f k s ≡ cond (granted s) (c k) s) where
  all_granted : (n : ℕ) → granted (rounds f n Granted) ≡ true → (k : ℕ) → k < n → granted (c k) ≡ true
  all_granted =
      rounds_keep f (λ (n : ℕ) (s : Refusal). granted s ≡ true → (k : ℕ) → k < n → granted (c k) ≡ true) Granted (λ e k l. absurd (omega arith))
      (λ n s h e k l. go n s h (granted s) refl (ap granted (sym (step n s)) ∙ e) k l (eqb k n) refl)
    where
      go : (n : ℕ) (s : Refusal) → (granted s ≡ true → (k : ℕ) → k < n → granted (c k) ≡ true) → (g : Bool) → granted s ≡ g
          → granted (cond g (c n) s) ≡ true → (k : ℕ) → k < suc n → (b : Bool) → eqb k n ≡ b → granted (c k) ≡ true
      go n s h false g e k l b t = absurd (false≢true (sym g ∙ e))
      go n s h true g e k l true t = subst (λ (m : ℕ). granted (c m) ≡ true) (sym (eqb-true k n t)) e
      go n s h true g e k l false t = h g k (omega (arith, eqb-false k n t))

-- a question that is granted was answered with yes
asked_yes : (t : Bool) (u : Refusal) → granted u ≡ false → granted (cond t Granted u) ≡ true → t ≡ true
asked_yes true u r e = refl
asked_yes false u r e = absurd (false≢true (sym r ∙ e))

asked_no : (t : Bool) (u : Refusal) → granted u ≡ false → granted (cond t u Granted) ≡ true → t ≡ false
asked_no true u r e = absurd (false≢true (sym r ∙ e))
asked_no false u r e = refl

module _ (r : Region) (ok : check_region r ≡ Granted) where
  -- both walks were gone through
  both_granted : (granted (check_holes r) ≡ true) × (granted (check_apart r) ≡ true)
  unfolding check_region then_apart granted number values
  both_granted = go (leb r.holes 8) (granted (check_holes r)) refl (ap granted ok)
    where
      go : (a b : Bool) → granted (check_holes r) ≡ b → granted (cond a (cond b (check_apart r) (check_holes r)) (ManyHoles r.holes)) ≡ true
          → (granted (check_holes r) ≡ true) × (granted (check_apart r) ≡ true)
      go false b h e = absurd (false≢true e)
      go true true h e = (h, e)
      go true false h e = absurd (false≢true (sym h ∙ e))

  -- 11
  hole_apart : (k : ℕ) → k < r.holes → rings_meet r.outer.points r.outer.count (hole_points r k) (hole_count r k) ≡ false
  unfolding check_holes hole_step hole_free granted number values
  hole_apart k l =
      let free = hole_free r.outer.points r.outer.count (hole_points r k) (hole_count r k) in
      let yes = asked_yes free (HoleOutside k) refl
      (all_granted (λ (j : ℕ). cond (hole_free r.outer.points r.outer.count (hole_points r j) (hole_count r j)) Granted (HoleOutside j))
      (hole_step r) (λ j s. refl) r.holes both_granted.0 k l) in
      not-true (rings_meet r.outer.points r.outer.count (hole_points r k) (hole_count r k))
      (and_elim_right (every_vertex (inside_of r.outer.points r.outer.count) (hole_points r k) (hole_count r k))
      (not (rings_meet r.outer.points r.outer.count (hole_points r k) (hole_count r k))) yes)

  -- 12
  holes_apart : (i k : ℕ) → k < r.holes - (i + 1) → i < r.holes
      → rings_meet (hole_points r i) (hole_count r i) (hole_points r (i + 1 + k)) (hole_count r (i + 1 + k)) ≡ false
  unfolding check_apart first_step second_step holes_touch granted number values
  holes_apart i k l m =
      let row = all_granted (λ (j : ℕ). rounds (second_step r j) (r.holes - (j + 1)) Granted) (first_step r) (λ j s. refl) r.holes both_granted.1 i m in
      let touch : ℕ → Bool = λ (j : ℕ). holes_touch (hole_points r i) (hole_count r i) (hole_points r (i + 1 + j)) (hole_count r (i + 1 + j)) in
      let one = all_granted (λ (j : ℕ). cond (touch j) (HolesTouch i (i + 1 + j)) Granted) (second_step r i) (λ j s. refl) (r.holes - (i + 1)) row k l in
      ((or-eq-false-eq-eq-false-and-eq-false (rings_meet (hole_points r i) (hole_count r i) (hole_points r (i + 1 + k)) (hole_count r (i + 1 + k))) _).0
      (asked_no (touch k) (HolesTouch i (i + 1 + k)) refl one)).0

  pub rings_apart : (k l : ℕ) → k < l → l ≤ r.holes → rings_meet (ring_points r k) (ring_count r k) (ring_points r l) (ring_count r l) ≡ false
  unfolding ring_points ring_count
  rings_apart k zero h b = absurd (omega arith)
  rings_apart zero (suc l) h b = hole_apart l (omega arith)
  rings_apart (suc k) (suc l) h b =
      let e : k + 1 + (l - (k + 1)) ≡ l = omega arith in
      subst (λ (j : ℕ). rings_meet (hole_points r k) (hole_count r k) (hole_points r j) (hole_count r j) ≡ false) e
      (holes_apart k (l - (k + 1)) (omega arith) (omega arith))
