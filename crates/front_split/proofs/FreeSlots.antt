-- The search for a free slot and the walk round a ring, as the code makes them. Assumes nothing.
use Prim.Native.Nat.{ℕ, ◌+◌, ◌<◌}
use mathlib.Core.Bool.{Bool, true, false, cond, not, ◌||◌, false≢true}
use mathlib.Core.List.{List}
use mathlib.Core.Path.{◌≡◌, refl, sym, ◌∙◌, ap, subst}
use native.Mathlib.Omega.{arith}
use borrow.Author.Tests.{lt-ltb}
use lib.Dec.{eqb}
use lib.ListN.{get_or}
use Rattle.base.specs.Loop.{rounds}
use Rattle.base.proofs.Laws.{next_round, stays_to}
use Rattle.front.specs.declared.Edge.{Edge}
use Rattle.front.specs.declared.Reach.{Reach}
use Rattle.front.specs.Edges.{edge, blank}
use Rattle.front.specs.Splitting.{free_step, free, reach_on, reach_step, one_ring}
use Rattle.front.proofs.EdgeLaws.{edge_in}

-- ---- no slot before k is free

module _ (f : List Edge) (k : ℕ) (l : k < 128) (so_far : rounds (free_step f) k 128 ≡ 128) where
  one_slot : rounds (free_step f) (k + 1) 128 ≡ cond (get_or f k blank).alive 128 k
  unfolding free_step
  one_slot = next_round _ _ _ ∙ ap (free_step f k) so_far ∙ ap (λ (e : Edge). cond e.alive 128 k) (edge_in f k l)

  pub free_goes : (get_or f k blank).alive ≡ true → rounds (free_step f) (k + 1) 128 ≡ 128
  free_goes h = one_slot ∙ ap (λ (b : Bool). cond b 128 k) h

  pub free_found : (get_or f k blank).alive ≡ false → free f ≡ k
  unfolding free free_step
  free_found h = stays_to (free_step f) 128 k (k + 1) 128 (omega arith) (one_slot ∙ ap (λ (b : Bool). cond b 128 k) h) (λ m. rw (lt-ltb k 128 l) refl)

pub free_all : (f : List Edge) (k : ℕ) → rounds (free_step f) k 128 ≡ 128 → k ≡ 128 → 128 ≡ free f
unfolding free
free_all f k so_far e = sym so_far ∙ ap (λ (m : ℕ). rounds (free_step f) m 128) e

-- ---- the walk from a has come to `at`, and from there to `next`

abbrev pub reach_at : ℕ → Bool → Bool → Reach
reach_at at found closed = record { at = at; found = found; closed = closed }

module _ (f : List Edge) (a b at k next : ℕ) (so_far : rounds (reach_step f a b) k (reach_at a false false) ≡ reach_at at false false) (read : next ≡ (edge f at).next) where
  one_more : rounds (reach_step f a b) (k + 1) (reach_at a false false) ≡ reach_on a b next
  unfolding reach_step
  one_more = next_round _ _ _ ∙ ap (reach_step f a b k) so_far ∙ ap (reach_on a b) (sym read)

  pub reach_goes : (eqb next a || eqb next b) ≡ false → rounds (reach_step f a b) (k + 1) (reach_at a false false) ≡ reach_at next false false
  unfolding reach_on
  reach_goes h = one_more ∙ go (eqb next a) (eqb next b) h
    where
      go : (x y : Bool) → (x || y) ≡ false → cond x (reach_at next false true) (cond y (reach_at next true true) (reach_at next false false)) ≡ reach_at next false false
      go true y q = absurd (false≢true (sym q))
      go false true q = absurd (false≢true (sym q))
      go false false q = refl

  pub reach_found : k < 128 → (eqb next a || eqb next b) ≡ true → one_ring f a b ≡ not (eqb next a)
  unfolding one_ring reach_on reach_step
  reach_found l h =
      ap (λ (r : Reach). r.found)
      (stays_to (reach_step f a b) (reach_at a false false) (reach_at next (not (eqb next a)) true) (k + 1) 128 (omega arith) (one_more ∙ go (eqb next a) (eqb next b) h) (λ m. refl))
    where
      go : (x y : Bool) → (x || y) ≡ true → cond x (reach_at next false true) (cond y (reach_at next true true) (reach_at next false false)) ≡ reach_at next (not x) true
      go true y q = refl
      go false true q = refl
      go false false q = absurd (false≢true q)

pub reach_all : (f : List Edge) (a b at k : ℕ) → rounds (reach_step f a b) k (reach_at a false false) ≡ reach_at at false false → k ≡ 128 → one_ring f a b ≡ false
unfolding one_ring
reach_all f a b at k so_far e = ap (λ (r : Reach). r.found) (subst (λ (m : ℕ). rounds (reach_step f a b) m (reach_at a false false) ≡ reach_at at false false) e so_far)
