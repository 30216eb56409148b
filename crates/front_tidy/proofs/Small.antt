-- A ring of fewer than three edges is told by two steps. Assumes nothing.
use Prim.Native.Nat.{ℕ, zero, suc, ◌+◌, ◌≤◌}
use native.Mathlib.Nat.{zero-add, suc-add, le_trans}
use native.Mathlib.Omega.{arith}
use mathlib.Core.Bool.{Bool, true, false, cond, ◌||◌}
use mathlib.Core.List.{List}
use mathlib.Core.Path.{◌≡◌, refl, ap, ◌∙◌, subst}
use borrow.Author.Tests.{le-ltb, eqb-true, eqb-false}
use lib.Dec.{ltb, eqb}
use Rattle.base.specs.Loop.{rounds}
use Rattle.base.proofs.Laws.{no_round, next_round}
use Rattle.front.specs.declared.Edge.{Edge}
use Rattle.front.specs.declared.Round.{Round}
use Rattle.front.specs.Edges.{edge, round_on, round_step, ring_len}
use Rattle.front.specs.Tidying.{few}
use Rattle.front.proofs.EdgeLaws.{round_at, round_goes, ring_len_found}
use Rattle.front_tidy.specs.Findings.{short}

-- a count never falls
step_le : (f : List Edge) (slot k : ℕ) (r : Round) → r.count ≤ (round_step f slot k r).count
unfolding round_step round_on
step_le f slot k r = go r.closed (eqb (edge f r.at).next slot)
  where
    go : (b c : Bool) → r.count ≤
        (cond b r
        (cond c (record { at = r.at; count = r.count + 1; closed = true })
        (record { at = (edge f r.at).next; count = r.count + 1; closed = false }))).count
    go true c = omega arith
    go false true = omega arith
    go false false = omega arith

grows : (f : List Edge) (slot d i : ℕ) (s : Round) → (rounds (round_step f slot) i s).count ≤ (rounds (round_step f slot) (d + i) s).count
unfolding rounds
grows f slot zero i s = rw zero-add (omega arith)
grows f slot (suc d) i s = rw suc-add (le_trans (grows f slot d i s) (step_le f slot (d + i) (rounds (round_step f slot) (d + i) s)))

-- the third step counts, whether it closes the ring or not
counts : (slot next at : ℕ) → (round_on slot next (round_at at 2 false)).count ≡ 3
unfolding round_on
counts slot next at = go (eqb next slot)
  where
    go : (b : Bool) → (cond b (round_at at 3 true) (round_at next 3 false)).count ≡ 3
    go true = refl
    go false = refl

module _ (f : List Edge) (slot at : ℕ) (so_far : rounds (round_step f slot) 2 (round_at slot 0 false) ≡ round_at at 2 false) where
  third : (rounds (round_step f slot) 3 (round_at slot 0 false)).count ≡ 3
  unfolding round_step
  third =
      ap (λ (r : Round). r.count) (next_round (round_step f slot) 2 (round_at slot 0 false) ∙ ap (round_step f slot 2) so_far)
      ∙ counts slot (edge f at).next at

  three : 3 ≤ ring_len f slot
  unfolding ring_len
  three =
      subst (λ (m : ℕ). m ≤ (rounds (round_step f slot) 128 (round_at slot 0 false)).count) third
      (grows f slot 125 3 (round_at slot 0 false))

pub few_is : (f : List Edge) (slot : ℕ) → few (ring_len f slot) ≡ short slot (edge f slot) (edge f (edge f slot).next)
unfolding few short
few_is f slot = go (eqb n slot) refl (eqb m slot) refl
  where
    n : ℕ
    n = (edge f slot).next

    m : ℕ
    m = (edge f n).next

    first : eqb n slot ≡ false → rounds (round_step f slot) 1 (round_at slot 0 false) ≡ round_at n 1 false
    first p = round_goes f slot slot 0 (no_round (round_step f slot) (round_at slot 0 false)) (eqb-false n slot p)

    go : (a : Bool) → eqb n slot ≡ a → (b : Bool) → eqb m slot ≡ b → ltb (ring_len f slot) 3 ≡ (a || b)
    go true p b q = rw (ring_len_found f slot slot 0 (no_round (round_step f slot) (round_at slot 0 false)) (omega arith) (eqb-true n slot p)) refl
    go false p true q = rw (ring_len_found f slot n 1 (first p) (omega arith) (eqb-true m slot q)) refl
    go false p false q = le-ltb (ring_len f slot) 3 (three f slot m (round_goes f slot n 1 (first p) (eqb-false m slot q)))
