-- Events counted: the tally of a list, and what an event adds to the counts of a sweep.
use mathlib.Core.Path.{◌≡◌}
use mathlib.Core.List.{List, [], ◌∷◌, ◌++◌}
use Prim.Native.Nat.{ℕ, zero, suc, ◌+◌, ◌*◌, ◌≤◌}
use native.Mathlib.Omega.{arith}
use lib.ListN.{length, take}
use Rattle.base.proofs.Choices.{by_test}
use Rattle.front.specs.declared.Edge.{Edge}
use Rattle.front.specs.declared.Event.{Event}
use Rattle.front.specs.declared.Event.TheVariants.{Stalled, Never, Collapse, Split}
use Rattle.front.specs.declared.Sweep.{Sweep}
use Rattle.front.specs.Demand.{Completed, collapsed, divided, joined, Counts, Stage, going, kind, completed, one_more, tally, handed, tidied, found}

-- ---- the tally

pub record Sum (a b k : Counts) : Type 0 where
  pub c : k.c ≡ a.c + b.c
  pub d : k.d ≡ a.d + b.d
  pub j : k.j ≡ a.j + b.j

more_sum : (e : Completed) (a b k : Counts) → Sum a b k → Sum (one_more e a) b (one_more e k)
unfolding one_more
more_sum collapsed a b k h = record { c = omega (arith, h.c); d = h.d; j = h.j }
more_sum divided a b k h = record { c = h.c; d = omega (arith, h.d); j = h.j }
more_sum joined a b k h = record { c = h.c; d = h.d; j = omega (arith, h.j) }

pub tally_append : (es fs : List Completed) → Sum (tally es) (tally fs) (tally (es ++ fs))
unfolding tally
tally_append [] fs = record { c = omega arith; d = omega arith; j = omega arith }
tally_append (e ∷ es) fs = more_sum e (tally es) (tally fs) (tally (es ++ fs)) (tally_append es fs)

one_length : (e : Completed) (k : Counts) (n : ℕ) → k.c + k.d + k.j ≡ n → (one_more e k).c + (one_more e k).d + (one_more e k).j ≡ suc n
unfolding one_more
one_length collapsed k n h = omega arith
one_length divided k n h = omega arith
one_length joined k n h = omega arith

-- c, d and j make up the whole list
pub tally_length : (es : List Completed) → (tally es).c + (tally es).d + (tally es).j ≡ length es
unfolding tally
tally_length [] = omega arith
tally_length (e ∷ es) = one_length e (tally es) (length es) (tally_length es)

-- ---- a stage completes one event or none

kind_one : (f : List Edge) (e : Event) → length (kind f e) ≤ 1
unfolding kind
kind_one f Stalled = omega arith
kind_one f Never = omega arith
kind_one f (Collapse k step) = omega arith
kind_one f (Split v e step) = omega arith

pub completed_one : (t : Stage) → length (completed t) ≤ 1
unfolding completed
completed_one t = by_test (λ (es : List Completed). length es ≤ 1) (going t.to) (λ q. kind_one (tidied t).edges (found t)) (λ q. omega arith)

-- ---- the counts of a sweep

-- from one sweep to another these events were completed
abbrev pub Adds : Sweep → Sweep → List Completed → Type 0
Adds s z es = Sum (handed s) (tally es) (handed z)

pub adds_none : (s : Sweep) → Adds s s []
unfolding tally
adds_none s = record { c = omega arith; d = omega arith; j = omega arith }

pub adds_then : (s y z : Sweep) (es fs : List Completed) → Adds s y es → Adds y z fs → Adds s z (es ++ fs)
adds_then s y z es fs g h =
    let k : Sum (tally es) (tally fs) (tally (es ++ fs)) = tally_append es fs in
    record { c = omega (arith, g.c, h.c, k.c); d = omega (arith, g.d, h.d, k.d); j = omega (arith, g.j, h.j, k.j) }

-- the bound, with the events es after those of the sweep
abbrev pub Bound : ℕ → Sweep → List Completed → Type 0
Bound m s es = s.collapses + (tally es).c + (s.divides + (tally es).d) ≤ m + 3 * (s.joins + (tally es).j)

pub bound_none : (m : ℕ) (s : Sweep) → s.collapses + s.divides ≤ m + 3 * s.joins → Bound m s []
unfolding tally
bound_none m s h = omega arith

pub bound_then : (m : ℕ) (s y : Sweep) (es fs : List Completed) → Adds s y es → Bound m y fs → Bound m s (es ++ fs)
bound_then m s y es fs g h =
    let k : Sum (tally es) (tally fs) (tally (es ++ fs)) = tally_append es fs in
    omega (arith, g.c, g.d, g.j, k.c, k.d, k.j)

-- by any point: before the events es, one or none, or after them
pub by_any_point : (P : List Completed → Type 0) (es fs : List Completed) → length es ≤ 1 → P [] → ((k : ℕ) → P (es ++ take k fs)) → (k : ℕ) → P (take k (es ++ fs))
by_any_point P [] fs l p h k = h k
by_any_point P (e ∷ []) fs l p h zero = p
by_any_point P (e ∷ []) fs l p h (suc k) = h k
by_any_point P (e ∷ a ∷ es) fs l p h k = absurd (omega arith)
