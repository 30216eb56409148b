-- Writing a ring straight to lent output leaves the numbers that writing the stored ring leaves. Assumes nothing.
use Prim.Native.Nat.{ℕ, zero, suc, ◌+◌, ◌*◌, ◌≤◌, ◌<◌}
use native.Mathlib.Nat.{zero-add}
use native.Mathlib.Omega.{arith}
use mathlib.Core.Path.{◌≡◌, refl, sym, ap, ◌∙◌}
use mathlib.Core.Bool.{Bool}
use mathlib.Core.List.{List}
use lib.ListN.{set, length}
use lib.Ieee.{Float}
use Rattle.base.specs.Loop.{rounds}
use Rattle.base.proofs.Laws.{next_round}
use Rattle.plane.specs.declared.PlanarPoint.{PlanarPoint}
use Rattle.ring.specs.Ring.{vertex_at, stored_at}
use Rattle.ring.specs.Store.{store_vertex, store_step, stored}
use Rattle.outline_lent.specs.Writes.{write_step, write_ring}

-- the code's two stores are one step
pub store_both : (ps : List Float) (n : ℕ) (back : Bool) (k : ℕ) (out : List Float) (v : PlanarPoint) → v ≡ stored_at ps n back k → set (set out (2 * k) v.east) (2 * k + 1) v.north ≡ store_step ps n back 0 k out
unfolding store_step store_vertex
store_both ps n back k out v e = rw (zero-add, e) refl

pub second_in : (out : List Float) (k n : ℕ) → k < n → 2 * n ≤ length out → 2 * k + 1 < length out
second_in out k n l h = omega arith

-- the two numbers of vertex k of the ring qs, one after the other
two_numbers : (qs : List Float) (k : ℕ) (out : List Float) → write_step qs 0 (2 * k + 1) (write_step qs 0 (2 * k) out) ≡ store_vertex out k (vertex_at qs k)
unfolding write_step store_vertex vertex_at
two_numbers qs k out = rw (zero-add (2 * k + 1), zero-add (2 * k)) refl

one_vertex :
    (qs ps : List Float) (n : ℕ) (back : Bool) (k : ℕ) (out : List Float) → vertex_at qs k ≡ stored_at ps n back k →
    write_step qs 0 (2 * k + 1) (write_step qs 0 (2 * k) out) ≡ store_step ps n back 0 k out
unfolding store_step
one_vertex qs ps n back k out e = two_numbers qs k out ∙ ap (store_vertex out k) e ∙ ap (λ (i : ℕ). store_vertex out i (stored_at ps n back k)) (sym (zero-add k))

twice : (f : ℕ → List Float → List Float) (k : ℕ) (out : List Float) → rounds f (2 * suc k) out ≡ f (2 * k + 1) (f (2 * k) (rounds f (2 * k) out))
twice f k out =
    let e : 2 * suc k ≡ 2 * k + 1 + 1 = omega arith in
    ap (λ (m : ℕ). rounds f m out) e ∙ next_round f (2 * k + 1) out ∙ ap (f (2 * k + 1)) (next_round f (2 * k) out)

module _ (qs ps : List Float) (n : ℕ) (back : Bool) (out : List Float) (same : (k : ℕ) → k < n → vertex_at qs k ≡ stored_at ps n back k) where
  pub straight_to : (k : ℕ) → k ≤ n → rounds (write_step qs 0) (2 * k) out ≡ rounds (store_step ps n back 0) k out
  unfolding rounds
  straight_to zero l = refl
  straight_to (suc k) l =
      twice (write_step qs 0) k out ∙ ap (λ (x : List Float). write_step qs 0 (2 * k + 1) (write_step qs 0 (2 * k) x)) (straight_to k (omega arith)) ∙
      one_vertex qs ps n back k (rounds (store_step ps n back 0) k out) (same k (omega arith))

  pub straight : write_ring qs n 0 out ≡ stored ps n back 0 out
  unfolding write_ring stored
  straight = straight_to n (omega arith)
