-- A ring that was stored reads back vertex by vertex, and what was stored before it stays. Assumes nothing.
use Prim.Native.Nat.{ℕ, suc, ◌+◌, ◌*◌, ◌≤◌, ◌<◌}
use mathlib.Core.Path.{◌≡◌, refl, ◌∙◌}
use mathlib.Core.Logic.{◌≢◌}
use mathlib.Core.Bool.{Bool}
use mathlib.Core.List.{List}
use native.Mathlib.Omega.{arith}
use lib.ListN.{get_or, set, length, length-set}
use lib.Seq.{get_or-set_same, get_or-set_other}
use lib.Ieee.{Float, nan}
use Rattle.plane.specs.declared.PlanarPoint.{PlanarPoint}
use Rattle.ring.specs.Ring.{vertex_at, stored_at}
use Rattle.ring.specs.Store.{store_vertex, store_step, stored}
use Rattle.base.proofs.Laws.{rounds_keep}
use Rattle.base.proofs.Choices.{by_cases}

-- ---- one vertex

module _ (out : List Float) (k : ℕ) (v : PlanarPoint) where
  pub vertex_length : length (store_vertex out k v) ≡ length out
  unfolding store_vertex
  vertex_length = simp length-set

  -- every other number stays
  pub vertex_other : (i : ℕ) → i ≢ 2 * k → i ≢ 2 * k + 1 → get_or (store_vertex out k v) i nan ≡ get_or out i nan
  unfolding store_vertex
  vertex_other i h l =
      get_or-set_other (set out (2 * k) v.east) (2 * k + 1) i v.north nan l ∙ get_or-set_other out (2 * k) i v.east nan h

  module _ (fits : 2 * k + 1 < length out) where
    pub vertex_east : get_or (store_vertex out k v) (2 * k) nan ≡ v.east
    unfolding store_vertex
    vertex_east =
        get_or-set_other (set out (2 * k) v.east) (2 * k + 1) (2 * k) v.north nan (λ e. omega arith) ∙ get_or-set_same out (2 * k) v.east nan (omega arith)

    pub vertex_north : get_or (store_vertex out k v) (2 * k + 1) nan ≡ v.north
    unfolding store_vertex
    vertex_north = get_or-set_same (set out (2 * k) v.east) (2 * k + 1) v.north nan (simp length-set (omega arith))

    pub vertex_here : vertex_at (store_vertex out k v) k ≡ v
    unfolding vertex_at
    vertex_here = rw (vertex_east, vertex_north) refl

  pub vertex_there : (i : ℕ) → i ≢ k → vertex_at (store_vertex out k v) i ≡ vertex_at out i
  unfolding vertex_at
  vertex_there i h = rw (vertex_other (2 * i) (λ e. h (omega arith)) (λ e. omega arith), vertex_other (2 * i + 1) (λ e. omega arith) (λ e. h (omega arith))) refl

-- ---- a ring, from vertex `base` on

module _ (ps : List Float) (n : ℕ) (back : Bool) (base : ℕ) (out : List Float) where
  record Store (i : ℕ) (s : List Float) : Type 0 where
    size : length s ≡ length out
    new : (k : ℕ) → k < i → 2 * (base + i) ≤ length out → vertex_at s (base + k) ≡ stored_at ps n back k
    old : (k : ℕ) → k < base → vertex_at s k ≡ vertex_at out k

  store_one : (i : ℕ) (s : List Float) → Store i s → Store (suc i) (store_step ps n back base i s)
  unfolding store_step
  store_one i s h = record {
    size = vertex_length s (base + i) (stored_at ps n back i) ∙ h.size;
    new = λ k l z. by_cases k i
        (λ e. rw e (vertex_here s (base + i) (stored_at ps n back i) (omega (arith, h.size))))
        (λ e. vertex_there s (base + i) (stored_at ps n back i) (base + k) (λ q. e (omega arith)) ∙ h.new k (omega arith) (omega arith));
    old = λ k l. vertex_there s (base + i) (stored_at ps n back i) k (λ q. omega arith) ∙ h.old k l;
  }

  store_all : Store n (stored ps n back base out)
  unfolding stored
  store_all = rounds_keep (store_step ps n back base) Store out (record { size = refl; new = λ k l z. absurd (omega arith); old = λ k l. refl }) store_one n

  pub stored_length : length (stored ps n back base out) ≡ length out
  stored_length = store_all.size

  pub stored_new : 2 * (base + n) ≤ length out → (k : ℕ) → k < n → vertex_at (stored ps n back base out) (base + k) ≡ stored_at ps n back k
  stored_new z k l = store_all.new k l z

  pub stored_old : (k : ℕ) → k < base → vertex_at (stored ps n back base out) k ≡ vertex_at out k
  stored_old = store_all.old
