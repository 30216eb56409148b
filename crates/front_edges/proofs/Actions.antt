-- Stores at one slot; the unlinking of an edge; and a collapse, by what the code does one after the other. Assumes nothing.
use Prim.Native.Nat.{ℕ}
use mathlib.Core.Bool.{Bool, true, false, cond}
use mathlib.Core.List.{List, [], ◌∷◌}
use mathlib.Core.Path.{◌≡◌, refl, sym, ◌∙◌}
use native.Mathlib.Omega.{arith}
use borrow.Author.Tests.{ltb-true, ltb-false}
use lib.Dec.{ltb}
use lib.ListN.{get_or, set, length, length-set}
use lib.Seq.{set_out}
use lib.Ieee.{Float}
use Rattle.std.specs.Prelude.{Option, Some, None}
use Rattle.plane.specs.declared.PlanarPoint.{PlanarPoint}
use Rattle.front.specs.declared.Edge.{Edge}
use Rattle.front.specs.declared.Moving.{Moving}
use Rattle.front.specs.Edges.{edge, blank, with_next, with_previous, with_start, dead, set_next, set_previous, set_start, kill, unlinked, remove, vertex, altered, stalled, anchor_at, anchor, then_remove, collapse}
use Rattle.front.proofs.EdgeLaws.{edge_in}

-- ---- stores at a slot that may lie out of the front: slot 0 is taken in its place

set_own : (f : List Edge) → set f 0 (get_or f 0 blank) ≡ f
set_own [] = refl
set_own (e ∷ f) = refl

module _ (f : List Edge) (k i : ℕ) (x : Edge) (l : length f ≡ 128) (i_is : i ≡ cond (ltb k 128) k 0) where
  slot_set : (h : Edge → Edge) → x ≡ cond (ltb k 128) (h (get_or f i blank)) (get_or f i blank) → set f i x ≡ set f k (h (edge f k))
  slot_set h = go (ltb k 128) refl i_is
    where
      go : (b : Bool) → ltb k 128 ≡ b → i ≡ cond b k 0 → x ≡ cond b (h (get_or f i blank)) (get_or f i blank) → set f i x ≡ set f k (h (edge f k))
      go true p q r = rw (r, q, edge_in f k (ltb-true k 128 p)) refl
      go false p q r = rw (r, q) (set_own f ∙ sym (set_out f k (h (edge f k)) (omega (arith, l, ltb-false k 128 p))))

  pub slot_next : (n : ℕ) → x ≡ cond (ltb k 128) (with_next (get_or f i blank) n) (get_or f i blank) → set f i x ≡ set_next f k n
  unfolding set_next
  slot_next n = slot_set (λ (e : Edge). with_next e n)

  pub slot_previous : (n : ℕ) → x ≡ cond (ltb k 128) (with_previous (get_or f i blank) n) (get_or f i blank) → set f i x ≡ set_previous f k n
  unfolding set_previous
  slot_previous n = slot_set (λ (e : Edge). with_previous e n)

  pub slot_start :
      (p : PlanarPoint) (t : Float) → x ≡ cond (ltb k 128) (with_start (get_or f i blank) p t) (get_or f i blank) → set f i x ≡ set_start f k p t
  unfolding set_start
  slot_start p t = slot_set (λ (e : Edge). with_start e p t)

  pub slot_kill : x ≡ cond (ltb k 128) (dead (get_or f i blank)) (get_or f i blank) → set f i x ≡ kill f k
  unfolding kill
  slot_kill = slot_set dead

-- ---- an edge is unlinked

pub remove_is :
    (f g h r : List Edge) (slot : ℕ) (e : Edge) → e ≡ edge f slot → g ≡ set_next f e.previous e.next → h ≡ set_previous g e.next e.previous →
    r ≡ kill h slot → r ≡ remove f slot
unfolding remove unlinked
remove_is f g h r slot e a b c d = rw (d, c, b, a) refl

-- ---- the same, store by store

module _ (f : List Edge) (l : length f ≡ 128) (slot i j k : ℕ) (gone x y z : Edge) (gone_is : gone ≡ edge f slot) (i_is : i ≡ cond (ltb gone.previous 128) gone.previous 0)
    (x_is : x ≡ cond (ltb gone.previous 128) (with_next (get_or f i blank) gone.next) (get_or f i blank)) (j_is : j ≡ cond (ltb gone.next 128) gone.next 0)
    (y_is : y ≡ cond (ltb gone.next 128) (with_previous (get_or (set f i x) j blank) gone.previous) (get_or (set f i x) j blank))
    (k_is : k ≡ cond (ltb slot 128) slot 0)
    (z_is : z ≡ cond (ltb slot 128) (dead (get_or (set (set f i x) j y) k blank)) (get_or (set (set f i x) j y) k blank)) where
  l1 : length (set f i x) ≡ 128
  l1 = length-set f i x ∙ l

  l2 : length (set (set f i x) j y) ≡ 128
  l2 = length-set (set f i x) j y ∙ l1

  pub removed : set (set (set f i x) j y) k z ≡ remove f slot
  removed =
      remove_is f (set f i x) (set (set f i x) j y) (set (set (set f i x) j y) k z) slot gone gone_is
      (slot_next f gone.previous i x l i_is gone.next x_is) (slot_previous (set f i x) gone.next j y l1 j_is gone.previous y_is)
      (slot_kill (set (set f i x) j y) slot k z l2 k_is z_is)

-- ---- a collapse

-- the edge at a slot collapses: whether its next, n, has a start vertex
module _ (f : List Edge) (slot : ℕ) (t : Float) (n : ℕ) (v : Option Moving) (n_is : n ≡ (edge f slot).next) (v_is : v ≡ vertex f n t) where
  pub collapse_none : v ≡ None → stalled f ≡ collapse f slot t
  unfolding stalled collapse anchor anchor_at then_remove
  collapse_none h = rw (← n_is, ← v_is, h) refl

  pub collapse_some : (g r : List Edge) (m : Moving) → v ≡ Some m → g ≡ set_start f n m.at t → r ≡ remove g slot → altered r ≡ collapse f slot t
  unfolding altered collapse anchor anchor_at then_remove
  collapse_some g r m h g_is r_is = rw (← n_is, ← v_is, h, r_is, g_is) refl
