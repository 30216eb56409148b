-- An edge's start vertex and its length, by whether its ends have velocities; and how the front's definition reads them. Assumes nothing.
use Prim.Native.Nat.{ℕ}
use mathlib.Core.Path.{◌≡◌, refl, ap, ◌∙◌}
use mathlib.Core.Bool.{Bool, true, false, cond, not}
use mathlib.Core.List.{List}
use lib.Dec.{ltb}
use lib.ListN.{get_or}
use lib.Ieee.{Float}
use Rattle.front.specs.declared.Edge.{Edge}
use Rattle.front.specs.declared.Line.{Line}
use Rattle.std.specs.Prelude.{Option, Some, None}
use Rattle.std.specs.Bool.{then_some}
use Rattle.front.specs.declared.Moving.{Moving}
use Rattle.front.specs.Lines.{velocity}
use Rattle.front.specs.Edges.{blank, unused, edge, edge_line, vertex_by, vertex, length_from, edge_length}
use Rattle.front_lines.specs.Between.{length_between}

-- nothing where a test holds, as the code says it
pub unless : {A : Type 0} (b : Bool) (x : A) → then_some (not b) x ≡ cond b None (Some x)
unless true x = refl
unless false x = refl

-- a start vertex, by the line that was read of the edge before
pub vertex_on : (e : Edge) (t : Float) (before l : Line) (v : Option Moving) → l ≡ before → v ≡ vertex_by e t (velocity l (edge_line e)) → v ≡ vertex_by e t (velocity before (edge_line e))
vertex_on e t before l v l_is v_is = v_is ∙ ap (λ (z : Line). vertex_by e t (velocity z (edge_line e))) l_is

-- ---- the definition's readings, by the edges that they read

pub length_is : (f : List Edge) (slot : ℕ) (t : Float) → edge_length f slot t ≡ length_between (edge f slot) (vertex f slot t) (vertex f (edge f slot).next t)
unfolding edge_length length_from length_between
length_is f slot t = go (vertex f slot t)
  where
    go : (x : Option Moving) → length_from f (edge f slot) t x ≡ length_between (edge f slot) x (vertex f (edge f slot).next t)
    go None = refl
    go (Some from) = refl

-- a slot out of the front is read as the unused edge
pub edge_read : (f : List Edge) (k : ℕ) → cond (ltb k 128) (get_or f (cond (ltb k 128) k 0) blank) unused ≡ edge f k
unfolding edge
edge_read f k = go (ltb k 128)
  where
    go : (b : Bool) → cond b (get_or f (cond b k 0) blank) unused ≡ cond b (get_or f k blank) unused
    go true = refl
    go false = refl

-- so reads the code, which takes slot 0 in the place of one out of the front
pub slot_read : (f : List Edge) (k i : ℕ) (e : Edge) → i ≡ cond (ltb k 128) k 0 → e ≡ cond (ltb k 128) (get_or f i blank) unused → e ≡ edge f k
slot_read f k i e p q = q ∙ ap (λ (m : ℕ). cond (ltb k 128) (get_or f m blank) unused) p ∙ edge_read f k
