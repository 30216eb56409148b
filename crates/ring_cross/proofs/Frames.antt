-- The box of a ring, vertex after vertex, and what lies beside it. Assumes nothing.
use Prim.Native.Nat.{ℕ, ◌+◌, ◌≤◌, ◌<◌}
use native.Mathlib.Nat.{le_antisymm}
use native.Mathlib.Omega.{arith}
use mathlib.Core.Path.{◌≡◌, sym, subst, ◌∙◌}
use mathlib.Core.Bool.{Bool, true}
use mathlib.Core.List.{List}
use lib.Ieee.{Float}
use Rattle.base.proofs.Choices.{by_cases}
use Rattle.plane.specs.declared.PlanarPoint.{PlanarPoint}
use Rattle.turn.specs.Turns.{DoublePoint}
use Rattle.segment.specs.Boxes.{low, high, boxes_apart, Within, PassedOver}
use Rattle.segment.proofs.Apart.{taken_in, still_in, boxes_no_meet}
use Rattle.segment.proofs.Symmetric.{meet_symmetric}
use Rattle.ring.specs.Ring.{vertex_at, edge_end}
use Rattle.ring.proofs.Vertices.{at_ends}
use Rattle.std.specs.Prelude.{None}
use Rattle.ring_cross.specs.Pair.{edge_pair}
use Rattle.ring_cross.specs.LeftOut.{Framed, Missed, MissedBy}
use Rattle.ring_cross.proofs.Walks.{pair_missed}

pub no_vertex : (ps : List Float) (l h : PlanarPoint) → Framed ps 0 l h
no_vertex ps l h = record { doubles = λ k u. absurd (omega arith); within = λ k u. absurd (omega arith) }

-- one vertex more
pub vertex_more : (ps : List Float) (n : ℕ) (l h v x y : PlanarPoint) → Framed ps n l h → v ≡ vertex_at ps n → DoublePoint v → x ≡ low v l → y ≡ high v h → Framed ps (n + 1) x y
vertex_more ps n l h v x y f e d a b = rw (a, b) (record {
  doubles = λ k u. by_cases k n (λ q. subst (λ (j : ℕ). DoublePoint (vertex_at ps j)) (sym q) (subst DoublePoint e d)) (λ q. f.doubles k (omega arith));
  within = λ k u. by_cases k n
      (λ q. subst (λ (j : ℕ). Within (low v l) (high v h) (vertex_at ps j)) (sym q) (subst (Within (low v l) (high v h)) e (taken_in l h v)))
      (λ q. still_in l h v (vertex_at ps k) (f.within k (omega arith)));
})

pub all_vertices : (ps : List Float) (k n : ℕ) (l h : PlanarPoint) → k ≤ n → n ≤ k → Framed ps k l h → Framed ps n l h
all_vertices ps k n l h a b f = subst (λ (j : ℕ). Framed ps j l h) (le_antisymm a b) f

-- an edge that is passed over
pub missed_by : (qs : List Float) (m : ℕ) (l h : PlanarPoint) (k : ℕ) {b1 b2 : PlanarPoint} {r : Bool} → b1 ≡ vertex_at qs k → b2 ≡ edge_end qs m k → PassedOver r l h b1 b2 → r ≡ true → MissedBy qs m l h k
missed_by qs m l h k e f t y a1 a2 d1 d2 w1 w2 = rw (← e, ← f) (t y a1 a2 d1 d2 w1 w2)

-- an edge of a ring in its box, and what lies beside the box
module _ (ps : List Float) (n : ℕ) (l h : PlanarPoint) (f : Framed ps n l h) (i : ℕ) (u : i < n) where
  start_double : DoublePoint (vertex_at ps i)
  start_double = f.doubles i u

  end_double : DoublePoint (edge_end ps n i)
  end_double = at_ends DoublePoint ps n f.doubles i u

  start_within : Within l h (vertex_at ps i)
  start_within = f.within i u

  end_within : Within l h (edge_end ps n i)
  end_within = at_ends (Within l h) ps n f.within i u

  -- an edge of the other ring that was left out
  pub left_out : (qs : List Float) (m k : ℕ) (a1 a2 : PlanarPoint) → a1 ≡ vertex_at ps i → a2 ≡ edge_end ps n i → MissedBy qs m l h k → Missed qs m a1 a2 k
  left_out qs m k a1 a2 x y t = rw (x, y) (t (vertex_at ps i) (edge_end ps n i) start_double end_double start_within end_within)

  -- a segment that was passed over, which lies beside this ring's box
  beside_ring : (a1 a2 : PlanarPoint) (r : Bool) → PassedOver r l h a1 a2 → r ≡ true → Missed ps n a1 a2 i
  beside_ring a1 a2 r t e =
      meet_symmetric.exchanged (vertex_at ps i) (edge_end ps n i) a1 a2 ∙ t e (vertex_at ps i) (edge_end ps n i) start_double end_double start_within end_within

-- an edge of the outer walk that is passed over
pub row_beside : (qs : List Float) (m i : ℕ) (l h a1 a2 : PlanarPoint) {r : Bool} → Framed qs m l h → PassedOver r l h a1 a2 → r ≡ true → edge_pair qs m i a1 a2 ≡ None
row_beside qs m i l h a1 a2 {r} f t e = pair_missed qs m i a1 a2 (λ k u. beside_ring qs m l h f k u a1 a2 r t e)

-- rings in boxes apart
pub rings_apart : (ps : List Float) (n : ℕ) (qs : List Float) (m : ℕ) (l h l2 h2 : PlanarPoint) → Framed ps n l h → Framed qs m l2 h2 → (t : Bool) → t ≡ boxes_apart l h l2 h2 → t ≡ true →
    (i k : ℕ) → i < n → k < m → Missed qs m (vertex_at ps i) (edge_end ps n i) k
rings_apart ps n qs m l h l2 h2 f g t e b i k u v =
    boxes_no_meet l h l2 h2 (vertex_at ps i) (edge_end ps n i) (vertex_at qs k) (edge_end qs m k)
    (start_double ps n l h f i u) (end_double ps n l h f i u) (start_double qs m l2 h2 g k v) (end_double qs m l2 h2 g k v)
    (start_within ps n l h f i u) (end_within ps n l h f i u) (start_within qs m l2 h2 g k v) (end_within qs m l2 h2 g k v) (sym e ∙ b)
