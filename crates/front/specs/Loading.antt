-- offset.rs, `offset_rings`, its first loop: the rings of a shape are loaded into the front, edge by edge. Assumes nothing.
use Rattle.std.specs.Prelude.{ℕ, suc, ◌+◌, ◌-◌, Bool, true, cond, ◌≡◌, List, ltb, eqb, set, replicate, Float, Option, Some, None}
use Rattle.front.specs.declared.Edge.{Edge}
use Rattle.front.specs.declared.Loaded.{Loaded}
use Rattle.error.specs.declared.Refusal.TheVariants.{Granted, Slots, Collapses}
use Rattle.error.specs.declared.Refusal.{Refusal}
use Rattle.plane.specs.declared.PlanarPoint.{PlanarPoint}
use Rattle.front.specs.declared.Line.{Line}
use Rattle.front.specs.Edges.{unused}
use Rattle.plane.specs.Plane.{sub}
use Rattle.ring.specs.Ring.{vertex_at, following}
use Rattle.outline.specs.Outlines.{proper}
use Rattle.math.specs.Number.{zero_float}
use Rattle.front.specs.Lines.{through}
use Rattle.error.specs.Refusals.{granted}
use Rattle.base.specs.Loop.{rounds}

-- the front starts as 128 copies of `Edge::UNUSED`
unfoldable pub no_front : List Edge
no_front = replicate 128 unused

unfoldable pub loaded_nothing : Loaded
loaded_nothing = record { edges = no_front; used = 0; rings = 0; refusal = Granted }

unfoldable pub load_refused : Loaded → Refusal → Loaded
load_refused s r = record { edges = s.edges; used = s.used; rings = s.rings; refusal = r }

-- the closure `at`: vertex k of a ring that is walked forwards or backwards, relative to the origin, which is the first vertex of the shape
unfoldable pub load_vertex : List Float → ℕ → Bool → PlanarPoint → ℕ → PlanarPoint
load_vertex ps n back origin k = sub (vertex_at ps (cond back (n - 1 - k) k)) origin

-- edge k of a ring of n, whose first edge stands in the slot `first`
unfoldable pub loaded_edge : Line → ℕ → ℕ → ℕ → PlanarPoint → Edge
loaded_edge l first n k a =
    record {
      line = l;
      previous = first + cond (eqb k 0) (n - 1) (k - 1);
      next = first + following n k;
      alive = true;
      start = a;
      since
          = zero_float;
    }

-- is there a slot for one edge more?
unfoldable pub has_room : Loaded → Bool
has_room s = ltb s.used 128

-- edge by edge, a zero length (16) is asked before the room for that edge (15), which names 128 plus the edges of that ring still to load
unfoldable pub load_line : Float → ℕ → ℕ → ℕ → PlanarPoint → Loaded → Option Line → Loaded
load_line d first n k a s None = load_refused s (Collapses d)
load_line d first n k a s (Some l) =
    cond (has_room s)
    (record { edges = set s.edges s.used (loaded_edge l first n k a); used = s.used + 1; rings = s.rings; refusal = Granted })
    (load_refused s (Slots (s.used + (n - k))))

unfoldable pub load_edge : Float → ℕ → ℕ → ℕ → PlanarPoint → PlanarPoint → Loaded → Loaded
load_edge d first n k a b s = load_line d first n k a s (through a b)

unfoldable pub load_step : List Float → ℕ → Bool → PlanarPoint → Float → ℕ → ℕ → Loaded → Loaded
load_step ps n back origin d first k s =
    cond (granted s.refusal)
    (load_edge d first n k (load_vertex ps n back origin k) (load_vertex ps n back origin (following n k)) s)
    s

-- one ring more is begun
unfoldable pub ring_begun : Loaded → Loaded
ring_begun s = record { edges = s.edges; used = s.used; rings = s.rings + 1; refusal = s.refusal }

-- one ring of n vertices, into the slots after those in use
unfoldable pub load_ring : List Float → ℕ → Bool → PlanarPoint → Float → Loaded → Loaded
load_ring ps n back origin d s = rounds (load_step ps n back origin d s.used) n (ring_begun s)

-- ---- the fronts that loading makes

-- The loaded front of a shape that passes question 21, granted or refused: n edges in r rings, the outer one too, both as handed in. The
-- outer ring comes first, forwards, or backwards for an outset, and its first vertex is the origin; each hole is walked backwards.
pub data Loads (d : Float) : PlanarPoint → ℕ → ℕ → Loaded → Type 0 where
  outer : (ps : List Float) (n : ℕ) (back : Bool) → proper 128 ps n ≡ true →
      Loads d (vertex_at ps 0) n 1 (load_ring ps n back (vertex_at ps 0) d loaded_nothing)
  hole : {origin : PlanarPoint} {n r : ℕ} {l : Loaded} (ps : List Float) (c : ℕ) → proper 32 ps c ≡ true →
      Loads d origin n r l → Loads d origin (n + c) (suc r) (load_ring ps c true origin d l)

-- opens every definition above, for a proof that computes with all of them
unfoldable pub open_loading : Unit {0}
unfolding no_front loaded_nothing load_refused load_vertex loaded_edge has_room load_line load_edge load_step ring_begun load_ring
open_loading = tt
