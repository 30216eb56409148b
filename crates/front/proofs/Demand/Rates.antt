-- Where the directions and normals of the live edges are small, none of them shrinks infinitely fast.
use lib.Ieee
use mathlib.Core.Path.{◌≡◌, refl, subst}
use mathlib.Core.Bool.{Bool, true, false, cond}
use mathlib.Core.List.{List}
use Prim.Native.Nat.{ℕ, suc, ◌+◌, ◌*◌, ◌^◌, ◌≤◌}
use native.Mathlib.Omega.{arith}
use native.Mathlib.Nat.{le_trans, le_of_eq, le_of_mul-le-mul_right}
use borrow.Author.Tests.{ltb-false}
use lib.Ieee.{Float, nan, inf, fin, lt, up, down}
use lib.Ieee.Fits.{down_pos}
use Rattle.plane.specs.declared.PlanarPoint.{PlanarPoint}
use Rattle.front.specs.declared.Line.{Line}
use Rattle.front.specs.declared.Edge.{Edge}
use Rattle.front.specs.declared.Moving.{Moving}
use Rattle.front.specs.declared.Length.{Length}
use Rattle.std.specs.Prelude.{Option, None, Some}
use Rattle.math.specs.Number
use Rattle.math.specs.Number.{add, div, one}
use Rattle.front.specs.Thresholds.{opposite}
use Rattle.plane.specs.Plane.{sub, dot}
use Rattle.front.specs.Edges.{edge, edge_line, vertex_by, vertex_of, vertex, length_to, length_from, edge_length}
use Rattle.front.specs.Lines.{direction, normal, velocity_by, velocity}
use Rattle.front.specs.Links.{links}
use Rattle.front.specs.Velocity.{LeftNormal}
use Rattle.front.proofs.Demand.Rings.{Ring}
use Rattle.front.proofs.Demand.Links.{RingsOf, live_next, live_prev}
use Rattle.front.proofs.Demand.Views.{alive_of}
use Rattle.front.proofs.Demand.Lines.{Lined}
use Rattle.front.proofs.Demand.Search.{Rates}
use Rattle.front.proofs.Demand.Small.{Small, Least, wider, add_small, sub_small, mul_small, div_small}

-- the lines that loading makes: small, and the normal turned left from the direction
pub record Bounded (l : Line) : Type 0 where
  pub u0 : Small 1 l.u0
  pub u1 : Small 1 l.u1
  pub n0 : Small 1 l.n0
  pub n1 : Small 1 l.n1
  pub left : LeftNormal l

pub record SmallPoint (k : ℕ) (p : PlanarPoint) : Type 0 where
  pub east : Small k p.east
  pub north : Small k p.north

pub dot_small : (j k : ℕ) (a b : PlanarPoint) → suc (j + k) ≤ 1023 → SmallPoint j a → SmallPoint k b → Small (suc (j + k)) (dot a b)
unfolding dot
dot_small j k a b h u v =
    add_small (j + k) (Number.mul a.east b.east) (Number.mul a.north b.north) h
    (mul_small j k a.east b.east (omega arith) u.east v.east)
    (mul_small j k a.north b.north (omega arith) u.north v.north)

one_small : Small 0 one
unfolding lib.Ieee.of_bits
one_small = omega arith

more_than : (d : ℕ) → d * 2 ^ 52 ≤ 0x119799812dea11 * 1 * d
more_than d = omega arith

parts : (x : ℕ) → x * 2 ^ 92 ≡ x * 2 ^ 40 * 2 ^ 52
parts x = omega arith

-- what is not below the threshold is above 2 ^ -40
above : (k : ℕ) (x : Float) → Small k x → lt x opposite ≡ false → Least 40 x
unfolding lt lib.Ieee.of_bits
above k nan h q = h
above k (inf s) h q = h
above k (fin true n d) h q = absurd (omega (arith, ltb-false 0 (n * up d * 2 ^ 92 + 0x119799812dea11 * 1 * down d) q, down_pos d))
above k (fin false n d) h q =
    le_of_mul-le-mul_right {k = 2 ^ 52}
    (le_trans (more_than (down d)) (le_trans (ltb-false (n * up d * 2 ^ 92) (0x119799812dea11 * 1 * down d) q) (le_of_eq (parts (n * up d)))))
    (omega arith)

-- ---- velocities

abbrev PlaceIs : Option PlanarPoint → Type 0
PlaceIs None = Unit {0}
PlaceIs (Some v) = SmallPoint 42 v

velocity_small : (a b : Line) → Bounded a → Bounded b → PlaceIs (velocity a b)
unfolding velocity velocity_by
velocity_small a b u v = go (lt scale opposite) refl
  where
    scale : Float
    scale = add one (dot (normal a) (normal b))

    scale_small : Small 4 scale
    scale_small = add_small 3 one (dot (normal a) (normal b)) (omega arith) (wider 0 3 one (omega arith) one_small)
        (dot_small 1 1 (normal a) (normal b) (omega arith) (record { east = u.n0; north = u.n1 }) (record { east = v.n0; north = v.n1 }))

    go : (o : Bool) → lt scale opposite ≡ o → PlaceIs (cond o None (Some (record { east = div (add a.n0 b.n0) scale; north = div (add a.n1 b.n1) scale })))
    go true q = tt
    go false q = record {
      east = div_small 40 2 (add a.n0 b.n0) scale (omega arith) (add_small 1 a.n0 b.n0 (omega arith) u.n0 v.n0) (above 4 scale scale_small q);
      north = div_small 40 2 (add a.n1 b.n1) scale (omega arith) (add_small 1 a.n1 b.n1 (omega arith) u.n1 v.n1) (above 4 scale scale_small q);
    }

abbrev VertexIs : Option Moving → Type 0
VertexIs None = Unit {0}
VertexIs (Some m) = SmallPoint 42 m.velocity

by_small : (e : Edge) (t : Float) (p : Option PlanarPoint) → PlaceIs p → VertexIs (vertex_by e t p)
unfolding vertex_by
by_small e t None h = tt
by_small e t (Some v) h = h

module _ (f : List Edge) (l : Lined (λ i. Bounded) f) (rs : List Ring) (R : RingsOf (links f) rs) (t : Float) where
  bounded : (x : ℕ) → (links f).live x ≡ 1 → Bounded (edge_line (edge f x))
  bounded x a = l.lines x (alive_of (edge f x).alive a)

  vertex_small : (x : ℕ) → (links f).live x ≡ 1 → VertexIs (vertex f x t)
  unfolding vertex vertex_of
  vertex_small x a = by_small (edge f x) t (velocity (edge_line (edge f (edge f x).previous)) (edge_line (edge f x)))
      (velocity_small (edge_line (edge f (edge f x).previous)) (edge_line (edge f x)) (bounded (edge f x).previous (live_prev (links f) rs R x a)) (bounded x a))

  abbrev LengthIs : Option Length → Type 0
  LengthIs None = Unit {0}
  LengthIs (Some l) = Small 45 l.rate

  to_small : (e : Edge) → Bounded (edge_line e) → (from : Moving) → SmallPoint 42 from.velocity → (to : Option Moving) → VertexIs to → LengthIs (length_to e from to)
  unfolding length_to sub
  to_small e b from h None k = tt
  to_small e b from h (Some to) k =
      let v : PlanarPoint = from.velocity in
      let w : PlanarPoint = to.velocity in
      dot_small 1 43 (direction (edge_line e)) (sub w v) (omega arith) (record { east = b.u0; north = b.u1 })
      (record { east = sub_small 42 w.east v.east (omega arith) k.east h.east; north = sub_small 42 w.north v.north (omega arith) k.north h.north })

  from_small : (x : ℕ) → (links f).live x ≡ 1 → (v : Option Moving) → VertexIs v → LengthIs (length_from f (edge f x) t v)
  unfolding length_from
  from_small x a None h = tt
  from_small x a (Some m) h =
      to_small (edge f x) (bounded x a) m h (vertex f (edge f x).next t) (vertex_small (edge f x).next (live_next (links f) rs R x a))

  length_small : (x : ℕ) → (links f).live x ≡ 1 → LengthIs (edge_length f x t)
  unfolding edge_length
  length_small x a = from_small x a (vertex f x t) (vertex_small x a)

  pub rates_bounded : Rates f t
  rates_bounded x live l q d = subst (Small 45) d (subst LengthIs q (length_small x live))
