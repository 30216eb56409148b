-- A shape that passes question 21 has small coordinates, and so its lines have small directions.
use lib.Ieee
use mathlib.Core.Path.{◌≡◌, refl, sym, subst}
use mathlib.Core.Bool.{Bool, true, false, cond, ◌&&◌, ◌||◌, false≢true}
use mathlib.Core.List.{List}
use mathlib.Mathlib.Data.Bool.Basic.{and_elim_left, and_elim_right}
use Prim.Native.Nat.{ℕ, suc, ◌+◌, ◌-◌, ◌*◌, ◌^◌, ◌≤◌, ◌<◌}
use native.Mathlib.Omega.{arith}
use lib.Dec.{leb, ltb, eqb}
use borrow.Author.Tests.{leb-true, ltb-true, eqb-true}
use lib.ListN.{get_or}
use lib.Ieee.{Float, nan, inf, fin, lt, le, eq, up, down}
use Rattle.plane.specs.declared.PlanarPoint.{PlanarPoint}
use Rattle.front.specs.declared.Line.{Line}
use Rattle.std.specs.Prelude.{Option, None, Some}
use Rattle.math.specs.Number.{div, zero_float, abs}
use Rattle.ring_check.specs.Checks.{max_coordinate}
use Rattle.hypotenuse.specs.Hypot.{hypot}
use Rattle.plane.specs.Plane.{sub}
use Rattle.ring.specs.Ring.{vertex_at, following}
use Rattle.ring.proofs.Vertices.{following_lt}
use Rattle.outline.specs.Outlines.{in_range_step, in_range, proper}
use Rattle.front.specs.Lines.{line_along, line_by, line_of, through}
use Rattle.front.specs.Loading.{load_vertex}
use Rattle.base.proofs.Laws.{rounds_keep}
use Rattle.base.proofs.Choices.{by_cases}
use Rattle.front.proofs.Demand.Small.{Small, neg_small, sub_small}
use Rattle.front.proofs.Demand.Rates.{Bounded, SmallPoint}
use Rattle.front.proofs.Demand.Unit.{hypot_east, hypot_north, div_long}

-- ---- a line through two points

abbrev ThroughIs : Option Line → Type 0
ThroughIs None = Unit {0}
ThroughIs (Some l) = Bounded l

along_bounded : (p : PlanarPoint) (x y : Float) → Small 1 x → Small 1 y → Bounded (line_along p x y)
unfolding line_along
along_bounded p x y h k = record { u0 = h; u1 = k; n0 = neg_small 1 y k; n1 = h; left = (refl, refl) }

by_bounded : (p : PlanarPoint) (k : ℕ) (x y : Float) → Small k x → Small k y → ThroughIs (line_by p (record { east = x; north = y }) (hypot x y))
unfolding line_by
by_bounded p k nan y h i = absurd h
by_bounded p k (inf s) y h i = absurd h
by_bounded p k (fin s m e) nan h i = absurd i
by_bounded p k (fin s m e) (inf t) h i = absurd i
by_bounded p k (fin s m e) (fin t n d) h i = go (le l zero_float) refl
  where
    l : Float
    l = hypot (fin s m e) (fin t n d)

    go : (b : Bool) → le l zero_float ≡ b → ThroughIs (cond b None (Some (line_along p (div (fin s m e) l) (div (fin t n d) l))))
    go true q = tt
    go false q = along_bounded p (div (fin s m e) l) (div (fin t n d) l) (div_long s m e l (hypot_east s m e t n d) q) (div_long t n d l (hypot_north s m e t n d) q)

through_is : (k : ℕ) (a b : PlanarPoint) → suc k ≤ 1023 → SmallPoint k a → SmallPoint k b → ThroughIs (through a b)
unfolding through line_of sub
through_is k a b h u v =
    by_bounded a (suc k) (sub b a).east (sub b a).north
    (sub_small k b.east a.east h v.east u.east) (sub_small k b.north a.north h v.north u.north)

pub through_bounded : (k : ℕ) (a b : PlanarPoint) → suc k ≤ 1023 → SmallPoint k a → SmallPoint k b → (l : Line) → through a b ≡ Some l → Bounded l
through_bounded k a b h u v l q = subst ThroughIs q (through_is k a b h u v)

-- ---- coordinates

within_small : (x : Float) → le (abs x) max_coordinate ≡ true → Small 30 x
unfolding le lt eq abs lib.Ieee.of_bits
within_small nan q = absurd (false≢true q)
within_small (inf s) q = absurd (false≢true q)
within_small (fin s m e) q = go (ltb a b) refl (eqb a b) refl q
  where
    a : ℕ
    a = m * up e * 1

    b : ℕ
    b = 1953125 * 2 ^ 9 * down e

    go : (x : Bool) → ltb a b ≡ x → (y : Bool) → eqb a b ≡ y → (x || (y && true)) ≡ true → m * up e ≤ 2 ^ 30 * down e
    go true p y r z = omega (arith, ltb-true a b p)
    go false p true r z = omega (arith, eqb-true a b r)
    go false p false r z = absurd (false≢true z)

coordinates : (ps : List Float) (n : ℕ) → in_range ps n ≡ true → (i : ℕ) → i < 2 * n → Small 30 (get_or ps i nan)
unfolding in_range in_range_step
coordinates ps n q =
    rounds_keep (in_range_step ps) (λ k s. s ≡ true → (i : ℕ) → i < k → Small 30 (get_or ps i nan)) true (λ z i h. absurd (omega arith))
    (λ k s h z i l. by_cases i k
    (λ e. subst (λ (j : ℕ). Small 30 (get_or ps j nan)) (sym e) (within_small (get_or ps k nan) (and_elim_right s (le (abs (get_or ps k nan)) max_coordinate) z)))
    (λ d. h (and_elim_left s (le (abs (get_or ps k nan)) max_coordinate) z) i (omega arith)))
    (2 * n) q

pub vertices : (ps : List Float) (n : ℕ) → in_range ps n ≡ true → (j : ℕ) → j < n → SmallPoint 30 (vertex_at ps j)
unfolding vertex_at
vertices ps n q j h = record { east = coordinates ps n q (2 * j) (omega arith); north = coordinates ps n q (2 * j + 1) (omega arith) }

-- ---- the vertices as they are loaded

loaded_small : (ps : List Float) (n : ℕ) (back : Bool) (origin : PlanarPoint) → in_range ps n ≡ true → SmallPoint 30 origin → (k : ℕ) → k < n → SmallPoint 31 (load_vertex ps n back origin k)
unfolding load_vertex sub
loaded_small ps n back origin q o k h = go back
  where
    at : (j : ℕ) → j < n → SmallPoint 31 (sub (vertex_at ps j) origin)
    at j l = record {
      east = sub_small 30 (vertex_at ps j).east origin.east (omega arith) (vertices ps n q j l).east o.east;
      north = sub_small 30 (vertex_at ps j).north origin.north (omega arith) (vertices ps n q j l).north o.north;
    }

    go : (b : Bool) → SmallPoint 31 (sub (vertex_at ps (cond b (n - 1 - k) k)) origin)
    go true = at (n - 1 - k) (omega arith)
    go false = at k h

-- what the loading of a ring owes
pub lines_sound : (ps : List Float) (c : ℕ) (back : Bool) (origin : PlanarPoint) → in_range ps c ≡ true → SmallPoint 30 origin
    → (k : ℕ) → k < c → (l : Line) → through (load_vertex ps c back origin k) (load_vertex ps c back origin (following c k)) ≡ Some l → Bounded l
lines_sound ps c back origin q o k h l e =
    through_bounded 31 (load_vertex ps c back origin k) (load_vertex ps c back origin (following c k)) (omega arith)
    (loaded_small ps c back origin q o k h) (loaded_small ps c back origin q o (following c k) (following_lt c k h)) l e

-- ---- question 21

pub record Proper (room : ℕ) (ps : List Float) (n : ℕ) : Type 0 where
  pub three : 3 ≤ n
  pub fits : n ≤ room
  pub range : in_range ps n ≡ true

pub proper_is : (room : ℕ) (ps : List Float) (n : ℕ) → proper room ps n ≡ true → Proper room ps n
unfolding proper
proper_is room ps n q = record {
  three = leb-true 3 n (and_elim_left (leb 3 n) (leb n room && in_range ps n) q);
  fits = leb-true n room (and_elim_left (leb n room) (in_range ps n) (and_elim_right (leb 3 n) (leb n room && in_range ps n) q));
  range = and_elim_right (leb n room) (in_range ps n) (and_elim_right (leb 3 n) (leb n room && in_range ps n) q);
}
