-- An edge that lies north or south of the point changes nothing: the ray does not pass it, and the point is not in its box. Assumes nothing.
use mathlib.Core.Path.{◌≡◌, refl, sym, ap, ◌∙◌}
use mathlib.Core.Bool.{Bool, true, false, cond, ◌&&◌, ◌||◌, and-false}
use mathlib.Core.List.{List}
use mathlib.Mathlib.Data.Bool.Basic.{and_elim_left, and_elim_right}
use Prim.Native.Nat.{ℕ, ◌+◌, ◌<◌}
use native.Mathlib.Omega.{arith}
use lib.Ieee.{Float, lt, le, eq, unlike}
use Rattle.plane.specs.declared.PlanarPoint.{PlanarPoint}
use Rattle.plane.specs.declared.Containment.{Containment}
use Rattle.plane.specs.declared.Containment.TheVariants.{Inside, OnBoundary, Outside}
use Rattle.math.proofs.Order.{under_not_over, one_way}
use Rattle.math.specs.Number.{fmin, fmax}
use Rattle.turn.specs.declared.Turn.{Turn}
use Rattle.turn.specs.Turns.{turn, is_straight}
use Rattle.segment.specs.Segments.{touches, within_box}
use Rattle.ring.specs.Ring.{vertex_at, edge_end}
use Rattle.ring_contain.specs.Contains.{beside, passes, flipped, unless_on, contains_edge, contains_step, ring_contains}
use Rattle.base.specs.Loop.{rounds}
use Rattle.base.proofs.Laws.{next_round, stays_to}

-- ---- the box

above_both : (p a b : Float) → lt p a ≡ true → lt p b ≡ true → le (fmin a b) p ≡ false
unfolding fmin
above_both p a b x y = go (lt a b) (eq b b)
  where
    go : (t u : Bool) → le (cond t a (cond u b a)) p ≡ false
    go true u = under_not_over p a x
    go false true = under_not_over p b y
    go false false = under_not_over p a x

below_both : (p a b : Float) → lt a p ≡ true → lt b p ≡ true → le p (fmax a b) ≡ false
unfolding fmax
below_both p a b x y = go (lt b a) (eq b b)
  where
    go : (t u : Bool) → le p (cond t a (cond u b a)) ≡ false
    go true u = under_not_over a p x
    go false true = under_not_over b p y
    go false false = under_not_over a p x

-- by which of the two sides p is beside an edge
by_side : (P : Type 0) (a b p : Float) → beside a b p ≡ true → (lt p a ≡ true → lt p b ≡ true → P) → (lt a p ≡ true → lt b p ≡ true → P) → P
unfolding beside
by_side P a b p h south north = go (lt p a && lt p b) refl h
  where
    go : (t : Bool) → (lt p a && lt p b) ≡ t → (t || (lt a p && lt b p)) ≡ true → P
    go true e h = south (and_elim_left (lt p a) (lt p b) e) (and_elim_right (lt p a) (lt p b) e)
    go false e h = north (and_elim_left (lt a p) (lt b p) h) (and_elim_right (lt a p) (lt b p) h)

out_of_box : (w x y z : Bool) → (y && z) ≡ false → (w && (x && (y && z))) ≡ false
out_of_box true true y z h = h
out_of_box true false y z h = refl
out_of_box false x y z h = refl

beside_box : (a b p : PlanarPoint) → beside a.north b.north p.north ≡ true → within_box a b p ≡ false
unfolding within_box
beside_box a b p h = out_of_box (le (fmin a.east b.east) p.east) (le p.east (fmax a.east b.east)) (le (fmin a.north b.north) p.north) (le p.north (fmax a.north b.north))
    (by_side ((le (fmin a.north b.north) p.north && le p.north (fmax a.north b.north)) ≡ false) a.north b.north p.north h
    (λ x y. rw (above_both p.north a.north b.north x y) refl)
    (λ x y. rw (below_both p.north a.north b.north x y) (and-false (le (fmin a.north b.north) p.north))))

beside_touches : (d : Turn) (a b p : PlanarPoint) → beside a.north b.north p.north ≡ true → touches d a b p ≡ false
unfolding touches
beside_touches d a b p h = rw (beside_box a b p h) (and-false (is_straight d))

-- ---- the ray

beside_tests : (a b p : Float) → beside a b p ≡ true → unlike (lt p a) (lt p b) ≡ false
beside_tests a b p h = by_side (unlike (lt p a) (lt p b) ≡ false) a b p h (λ x y. rw (x, y) refl) (λ x y. rw (one_way a p x, one_way b p y) refl)

beside_passes : (a b p : PlanarPoint) → beside a.north b.north p.north ≡ true → passes a b p ≡ false
unfolding passes
beside_passes a b p h = rw (beside_tests a.north b.north p.north h) refl

-- ---- the step

beside_edge : (p a b : PlanarPoint) (s : Containment) → beside a.north b.north p.north ≡ true → contains_edge p a b s ≡ s
unfolding contains_edge
beside_edge p a b s h = rw (beside_touches (turn a b p) a b p h, beside_passes a b p h) refl

unless_same : (s : Containment) → unless_on s s ≡ s
unfolding unless_on
unless_same Inside = refl
unless_same OnBoundary = refl
unless_same Outside = refl

beside_step : (ps : List Float) (n k : ℕ) (p : PlanarPoint) (s : Containment) → beside (vertex_at ps k).north (edge_end ps n k).north p.north ≡ true → contains_step ps n p k s ≡ s
unfolding contains_step
beside_step ps n k p s h = ap (unless_on s) (beside_edge p (vertex_at ps k) (edge_end ps n k) s h) ∙ unless_same s

-- ---- the place of a point that is on no edge so far, by whether an odd number of edges was passed

unfoldable pub odd : Bool → Containment
odd i = cond i Inside Outside

pub first_odd : (ps : List Float) (n : ℕ) (p : PlanarPoint) → odd false ≡ rounds (contains_step ps n p) 0 Outside
unfolding odd rounds
first_odd ps n p = refl

unless_odd : (i : Bool) (x : Containment) → unless_on (odd i) x ≡ x
unfolding unless_on odd
unless_odd true x = refl
unless_odd false x = refl

flip : (i t : Bool) → cond t (flipped (odd i)) (odd i) ≡ odd (unlike i t)
unfolding flipped odd
flip true true = refl
flip true false = refl
flip false true = refl
flip false false = refl

-- one step, from a to b, which are the ends of the edge k
module _ (ps : List Float) (n k : ℕ) (p a b : PlanarPoint) (i : Bool) (e : a ≡ vertex_at ps k) (h : b ≡ edge_end ps n k) where
  pub left_out : (t : Bool) → t ≡ beside a.north b.north p.north → t ≡ true → odd i ≡ contains_step ps n p k (odd i)
  left_out t f g = sym (beside_step ps n k p (odd i) (rw (← e, ← h, ← f) g))

  pub counted : (t r : Bool) → t ≡ touches (turn a b p) a b p → t ≡ false → r ≡ passes a b p → odd (unlike i r) ≡ contains_step ps n p k (odd i)
  unfolding contains_step contains_edge
  counted t r f g q = rw (← e, ← h, ← f, g, ← q) (sym (unless_odd i (cond r (flipped (odd i)) (odd i)) ∙ flip i r))

  pub met : touches (turn a b p) a b p ≡ true → contains_step ps n p k (odd i) ≡ OnBoundary
  unfolding contains_step contains_edge
  met t = rw (← e, ← h, t) (unless_odd i OnBoundary)

-- a point found on the boundary stays there
pub on_boundary :
    (ps : List Float) (n k : ℕ) (p a b : PlanarPoint) (i t : Bool) → a ≡ vertex_at ps k → b ≡ edge_end ps n k → k < n →
    odd i ≡ rounds (contains_step ps n p) k Outside → t ≡ touches (turn a b p) a b p → t ≡ true → OnBoundary ≡ ring_contains ps n p
unfolding ring_contains contains_step unless_on
on_boundary ps n k p a b i t e h l so_far f g =
    sym
    (stays_to (contains_step ps n p) Outside OnBoundary (k + 1) n (omega arith)
    (next_round (contains_step ps n p) k Outside ∙ ap (contains_step ps n p k) (sym so_far) ∙ met ps n k p a b i e h (sym f ∙ g)) (λ m. refl))
