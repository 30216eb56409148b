-- A walk that ends at the first edge that falls short, and the side and gap of one vertex. Assumes nothing.
use Prim.Native.Nat.{ℕ, ◌+◌, ◌≤◌, ◌<◌}
use mathlib.Core.Path.{◌≡◌, refl, sym, ap, ◌∙◌, subst}
use mathlib.Core.Bool.{Bool, true, false, not, ◌&&◌}
use mathlib.Core.List.{List}
use lib.Dec.{T}
use lib.Ieee.{Float, binary64, lt, le, eq, fits}
use lib.Ieee.Fits.{sub-fits}
use Rattle.base.specs.Loop.{rounds}
use Rattle.base.proofs.Laws.{ends}
use Rattle.base.proofs.Tests.{found_at, none_yet}
use Rattle.plane.specs.declared.PlanarPoint.{PlanarPoint}
use Rattle.plane.specs.declared.Containment.{Containment}
use Rattle.plane.specs.declared.Containment.TheVariants.{Inside, OnBoundary, Outside}
use Rattle.math.specs.Number.{mul}
use Rattle.plane.specs.Plane.{sub, dot}
use Rattle.plane.specs.Points.{length_of}
use Rattle.segment.specs.Segments.{closest_on_segment}
use Rattle.ring.specs.Ring.{vertex_at, edge_end}
use Rattle.ring_contain.specs.Contains.{ring_contains}
use Rattle.ring_near.specs.Near.{nearest, clearly}
use Rattle.ring_near.proofs.Leads.{not_shorter}
use Rattle.offset.specs.Clear.{is_inside, is_outside, right_side}
use Rattle.offset_clear.specs.Gaps.{falls_short}
use Rattle.offset_clear.specs.Rings.{away, clear_by}
use Rattle.offset_clear.proofs.Folds.{short_step, gap_short, gap_long}

-- ---- the side of the source
pub side_inside : (outward : Bool) → not outward ≡ right_side outward Inside
unfolding right_side is_inside is_outside
side_inside true = refl
side_inside false = refl

pub side_on : (outward : Bool) → false ≡ right_side outward OnBoundary
unfolding right_side is_inside is_outside
side_on true = refl
side_on false = refl

pub side_outside : (outward : Bool) → outward ≡ right_side outward Outside
unfolding right_side is_inside is_outside
side_outside true = refl
side_outside false = refl

-- ---- the gap of one edge
module _ (p a b : PlanarPoint) (least : Float) (q v : PlanarPoint) where
  -- without a root: the square is clearly above
  pub far_edge : (w s : Float) (t : Bool) → T (fits binary64 least) → q ≡ closest_on_segment p a b → v ≡ sub q p → w ≡ dot v v →
      s ≡ mul least least → t ≡ clearly s w → t ≡ true → false ≡ falls_short p a b least
  unfolding falls_short sub
  far_edge w s t f eq ev ew es et h =
      sym (subst (λ (z : PlanarPoint). lt (length_of (sub z p)) least ≡ false) eq
      (not_shorter least (sub q p) f (sub-fits binary64 q.east p.east) (sub-fits binary64 q.north p.north)
      (ap (λ (z : PlanarPoint). clearly (mul least least) (dot z z)) (sym ev) ∙ ap (λ (z : Float). clearly z (dot v v)) (sym es) ∙ ap (clearly s) (sym ew) ∙ sym et ∙ h)))

  -- by the root
  pub edge_by_root : (g : Float) → q ≡ closest_on_segment p a b → v ≡ sub q p → g ≡ length_of v → lt g least ≡ falls_short p a b least
  unfolding falls_short
  edge_by_root g eq ev eg = ap (λ (z : Float). lt z least) (eg ∙ ap length_of (ev ∙ ap (λ (z : PlanarPoint). sub z p) eq))

-- ---- one edge of a ring after the other
module _ (ps : List Float) (n : ℕ) (p : PlanarPoint) (least : Float) (k : ℕ) where
  abbrev edge_short : ℕ → Bool
  edge_short j = falls_short p (vertex_at ps j) (edge_end ps n j) least

  pub edge_told : (a b : PlanarPoint) {r t : Bool} → a ≡ vertex_at ps k → b ≡ edge_end ps n k → r ≡ falls_short p a b least → r ≡ t → falls_short p (vertex_at ps k) (edge_end ps n k) least ≡ t
  edge_told a b e f h i = rw (← e, ← f) (sym h ∙ i)

  pub not_short : rounds (short_step ps n p least) k false ≡ false → falls_short p (vertex_at ps k) (edge_end ps n k) least ≡ false → rounds (short_step ps n p least) (k + 1) false ≡ false
  unfolding short_step
  not_short e h = none_yet (short_step ps n p least) edge_short (λ (j : ℕ) (s : Bool). refl) k e h

  pub short_at : rounds (short_step ps n p least) k false ≡ false → k < n → falls_short p (vertex_at ps k) (edge_end ps n k) least ≡ true → le least (nearest ps n p).gap ≡ false
  unfolding short_step
  short_at e l h = gap_short ps n p least (found_at (short_step ps n p least) edge_short (λ (j : ℕ) (s : Bool). refl) n k l h)

  pub none_short : k ≤ n → n ≤ k → rounds (short_step ps n p least) k false ≡ false → le least (nearest ps n p).gap ≡ eq least least
  unfolding short_step
  none_short l h e = gap_long ps n p least (sym (ends (short_step ps n p least) false false k n l h (sym e)))

-- ---- two questions, the second asked where the first says yes
pub and_right : (x y r : Bool) → x ≡ true → r ≡ y → r ≡ (x && y)
and_right x y r h e = rw h e

pub and_wrong : (x y : Bool) → x ≡ false → false ≡ (x && y)
and_wrong x y h = rw h refl

-- ---- side and gap of one vertex
module _ (foot outward : Bool) (least : Float) (ps : List Float) (n : ℕ) (p : PlanarPoint) (c : Containment) (r : Bool) (e : c ≡ ring_contains ps n p) (h : r ≡ right_side outward c) where
  side_told : {t : Bool} → r ≡ t → right_side outward (ring_contains ps n p) ≡ t
  side_told i = ap (right_side outward) (sym e) ∙ sym h ∙ i

  pub clear_right : r ≡ true → {g : Bool} → g ≡ le least (away foot ps n p) → g ≡ clear_by foot outward least ps n p
  unfolding clear_by
  clear_right i {g} k = and_right _ _ g (side_told i) k

  pub clear_wrong : r ≡ false → false ≡ clear_by foot outward least ps n p
  unfolding clear_by
  clear_wrong i = and_wrong _ _ (side_told i)
