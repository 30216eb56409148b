-- The least gap of two rings is the least of all gaps between them, so it does not matter which is named first. Assumes nothing.
use Prim.Native.Nat.{ℕ, zero, suc, ◌+◌, ◌<◌}
use native.Mathlib.Omega.{arith}
use mathlib.Core.Logic.{◌⊎◌, inl, inr}
use mathlib.Core.Path.{◌≡◌, refl, sym, ap, ◌∙◌, subst}
use mathlib.Core.Bool.{Bool, true, false, cond}
use mathlib.Core.List.{List}
use lib.Dec.{T}
use lib.Ieee.{Float, binary64, fits, lt, is_nan}
use lib.Ieee.Fits.{sub-fits}
use Rattle.hypotenuse.proofs.Correct.{hypot_is_nearest}
use Rattle.math.specs.Number.{abs, infinity, fmin}
use Rattle.math.proofs.Laws.{hypot_unsigned}
use Rattle.plane.specs.declared.PlanarPoint.{PlanarPoint}
use Rattle.plane.specs.Plane.{sub}
use Rattle.plane.specs.Points.{length_of}
use Rattle.segment.specs.Segments.{closest_on_segment}
use Rattle.ring.specs.Ring.{vertex_at, edge_end}
use Rattle.base.specs.Loop.{rounds}
use Rattle.ring_near.specs.declared.Nearest.{Nearest}
use Rattle.ring_near.specs.Near.{nearer, gap_to, nearest_step, none_yet, nearest}
use Rattle.ring_gap.specs.Gap.{clearance_step, least_gap, least_between}
use Rattle.ring_gap.specs.Blocks.{gap_between, edge_gap, FromEdges, FromVertices, Least, taken}
use Rattle.ring_gap.specs.Between.{BetweenTells}
use Rattle.ring_gap.proofs.Alike.{Unsigned}
use Rattle.ring_gap.proofs.LeastOf.{least_join, least_lesser, least_unique}
use Rattle.ring_gap.proofs.Walks.{edges_none, edges_on, vertex_split, vertex_before, vertex_last, vertices_none}

-- ---- the definition's walks

-- the gap of the nearer of two
nearer_gap : (c s : Nearest) → (nearer c s).gap ≡ taken s.gap c.gap
unfolding nearer taken
nearer_gap c s = go (lt c.gap s.gap)
  where
    go : (b : Bool) → (cond b c s).gap ≡ cond b c.gap s.gap
    go true = refl
    go false = refl

one_more : (k : ℕ) → k + 1 ≡ suc k
one_more k = omega arith

module _ (ps : List Float) (n : ℕ) (q : PlanarPoint) where
  nearest_so_far : (k : ℕ) → Least (FromEdges ps n 0 k q) infinity (rounds (nearest_step ps n q) k (none_yet q)).gap
  unfolding rounds nearest_step gap_between
  nearest_so_far zero = edges_none ps n 0 q infinity
  nearest_so_far (suc k) =
      let s = rounds (nearest_step ps n q) k (none_yet q) in
      subst (λ (j : ℕ). Least (FromEdges ps n 0 j q) infinity (nearest_step ps n q k s).gap) (one_more k)
      (edges_on ps n 0 q infinity k s.gap (omega arith) (nearest_so_far k) (vertex_at ps k) (edge_end ps n k) (nearest_step ps n q k s).gap refl refl
      (nearer_gap (gap_to q (closest_on_segment q (vertex_at ps k) (edge_end ps n k))) s))

  nearest_is : Least (FromEdges ps n 0 n q) infinity (nearest ps n q).gap
  unfolding nearest
  nearest_is = nearest_so_far n

module _ (ps : List Float) (n : ℕ) (qs : List Float) where
  gaps_so_far : (i : ℕ) → Least (FromVertices ps n 0 n qs i) infinity (rounds (clearance_step ps n qs) i infinity)
  unfolding rounds clearance_step
  gaps_so_far zero = vertices_none ps n 0 n qs infinity
  gaps_so_far (suc i) =
      let s = rounds (clearance_step ps n qs) i infinity in
      let g = (nearest ps n (vertex_at qs i)).gap in
      subst (λ (j : ℕ). Least (FromVertices ps n 0 n qs j) infinity (fmin s g)) (one_more i)
      (least_lesser (FromVertices ps n 0 n qs i) (FromEdges ps n 0 n (vertex_at qs i)) (FromVertices ps n 0 n qs (i + 1))
      (vertex_split ps n 0 n qs i) (vertex_before ps n 0 n qs i) (vertex_last ps n 0 n qs i) s g (gaps_so_far i) (nearest_is ps n (vertex_at qs i)))

  gaps_are : (m : ℕ) → Least (FromVertices ps n 0 n qs m) infinity (least_gap ps n qs m)
  unfolding least_gap
  gaps_are m = gaps_so_far m

-- ---- from both sides

-- x is a gap of a vertex of either ring from an edge of the other
abbrev Either : List Float → ℕ → List Float → ℕ → Float → Type 0
Either ps n qs m x = FromVertices ps n 0 n qs m x ⊎ FromVertices qs m 0 m ps n x

pub both_is : (ps : List Float) (n : ℕ) (qs : List Float) (m : ℕ) → Least (Either ps n qs m) infinity (least_between ps n qs m)
unfolding least_between
both_is ps n qs m =
    least_lesser (FromVertices ps n 0 n qs m) (FromVertices qs m 0 m ps n) (Either ps n qs m) (λ x p. p) (λ x p. inl p) (λ x p. inr p)
    (least_gap ps n qs m) (least_gap qs m ps n) (gaps_are ps n qs m) (gaps_are qs m ps n)

-- ---- gaps are doubles without a sign
pub gap_plain : (q a b : PlanarPoint) → abs (gap_between q a b) ≡ gap_between q a b
unfolding gap_between gap_to length_of
gap_plain q a b = hypot_unsigned _ _

gap_double : (q a b : PlanarPoint) → T (fits binary64 (gap_between q a b))
unfolding gap_between gap_to length_of sub
gap_double q a b =
    let z = closest_on_segment q a b in
    hypot_is_nearest.double _ _ (sub-fits binary64 z.east q.east) (sub-fits binary64 z.north q.north)

from_unsigned : (ps : List Float) (n : ℕ) (qs : List Float) (m : ℕ) (x : Float) → FromVertices ps n 0 n qs m x → is_nan x ≡ false → Unsigned x
unfolding edge_gap
from_unsigned ps n qs m x p h =
    let e = p.gap.is in
    subst Unsigned (sym e) (record { double = gap_double _ _ _; plain = gap_plain _ _ _; number = sym (ap is_nan e) ∙ h })

either_unsigned : (ps : List Float) (n : ℕ) (qs : List Float) (m : ℕ) (x : Float) → Either ps n qs m x → is_nan x ≡ false → Unsigned x
either_unsigned ps n qs m x (inl p) = from_unsigned ps n qs m x p
either_unsigned ps n qs m x (inr p) = from_unsigned qs m ps n x p

-- ---- what the code's two walks come to
pub walks_are :
    (ps : List Float) (n : ℕ) (qs : List Float) (m : ℕ) (top r t : Float) → top ≡ infinity → Least (FromVertices ps n 0 n qs m) top r → Least (FromVertices qs m 0 m ps n) r t →
    t ≡ least_between ps n qs m
walks_are ps n qs m top r t e w v =
    let both = least_join (FromVertices ps n 0 n qs m) (FromVertices qs m 0 m ps n) (Either ps n qs m) (λ x p. p) (λ x p. inl p) (λ x p. inr p) top r t w v in
    least_unique (Either ps n qs m) (either_unsigned ps n qs m) t (least_between ps n qs m) (subst (λ (s : Float). Least (Either ps n qs m) s t) e both) (both_is ps n qs m)

-- ---- the theorem
turned : (P Q : Float → Type 0) (x : Float) → P x ⊎ Q x → Q x ⊎ P x
turned P Q x (inl p) = inr p
turned P Q x (inr q) = inl q

least_turned : (P Q : Float → Type 0) (s r : Float) → Least (λ (x : Float). P x ⊎ Q x) s r → Least (λ (x : Float). Q x ⊎ P x) s r
least_turned P Q s r l = record {
  start = l.start;
  each = λ x h. l.each x (turned Q P x h);
  one = elim l.one [ inl e ↦ inl e | inr h ↦ inr (turned P Q r h.0, h.1) ];
}

pub between_tells : BetweenTells
between_tells = record {
  of_second = λ ps n qs m i k l h. (both_is ps n qs m).each _ (inl (gap_of ps n qs m i k l h));
  of_first = λ ps n qs m i k l h. (both_is ps n qs m).each _ (inr (gap_of qs m ps n i k l h));
  one = λ ps n qs m. elim (both_is ps n qs m).one [
    | inl e ↦ inl e
    | inr h ↦ inr h.0
  ];
  either_way = λ ps n qs m.
      least_unique (Either ps n qs m) (either_unsigned ps n qs m) (least_between ps n qs m) (least_between qs m ps n) (both_is ps n qs m)
      (least_turned (FromVertices qs m 0 m ps n) (FromVertices ps n 0 n qs m) infinity (least_between qs m ps n) (both_is qs m ps n));
}
  where
    gap_of : (ps : List Float) (n : ℕ) (qs : List Float) (m i k : ℕ) → i < m → k < n → FromVertices ps n 0 n qs m (edge_gap ps n k (vertex_at qs i))
    gap_of ps n qs m i k l h = record { vertex = i; within = l; gap = record { edge = k; after = omega arith; before = h; is = refl } }
