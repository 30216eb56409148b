-- A ring as it was drawn and as it is stored: a closing repeat is dropped, and a ring that runs the wrong way is turned. What keeps the margin from
-- the stored edges keeps it from those that were drawn, and the largest coordinate is the same. Assumes nothing.
use Prim.Native.Nat.{ℕ, zero, suc, ◌+◌, ◌-◌, ◌*◌, ◌/◌, ◌%◌, ◌≤◌, ◌<◌}
use mathlib.Core.Path.{◌≡◌, refl, sym, ap, ◌∙◌, subst}
use mathlib.Core.Logic.{◌⊎◌, inl, inr}
use mathlib.Core.Bool.{Bool, true, false}
use mathlib.Core.List.{List}
use native.Mathlib.Nat.{le_trans, le_of_eq, div-add-mod}
use native.Mathlib.Omega.{arith}
use lib.ListN.{get_or}
use lib.Ieee.{Float, nan}
use Rattle.base.proofs.Choices.{by_cases}
use Rattle.plane.specs.declared.PlanarPoint.{PlanarPoint}
use Rattle.plane.specs.Plane.{same}
use Rattle.ring.specs.Ring.{vertex_at, following, edge_end, source, stored_at}
use Rattle.ring.proofs.Vertices.{following_on, following_round, following_lt}
use Rattle.ring.proofs.Sources.{source_on, source_first, source_later, source_lt, source_twice}
use Rattle.margins.specs.Far.{magnitude, Far}
use Rattle.margin.specs.Margin.{Doubles, RingFar, Largest}
use Rattle.margin.proofs.Edges.{SamePoint, equal_points, far_reversed, far_start, far_same}

-- m of n vertices are left: all of them, or all but a last one that repeats the first
abbrev pub Left : List Float → ℕ → ℕ → Type 0
Left ps n m = (m ≡ n) ⊎ ((n ≡ m + 1) × (same (vertex_at ps m) (vertex_at ps 0) ≡ true))

-- the m vertices of qs are the n of ps, without a closing repeat, reversed if `back`
pub record Stands (qs : List Float) (m : ℕ) (ps : List Float) (n : ℕ) : Type 0 where
  pub back : Bool
  pub some : 3 ≤ m
  pub left : Left ps n m
  pub each : (k : ℕ) → k < m → vertex_at qs k ≡ stored_at ps m back k

-- ---- the numbers of vertices that are reversed

-- edge i that was drawn is edge m - 1 - i of the ring reversed
reversed_start : (m i : ℕ) → i < m → source m true (m - 1 - i) ≡ following m i
reversed_start m i l = by_cases (i + 1) m
    (λ e. ap (source m true) {x = m - 1 - i} {y = 0} (omega arith) ∙ source_first m ∙ following_round m i (omega arith))
    (λ e. source_later m (m - 1 - i) (omega arith) ∙ omega arith ∙ following_on m i (omega arith))

reversed_end : (m i : ℕ) → i < m → source m true (following m (m - 1 - i)) ≡ i
reversed_end m i l = by_cases i 0
    (λ e. rw e (ap (source m true) (sym (following_round m (m - 1 - 0) (omega arith))) ∙ source_first m))
    (λ e. ap (source m true) (sym (following_on m (m - 1 - i) (omega arith))) ∙ source_later m (m - 1 - i + 1) (omega arith) ∙ omega arith)

-- ---- a closing repeat

flip : (a b : PlanarPoint) → SamePoint a b → SamePoint b a
flip a b h = record {
  east = record { above = sym h.east.above; below = sym h.east.below };
  north = record { above = sym h.north.above; below = sym h.north.below };
}

repeat_equal : (ps : List Float) (m : ℕ) → Doubles ps → same (vertex_at ps m) (vertex_at ps 0) ≡ true → SamePoint (vertex_at ps m) (vertex_at ps 0)
unfolding vertex_at
repeat_equal ps m d h = equal_points (vertex_at ps m) (vertex_at ps 0) (d (2 * m)) (d (2 * m + 1)) (d 0) (d 1) h

-- vertex m repeats vertex 0: the edge before it ends there, and the edge at it has no length
at_repeat : (D M : ℕ) (p : PlanarPoint) (ps : List Float) (m i : ℕ) → i < m + 1 → SamePoint (vertex_at ps 0) (vertex_at ps m) → 0 < m
    → ((k : ℕ) → k < m → Far D M p (vertex_at ps k) (edge_end ps m k)) → Far D M p (vertex_at ps i) (edge_end ps (m + 1) i)
unfolding edge_end
at_repeat D M p ps m i l e z h = by_cases i m
    (λ f. rw f (ends (following (m + 1) m) 0 (sym (following_round (m + 1) m (omega arith))) (vertex_at ps m)
    (far_reversed D M p (vertex_at ps 0) (vertex_at ps m) (far_same D M p (vertex_at ps 0) (vertex_at ps 0) (vertex_at ps m) e (far_start D M p (vertex_at ps 0) (edge_end ps m 0) (h 0 z))))))
    (λ f. ends (following (m + 1) i) (i + 1) (sym (following_on (m + 1) i (omega arith))) (vertex_at ps i) (by_cases (i + 1) m
    (λ g. rw g (far_same D M p (vertex_at ps i) (vertex_at ps 0) (vertex_at ps m) e (starts (following m i) 0 (sym (following_round m i (omega arith))) (vertex_at ps i) (h i (omega arith)))))
    (λ g. starts (following m i) (i + 1) (sym (following_on m i (omega arith))) (vertex_at ps i) (h i (omega arith)))))
  where
    starts : (x y : ℕ) → x ≡ y → (a : PlanarPoint) → Far D M p a (vertex_at ps x) → Far D M p a (vertex_at ps y)
    starts x y e a = subst (λ (k : ℕ). Far D M p a (vertex_at ps k)) e

    ends : (x y : ℕ) → x ≡ y → (a : PlanarPoint) → Far D M p a (vertex_at ps y) → Far D M p a (vertex_at ps x)
    ends x y e a = subst (λ (k : ℕ). Far D M p a (vertex_at ps k)) (sym e)

-- ---- number 2 v + c is the east or the north of vertex v

number : PlanarPoint → ℕ → Float
number p zero = p.east
number p (suc c) = p.north

number_at : (ps : List Float) (v c : ℕ) → c < 2 → get_or ps (2 * v + c) nan ≡ number (vertex_at ps v) c
unfolding vertex_at number
number_at ps v zero l = ap (λ (i : ℕ). get_or ps i nan) (omega arith)
number_at ps v (suc zero) l = refl
number_at ps v (suc (suc c)) l = absurd (omega arith)

moved : (qs ps : List Float) (v w c : ℕ) → c < 2 → vertex_at qs v ≡ vertex_at ps w → get_or qs (2 * v + c) nan ≡ get_or ps (2 * w + c) nan
moved qs ps v w c l e = number_at qs v c l ∙ ap (λ (p : PlanarPoint). number p c) e ∙ sym (number_at ps w c l)

same_number : (p q : PlanarPoint) (c : ℕ) → SamePoint p q → magnitude (number p c) ≡ magnitude (number q c)
unfolding number
same_number p q zero e = rw (e.east.above, e.east.below) refl
same_number p q (suc c) e = rw (e.north.above, e.north.below) refl

same_magnitude : (ps : List Float) (m c : ℕ) → c < 2 → SamePoint (vertex_at ps m) (vertex_at ps 0) → magnitude (get_or ps (2 * m + c) nan) ≡ magnitude (get_or ps (2 * 0 + c) nan)
same_magnitude ps m c l e = ap magnitude (number_at ps m c l) ∙ same_number (vertex_at ps m) (vertex_at ps 0) c e ∙ ap magnitude (sym (number_at ps 0 c l))

module _ (qs : List Float) (m : ℕ) (ps : List Float) (n : ℕ) (s : Stands qs m ps n) where
  -- vertex k as it is stored, and vertex i as it was drawn
  pub stored_vertex : (k : ℕ) → k < m → vertex_at qs k ≡ vertex_at ps (source m s.back k)
  unfolding stored_at
  stored_vertex k l = s.each k l

  pub drawn_vertex : (i : ℕ) → i < m → vertex_at qs (source m s.back i) ≡ vertex_at ps i
  drawn_vertex i l = stored_vertex (source m s.back i) (source_lt m s.back i l) ∙ ap (vertex_at ps) (source_twice m s.back i l)

  -- ---- the edges

  module _ (D M : ℕ) (p : PlanarPoint) (h : (k : ℕ) → k < m → Far D M p (vertex_at qs k) (edge_end qs m k)) where
    between : (a b c d : PlanarPoint) → a ≡ c → b ≡ d → Far D M p a b → Far D M p c d
    between a b c d e f g = subst (λ (x : PlanarPoint). Far D M p x d) e (subst (λ (x : PlanarPoint). Far D M p a x) f g)

    left_edge : (back : Bool) → s.back ≡ back → (i : ℕ) → i < m → Far D M p (vertex_at ps i) (edge_end ps m i)
    unfolding edge_end
    left_edge false e i l =
        between (vertex_at qs i) (vertex_at qs (following m i)) (vertex_at ps i) (vertex_at ps (following m i)) (on i l) (on (following m i) (following_lt m i l)) (h i l)
      where
        on : (k : ℕ) → k < m → vertex_at qs k ≡ vertex_at ps k
        on k z = stored_vertex k z ∙ ap (λ (b : Bool). vertex_at ps (source m b k)) e ∙ ap (vertex_at ps) (source_on m k)
    left_edge true e i l =
        let j : ℕ = m - 1 - i in
        let z : j < m = omega arith in
        far_reversed D M p (vertex_at ps (following m i)) (vertex_at ps i)
        (between (vertex_at qs j) (vertex_at qs (following m j)) (vertex_at ps (following m i)) (vertex_at ps i)
        (round j z ∙ ap (vertex_at ps) (reversed_start m i l)) (round (following m j) (following_lt m j z) ∙ ap (vertex_at ps) (reversed_end m i l)) (h j z))
      where
        round : (k : ℕ) → k < m → vertex_at qs k ≡ vertex_at ps (source m true k)
        round k z = stored_vertex k z ∙ ap (λ (b : Bool). vertex_at ps (source m b k)) e

    -- the closing repeat and the edges at it
    all_edges : Doubles ps → Left ps n m → (i : ℕ) → i < n
        → Far D M p (vertex_at ps i) (edge_end ps n i)
    all_edges d (inl e) i l = subst (λ (c : ℕ). Far D M p (vertex_at ps i) (edge_end ps c i)) e (left_edge s.back refl i (omega arith))
    all_edges d (inr e) i l = subst (λ (c : ℕ). Far D M p (vertex_at ps i) (edge_end ps c i)) (sym e.0) (repeated i (omega (arith, e.0)))
      where
        equal : SamePoint (vertex_at ps 0) (vertex_at ps m)
        equal = flip (vertex_at ps m) (vertex_at ps 0) (repeat_equal ps m d e.1)

        some : 0 < m
        some = omega (arith, s.some)

        repeated : (i : ℕ) → i < m + 1 → Far D M p (vertex_at ps i) (edge_end ps (m + 1) i)
        repeated i l = at_repeat D M p ps m i l equal some (left_edge s.back refl)

  -- what keeps the margin from the stored ring keeps it from the drawn one
  pub drawn_far : (D M : ℕ) (rs : List Float) (c : ℕ) → Doubles ps → RingFar D M rs c qs m → RingFar D M rs c ps n
  drawn_far D M rs c d h k i l z = all_edges D M (vertex_at rs k) (λ j y. h k j l y) d s.left i z

  -- ---- the largest coordinate

  module _ (M : ℕ) (d : Doubles ps) (h : (k : ℕ) → k < 2 * m → magnitude (get_or qs k nan) ≤ M) where
    left_number : (v c : ℕ) → v < m → c < 2 → magnitude (get_or ps (2 * v + c) nan) ≤ M
    left_number v c l z =
        subst (λ (x : Float). magnitude x ≤ M) (moved qs ps (source m s.back v) v c z (drawn_vertex v l)) (h (2 * source m s.back v + c) (inside (source m s.back v) m c (source_lt m s.back v l) z))
      where
        inside : (v m c : ℕ) → v < m → c < 2 → 2 * v + c < 2 * m
        inside v m c l z = omega arith

    all_numbers : Left ps n m → (v c : ℕ) → v < n → c < 2 → magnitude (get_or ps (2 * v + c) nan) ≤ M
    all_numbers (inl e) v c l z = left_number v c (omega arith) z
    all_numbers (inr e) v c l z = by_cases v m
        (λ f. rw f (le_trans (le_of_eq (same_magnitude ps m c z (repeat_equal ps m d e.1))) (left_number 0 c (omega (arith, s.some)) z)))
        (λ f. left_number v c (omega (arith, e.0)) z)

    pub drawn_each : (k : ℕ) → k < 2 * n → magnitude (get_or ps k nan) ≤ M
    drawn_each k l = subst (λ (i : ℕ). magnitude (get_or ps i nan) ≤ M) (div-add-mod k 2) (all_numbers s.left (k / 2) (k % 2) (omega arith) (omega arith))

  -- a stored number was drawn
  pub record Place (k : ℕ) : Type 0 where
    pub at : ℕ
    pub within : at < 2 * n
    pub is : get_or ps at nan ≡ get_or qs k nan

  pub drawn_place : (k : ℕ) → k < 2 * m → Place k
  drawn_place k l =
      let v : ℕ = k / 2 in
      let z : v < m = omega arith in
      let c : k % 2 < 2 = omega arith in
      record {
        at = 2 * source m s.back v + k % 2;
        within = inside (source m s.back v) (k % 2) (source_lt m s.back v z) c s.left;
        is = sym (moved qs ps v (source m s.back v) (k % 2) c (stored_vertex v z)) ∙ ap (λ (i : ℕ). get_or qs i nan) (div-add-mod k 2);
      }
    where
      inside : (v c : ℕ) → v < m → c < 2 → Left ps n m → 2 * v + c < 2 * n
      inside v c l z (inl e) = omega arith
      inside v c l z (inr e) = omega (arith, e.0)

  pub drawn_largest : (M : ℕ) → Doubles ps → Largest qs m M → Largest ps n M
  drawn_largest M d h =
      let p : Place h.place = drawn_place h.place h.within in
      record { each = drawn_each M d h.each; place = p.at; within = p.within; reached = ap magnitude p.is ∙ h.reached }
