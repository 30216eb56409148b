-- The walks of the code, step by step: the box of a block, the edges of a block, the vertices beside a block, the blocks of a ring. Assumes nothing.
use Prim.Native.Nat.{ℕ, ◌+◌, ◌≤◌, ◌<◌}
use native.Mathlib.Nat.{eq-or-lt_of_le}
use native.Mathlib.Omega.{arith}
use mathlib.Core.Logic.{◌⊎◌, inl, inr}
use mathlib.Core.Path.{◌≡◌, refl, sym, ◌∙◌, subst}
use mathlib.Core.Bool.{Bool, true, false, cond}
use mathlib.Core.List.{List}
use borrow.Author.Tests.{ltb-true, ltb-false}
use lib.Dec.{T, ltb}
use lib.Ieee.{Float, binary64, fits, lt}
use lib.Ieee.Fits.{sub-fits}
use Rattle.math.specs.Number
use Rattle.plane.specs.declared.PlanarPoint.{PlanarPoint}
use Rattle.plane.specs.Plane.{sub, dot}
use Rattle.plane.specs.Points.{length_of}
use Rattle.segment.specs.Segments.{closest_on_segment}
use Rattle.segment.specs.Boxes.{Within}
use Rattle.ring.specs.Ring.{vertex_at, edge_end}
use Rattle.ring.proofs.Starts.{start_next, start_edge}
use Rattle.ring_near.specs.Near.{gap_to, clearly}
use Rattle.ring_near.proofs.Leads.{not_shorter}
use Rattle.plane.specs.declared.Bounds.{Bounds}
use Rattle.ring_gap.specs.Blocks.{gap_between, edge_gap, FromEdges, FromVertices, Least, taken, widened, Spans, beyond, Run}
use Rattle.ring_gap.proofs.Boxed.{widened_keeps, widened_takes, beyond_not_nearer}
use Rattle.ring_gap.proofs.LeastOf.{least_still, least_taken, least_join}

last_or : (k j : ℕ) → j < k + 1 → (j ≡ k) ⊎ (j < k)
last_or k j h = eq-or-lt_of_le (less h)
  where
    less : j < k + 1 → j ≤ k
    less h = omega arith

split_at : (from j : ℕ) → (j < from) ⊎ (from ≤ j)
split_at from j = go (ltb j from) refl
  where
    go : (b : Bool) → ltb j from ≡ b → (j < from) ⊎ (from ≤ j)
    go true e = inl (ltb-true j from e)
    go false e = inr (ltb-false j from e)

more : (j k : ℕ) → j < k → j < k + 1
more j k h = omega arith

last : (k : ℕ) → k < k + 1
last k = omega arith

level : (x y : ℕ) → x ≤ y → y ≤ x → x ≡ y
level x y a b = omega arith

none : {A : Type 0} (k : ℕ) → k < 0 → A
none k h = absurd (omega arith)

-- ---- an edge: its square tells that it is not nearer, or its root is compared
module _ (q a b z v : PlanarPoint) (least : Float) (foot : z ≡ closest_on_segment q a b) (is : v ≡ sub z q) where
  pub not_nearer : (d : Float) (t : Bool) → T (fits binary64 least) → d ≡ dot v v → t ≡ clearly (Number.mul least least) d → t ≡ true → least ≡ taken least (gap_between q a b)
  unfolding taken gap_between gap_to sub
  not_nearer d t f ed et h =
      let far : clearly (Number.mul least least) (dot (sub z q) (sub z q)) ≡ true = rw (← is, ← ed) (sym et ∙ h) in
      rw (← foot, not_shorter least (sub z q) f (sub-fits binary64 z.east q.east) (sub-fits binary64 z.north q.north) far) refl

  pub compared : (g r : Float) → g ≡ length_of v → r ≡ cond (lt g least) g least → r ≡ taken least (gap_between q a b)
  unfolding taken gap_between gap_to
  compared g r e h = rw (← foot, ← is, ← e) h

-- ---- the start of edge k, which a walk holds as long as there is such an edge
abbrev pub Starts : List Float → ℕ → ℕ → PlanarPoint → Type 0
Starts ps to k a = k < to → a ≡ vertex_at ps k

pub starts_on : (ps : List Float) (n from to k : ℕ) (b : PlanarPoint) → Run n from to → b ≡ edge_end ps n k → Starts ps to (k + 1) b
starts_on ps n from to k b r e l = e ∙ start_next ps n k ∙ start_edge ps n (k + 1) (within r.within)
  where
    within : to ≤ n → k + 1 < n
    within h = omega arith

pub up_to : (n from to : ℕ) → Run n from to → from ≤ to
up_to n from to r = less r.some
  where
    less : from < to → from ≤ to
    less h = omega arith

-- ---- the box of a block
module _ (ps : List Float) (n from : ℕ) where
  pub spans_none : (s : Bounds) → Spans ps n from from s
  spans_none s k a b = absurd (omega arith)

  pub spans_on : (k : ℕ) (s : Bounds) → Spans ps n from k s → (a b : PlanarPoint) (r : Bounds) → a ≡ vertex_at ps k → b ≡ edge_end ps n k → r ≡ widened s a b → Spans ps n from (k + 1) r
  spans_on k s w a b r ea eb er j l h q = elim (last_or k j h) [
    | inl e ↦
        rw er
        (subst (λ (i : ℕ). Within (widened s a b).low (widened s a b).high (closest_on_segment q (vertex_at ps i) (edge_end ps n i))) (sym e)
        (rw (← ea, ← eb) (widened_takes s a b q)))
    | inr g ↦ rw er (widened_keeps s a b _ (w j l g q))
  ]

  pub spans_all : (to k : ℕ) (s : Bounds) → Spans ps n from k s → to ≤ k → Spans ps n from to s
  spans_all to k s w h j l g q = w j l (omega arith) q

-- ---- one point and the edges of a block
module _ (ps : List Float) (n from : ℕ) (q : PlanarPoint) (least : Float) where
  pub edges_none : Least (FromEdges ps n from from q) least least
  edges_none = least_still _ least (λ x p. outside p.edge p.after p.before)
    where
      outside : {A : Type 0} (k : ℕ) → from ≤ k → k < from → A
      outside k a b = absurd (omega arith)

  pub edges_on :
      (k : ℕ) (s : Float) → from ≤ k → Least (FromEdges ps n from k q) least s → (a b : PlanarPoint) (r : Float) → a ≡ vertex_at ps k → b ≡ edge_end ps n k → r ≡ taken s (gap_between q a b) →
      Least (FromEdges ps n from (k + 1) q) least r
  unfolding edge_gap
  edges_on k s f w a b r ea eb er =
      least_join (FromEdges ps n from k q) (λ (x : Float). x ≡ edge_gap ps n k q) (FromEdges ps n from (k + 1) q)
      (λ x p. split x p.edge p.after p.before p.is)
      (λ x p. record { edge = p.edge; after = p.after; before = more p.edge k p.before; is = p.is })
      (λ x e. record { edge = k; after = f; before = last k; is = e })
      least s r w
      (rw (er, ea, eb) (least_taken (λ (x : Float). x ≡ edge_gap ps n k q) s (edge_gap ps n k q) refl (λ x e. e)))
    where
      split : (x : Float) (j : ℕ) → from ≤ j → j < k + 1 → x ≡ edge_gap ps n j q → FromEdges ps n from k q x ⊎ (x ≡ edge_gap ps n k q)
      split x j l h e = elim (last_or k j h) [ inl d ↦ inr (subst (λ (i : ℕ). x ≡ edge_gap ps n i q) d e) | inr g ↦ inl (record { edge = j; after = l; before = g; is = e }) ]

  pub edges_all : (to k : ℕ) (s : Float) → k ≤ to → to ≤ k → Least (FromEdges ps n from k q) least s → Least (FromEdges ps n from to q) least s
  edges_all to k s a b w = subst (λ (j : ℕ). Least (FromEdges ps n from j q) least s) (level k to a b) w

-- ---- the vertices beside a block: one more
module _ (ps : List Float) (n from to : ℕ) (qs : List Float) (i : ℕ) where
  pub vertex_split : (x : Float) → FromVertices ps n from to qs (i + 1) x → FromVertices ps n from to qs i x ⊎ FromEdges ps n from to (vertex_at qs i) x
  vertex_split x p = go p.vertex p.within p.gap
    where
      go : (j : ℕ) → j < i + 1 → FromEdges ps n from to (vertex_at qs j) x → FromVertices ps n from to qs i x ⊎ FromEdges ps n from to (vertex_at qs i) x
      go j h p = elim (last_or i j h) [ inl d ↦ inr (subst (λ (k : ℕ). FromEdges ps n from to (vertex_at qs k) x) d p) | inr g ↦ inl (record { vertex = j; within = g; gap = p }) ]

  pub vertex_before : (x : Float) → FromVertices ps n from to qs i x → FromVertices ps n from to qs (i + 1) x
  vertex_before x p = record { vertex = p.vertex; within = more p.vertex i p.within; gap = p.gap }

  pub vertex_last : (x : Float) → FromEdges ps n from to (vertex_at qs i) x → FromVertices ps n from to qs (i + 1) x
  vertex_last x p = record { vertex = i; within = last i; gap = p }

module _ (ps : List Float) (n from to : ℕ) (qs : List Float) (least : Float) where
  pub vertices_none : Least (FromVertices ps n from to qs 0) least least
  vertices_none = least_still _ least (λ x p. none p.vertex p.within)

  pub vertices_on :
      (i : ℕ) (s r : Float) (q : PlanarPoint) → q ≡ vertex_at qs i → Least (FromVertices ps n from to qs i) least s → Least (FromEdges ps n from to q) s r →
      Least (FromVertices ps n from to qs (i + 1)) least r
  vertices_on i s r q eq w v =
      least_join (FromVertices ps n from to qs i) (FromEdges ps n from to (vertex_at qs i)) (FromVertices ps n from to qs (i + 1))
      (vertex_split ps n from to qs i) (vertex_before ps n from to qs i) (vertex_last ps n from to qs i)
      least s r w (subst (λ (p : PlanarPoint). Least (FromEdges ps n from to p) s r) eq v)

  pub vertices_all : (m i : ℕ) (s : Float) → i ≤ m → m ≤ i → Least (FromVertices ps n from to qs i) least s → Least (FromVertices ps n from to qs m) least s
  vertices_all m i s a b w = subst (λ (k : ℕ). Least (FromVertices ps n from to qs k) least s) (level i m a b) w

  -- the block is left out
  pub vertices_beyond :
      (i : ℕ) (s : Float) (q : PlanarPoint) (frame : Bounds) (t : Bool) → Spans ps n from to frame → q ≡ vertex_at qs i → t ≡ beyond frame q s → t ≡ true →
      Least (FromVertices ps n from to qs i) least s → Least (FromVertices ps n from to qs (i + 1)) least s
  unfolding edge_gap
  vertices_beyond i s q frame t w eq et h v =
      vertices_on i s s q eq v (least_still _ s (λ x p. far x p.edge p.after p.before p.is))
    where
      far : (x : Float) (k : ℕ) → from ≤ k → k < to → x ≡ edge_gap ps n k q → lt x s ≡ false
      far x k a b e = rw e (beyond_not_nearer frame q (vertex_at ps k) (edge_end ps n k) s (w k a b q) (sym et ∙ h))

-- ---- the blocks of a ring
module _ (ps : List Float) (n : ℕ) (qs : List Float) (m : ℕ) (least : Float) where
  pub blocks_none : Least (FromVertices ps n 0 0 qs m) least least
  blocks_none = least_still _ least (λ x p. none p.gap.edge p.gap.before)

  pub blocks_on :
      (from to : ℕ) (s r : Float) → Run n from to → Least (FromVertices ps n 0 from qs m) least s → Least (FromVertices ps n from to qs m) s r → Least (FromVertices ps n 0 to qs m) least r
  blocks_on from to s r run w v =
      least_join (FromVertices ps n 0 from qs m) (FromVertices ps n from to qs m) (FromVertices ps n 0 to qs m)
      (λ x p. split x p.vertex p.within p.gap)
      (λ x p. over x p p.gap.after (sooner p.gap.edge p.gap.before run.some))
      (λ x p. over x p (from_none p.gap.edge) p.gap.before)
      least s r w v
    where
      split : (x : Float) (i : ℕ) → i < m → FromEdges ps n 0 to (vertex_at qs i) x → FromVertices ps n 0 from qs m x ⊎ FromVertices ps n from to qs m x
      split x i l p = elim (split_at from p.edge) [
        | inl g ↦ inl (record { vertex = i; within = l; gap = record { edge = p.edge; after = p.after; before = g; is = p.is } })
        | inr g ↦ inr (record { vertex = i; within = l; gap = record { edge = p.edge; after = g; before = p.before; is = p.is } })
      ]

      over : {a b : ℕ} (x : Float) (p : FromVertices ps n a b qs m x) → 0 ≤ p.gap.edge → p.gap.edge < to → FromVertices ps n 0 to qs m x
      over x p f t = record { vertex = p.vertex; within = p.within; gap = record { edge = p.gap.edge; after = f; before = t; is = p.gap.is } }

      sooner : (k : ℕ) → k < from → from < to → k < to
      sooner k a b = omega arith

      from_none : (k : ℕ) → 0 ≤ k
      from_none k = omega arith

  -- after the last block
  pub blocks_all : (from : ℕ) (s : Float) → from ≤ n → n ≤ from → Least (FromVertices ps n 0 from qs m) least s → Least (FromVertices ps n 0 n qs m) least s
  blocks_all from s a b w = subst (λ (k : ℕ). Least (FromVertices ps n 0 k qs m) least s) (level from n a b) w
