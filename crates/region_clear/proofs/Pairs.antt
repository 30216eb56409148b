-- The inset of a region is clear of its source where each of its rings is clear of each ring of the source. Assumes nothing.
use Prim.Native.Nat.{ℕ, zero, suc, ◌+◌, ◌<◌}
use native.Mathlib.Omega.{arith}
use mathlib.Core.Path.{◌≡◌, refl, sym, ◌∙◌}
use mathlib.Core.Bool.{Bool, true, false, not, ◌&&◌}
use mathlib.Core.List.{List}
use mathlib.Mathlib.Data.Bool.Basic.{and_elim_left, and_elim_right, partial_order_laws}
use borrow.Author.Tests.{not-true}
use lib.Ieee.{Float}
use Rattle.base.specs.Loop.{rounds}
use Rattle.plane.specs.declared.PlanarPoint.{PlanarPoint}
use Rattle.ring.specs.Ring.{vertex_at}
use Rattle.ring_cross.specs.Meet.{rings_meet}
use Rattle.offset.specs.Clear.{every_step, every_vertex}
use Rattle.base.proofs.Tests.{none_pass, none_all, all_pass, pass_all}
use Rattle.base.proofs.Choices.{by_cases}
use Rattle.offset.proofs.Accepted.{every_passes}
use Rattle.region.specs.declared.Region.{Region}
use Rattle.region.specs.Regions.{ring_points, ring_count}
use Rattle.region.specs.Insets.{clear_of_region, rings_clear_step, region_keeps_clear, crosses_ring_step, crosses_ring, crosses_step, crosses}
use Rattle.offset_clear.specs.Rings.{ring_clear_of, ring_keeps_clear, ring_stays_clear}
use Rattle.region_clear.specs.Apart.{hole_apart_step, ring_apart, region_apart_step, region_apart}
use Rattle.region_clear.proofs.Points.{clear_step, clear_by_rings}

-- ---- the outer ring first, then hole after hole: ring 0 and ring k + 1
module _ (f : ℕ → Bool → Bool) (test : ℕ → Bool) (body : (k : ℕ) (s : Bool) → f k s ≡ (s && test (suc k))) where
  first : (n : ℕ) → rounds f n (test 0) ≡ true → test 0 ≡ true
  unfolding rounds
  first zero h = h
  first (suc n) h = first n (and_elim_left (rounds f n (test 0)) (test (suc n)) (sym (body n (rounds f n (test 0))) ∙ h))

  rings_each : (n : ℕ) → rounds f n (test 0) ≡ true → (k : ℕ) → k < n + 1 → test k ≡ true
  unfolding rounds
  rings_each n h zero l = first n h
  rings_each zero h (suc k) l = absurd (omega arith)
  rings_each (suc n) h (suc k) l = by_cases k n (λ e. rw e (and_elim_right (rounds f n (test 0)) (test (suc n)) (sym (body n (rounds f n (test 0))) ∙ h)))
      (λ e. rings_each n (and_elim_left (rounds f n (test 0)) (test (suc n)) (sym (body n (rounds f n (test 0))) ∙ h)) (suc k) (omega arith))

  rings_all : (n : ℕ) → ((k : ℕ) → k < n + 1 → test k ≡ true) → rounds f n (test 0) ≡ true
  unfolding rounds
  rings_all zero h = h 0 (omega arith)
  rings_all (suc n) h = body n (rounds f n (test 0)) ∙ rw (rings_all n (λ k l. h k (omega arith)), h (suc n) (omega arith)) refl

-- the outer ring is ring 0: a vertex lies inside it, and outside every other
unfoldable outside_of : ℕ → Bool
outside_of zero = false
outside_of (suc k) = true

module _ (least : Float) (r : Region) where
  unfoldable ring_of : List Float → ℕ → ℕ → Bool
  ring_of qs m l = ring_stays_clear (outside_of l) least (ring_points r l) (ring_count r l) qs m

  unfoldable point_of : PlanarPoint → ℕ → Bool
  point_of p l = ring_clear_of (outside_of l) least (ring_points r l) (ring_count r l) p

  point_each : (p : PlanarPoint) → clear_of_region least r p ≡ true → (l : ℕ) → l < r.holes + 1 → point_of p l ≡ true
  unfolding point_of outside_of ring_points ring_count clear_step
  point_each p h = rings_each (clear_step least r p) (point_of p) (λ (k : ℕ) (s : Bool). refl) r.holes (sym (clear_by_rings least r p) ∙ h)

  point_all : (p : PlanarPoint) → ((l : ℕ) → l < r.holes + 1 → point_of p l ≡ true) → clear_of_region least r p ≡ true
  unfolding point_of outside_of ring_points ring_count clear_step
  point_all p h = clear_by_rings least r p ∙ rings_all (clear_step least r p) (point_of p) (λ (k : ℕ) (s : Bool). refl) r.holes h

  ring_each : (qs : List Float) (m : ℕ) → ring_apart least r qs m ≡ true → (l : ℕ) → l < r.holes + 1 → ring_of qs m l ≡ true
  unfolding ring_of outside_of ring_points ring_count ring_apart hole_apart_step
  ring_each qs m h = rings_each (hole_apart_step least r qs m) (ring_of qs m) (λ (k : ℕ) (s : Bool). refl) r.holes h

  ring_all : (qs : List Float) (m : ℕ) → ((l : ℕ) → l < r.holes + 1 → ring_of qs m l ≡ true) → ring_apart least r qs m ≡ true
  unfolding ring_of outside_of ring_points ring_count ring_apart hole_apart_step
  ring_all qs m h = rings_all (hole_apart_step least r qs m) (ring_of qs m) (λ (k : ℕ) (s : Bool). refl) r.holes h

  module _ (q : Region) where
    abbrev Pairs : Type 0
    Pairs = (k l : ℕ) → k < q.holes + 1 → l < r.holes + 1 → ring_of (ring_points q k) (ring_count q k) l ≡ true

    abbrev ring_test : ℕ → Bool
    ring_test k = ring_apart least r (ring_points q k) (ring_count q k)

    apart_pairs : region_apart least r q ≡ true → Pairs
    unfolding region_apart region_apart_step ring_points ring_count
    apart_pairs h k l a b = ring_each (ring_points q k) (ring_count q k) (rings_each (region_apart_step least r q) ring_test (λ (j : ℕ) (s : Bool). refl) q.holes h k a) l b

    pairs_apart : Pairs → region_apart least r q ≡ true
    unfolding region_apart region_apart_step ring_points ring_count
    pairs_apart h =
        rings_all (region_apart_step least r q) ring_test (λ (j : ℕ) (s : Bool). refl) q.holes (λ k a. ring_all (ring_points q k) (ring_count q k) (λ l b. h k l a b))

    module _ (kept : region_keeps_clear least r q ≡ true) (none : crosses r q ≡ false) (k l : ℕ) (a : k < q.holes + 1) (b : l < r.holes + 1) where
      vertices_clear : (i : ℕ) → i < ring_count q k → point_of (vertex_at (ring_points q k) i) l ≡ true
      unfolding region_keeps_clear rings_clear_step
      vertices_clear i z =
          point_each (vertex_at (ring_points q k) i)
          (every_passes (clear_of_region least r) (ring_points q k) (ring_count q k)
          (all_pass (rings_clear_step least r q) (λ j. every_vertex (clear_of_region least r) (ring_points q j) (ring_count q j)) (λ j s. refl) (q.holes + 1) kept k a) i z) l b

      apart : rings_meet (ring_points q k) (ring_count q k) (ring_points r l) (ring_count r l) ≡ false
      unfolding crosses crosses_step crosses_ring crosses_ring_step
      apart =
          none_pass (crosses_ring_step r (ring_points q k) (ring_count q k)) (λ j. rings_meet (ring_points q k) (ring_count q k) (ring_points r j) (ring_count r j)) (λ j s. refl) (r.holes + 1)
          (none_pass (crosses_step r q) (λ j. crosses_ring r (ring_points q j) (ring_count q j)) (λ j s. refl) (q.holes + 1) none k a) l b

      kept_pair : ring_of (ring_points q k) (ring_count q k) l ≡ true
      unfolding ring_of ring_stays_clear ring_keeps_clear every_vertex every_step point_of
      kept_pair =
          rw (pass_all (every_step (λ p. point_of p l) (ring_points q k)) (λ i. point_of (vertex_at (ring_points q k) i) l) (λ i s. refl) (ring_count q k) vertices_clear, apart) refl

    module _ (h : Pairs) where
      module _ (k l : ℕ) (a : k < q.holes + 1) (b : l < r.holes + 1) where
        abbrev keeps : Bool
        keeps = ring_keeps_clear (outside_of l) least (ring_points r l) (ring_count r l) (ring_points q k) (ring_count q k)

        abbrev meets : Bool
        meets = rings_meet (ring_points q k) (ring_count q k) (ring_points r l) (ring_count r l)

        pair_kept : keeps ≡ true
        unfolding ring_of ring_stays_clear
        pair_kept = and_elim_left keeps (not meets) (h k l a b)

        pair_apart : meets ≡ false
        unfolding ring_of ring_stays_clear
        pair_apart = not-true meets (and_elim_right keeps (not meets) (h k l a b))

        vertex_clear : (i : ℕ) → i < ring_count q k → point_of (vertex_at (ring_points q k) i) l ≡ true
        unfolding ring_keeps_clear point_of
        vertex_clear i z = every_passes (λ p. point_of p l) (ring_points q k) (ring_count q k) pair_kept i z

      pairs_kept : region_keeps_clear least r q ≡ true
      unfolding region_keeps_clear rings_clear_step every_vertex every_step
      pairs_kept =
          pass_all (rings_clear_step least r q) (λ k. every_vertex (clear_of_region least r) (ring_points q k) (ring_count q k)) (λ k s. refl) (q.holes + 1)
          (λ k a. pass_all (every_step (clear_of_region least r) (ring_points q k)) (λ i. clear_of_region least r (vertex_at (ring_points q k) i)) (λ i s. refl) (ring_count q k)
          (λ i z. point_all (vertex_at (ring_points q k) i) (λ l b. vertex_clear k l a b i z)))

      pairs_cross : crosses r q ≡ false
      unfolding crosses crosses_step crosses_ring crosses_ring_step
      pairs_cross =
          none_all (crosses_step r q) (λ k. crosses_ring r (ring_points q k) (ring_count q k)) (λ k s. refl) (q.holes + 1)
          (λ k a. none_all (crosses_ring_step r (ring_points q k) (ring_count q k)) (λ l. rings_meet (ring_points q k) (ring_count q k) (ring_points r l) (ring_count r l)) (λ l s. refl) (r.holes + 1)
          (λ l b. pair_apart k l a b))

    pub apart_is : region_apart least r q ≡ (region_keeps_clear least r q && not (crosses r q))
    apart_is =
        partial_order_laws.le_antisymm (region_apart least r q) (region_keeps_clear least r q && not (crosses r q))
        (λ h. let p = apart_pairs h in rw (pairs_kept p, pairs_cross p) refl)
        (λ h. pairs_apart (kept_pair (and_elim_left (region_keeps_clear least r q) (not (crosses r q)) h) (not-true (crosses r q) (and_elim_right (region_keeps_clear least r q) (not (crosses r q)) h))))
