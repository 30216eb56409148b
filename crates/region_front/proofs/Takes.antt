-- A region that passes 21 has no ring that a front cannot take: its front is that of the definition. Assumes nothing.
use Prim.Native.Nat.{ℕ, zero, suc, ◌+◌, ◌*◌, ◌≤◌, ◌<◌}
use native.Mathlib.Omega.{arith}
use mathlib.Core.Path.{◌≡◌, refl, ap, ◌∙◌}
use mathlib.Core.Bool.{Bool, true, false, ◌&&◌}
use mathlib.Core.List.{List}
use mathlib.Mathlib.Data.Bool.Basic.{and_elim_left, and_elim_right}
use borrow.Author.Tests.{ltb-true, lt-ltb, leb-true}
use lib.Dec.{leb, ltb}
use lib.ListN.{get_or, drop}
use lib.Ieee.{Float}
use Rattle.error.specs.Refusals.{granted}
use Rattle.base.specs.Loop.{rounds}
use Rattle.base.proofs.Laws.{rounds_keep}
use Rattle.base.proofs.Choices.{by_test}
use Rattle.base.proofs.Choices.{both}
use Rattle.base.proofs.Tests.{all_pass}
use Rattle.plane.specs.declared.PlanarPoint.{PlanarPoint}
use Rattle.ring.specs.Ring.{vertex_at, following}
use Rattle.outline.specs.Outlines.{proper}
use Rattle.front.specs.declared.Loaded.{Loaded}
use Rattle.front.specs.declared.Sweep.{Sweep}
use Rattle.front.specs.declared.Line.{Line}
use Rattle.std.specs.Prelude.{Option, None, Some}
use Rattle.front.specs.Lines.{through}
use Rattle.front.specs.Loading.{loaded_nothing, load_refused, load_vertex, has_room, load_line, load_edge, load_step, ring_begun, load_ring}
use Rattle.front.specs.Sweeps.{offset_rings}
use Rattle.front_sweep.specs.Acts.{cleared}
use Rattle.front.proofs.Demand.Shapes.{proper_is}
use Rattle.front_load.specs.Next.{fits, load_next}
use Rattle.region.specs.Regions.{hole_points, hole_count, region_of}
use Rattle.region.specs.Checks.{proper_step, proper_region}
use Rattle.region.specs.Insets.{load_hole_step, load_region, region_sweep}
use Rattle.region_front.specs.Rings.{load_next_step, load_rings, sweep_rings}

-- ---- a front after r rings: 128 slots at most are in use
record Holds (r : ℕ) (s : Loaded) : Type 0 where
  used : s.used ≤ 128
  rings : s.rings ≡ r

line_holds : (d : Float) (first n k r : ℕ) (a : PlanarPoint) (s : Loaded) (t : Option Line) → Holds r s → Holds r (load_line d first n k a s t)
unfolding load_line load_refused has_room
line_holds d first n k r a s None h = record { used = h.used; rings = h.rings }
line_holds d first n k r a s (Some l) h =
    by_test (Holds r) (ltb s.used 128) (λ e. record { used = omega (arith, ltb-true s.used 128 e); rings = h.rings }) (λ e. record { used = h.used; rings = h.rings })

ring_holds : (ps : List Float) (n : ℕ) (back : Bool) (origin : PlanarPoint) (d : Float) (r : ℕ) (s : Loaded) → Holds r s → Holds (r + 1) (load_ring ps n back origin d s)
unfolding load_ring ring_begun load_step load_edge
ring_holds ps n back origin d r s h =
    rounds_keep (load_step ps n back origin d s.used) (λ (k : ℕ) (a : Loaded). Holds (r + 1) a) (ring_begun s) (record { used = h.used; rings = ap (λ (i : ℕ). i + 1) h.rings })
    (λ k a g. both (Holds (r + 1)) (granted a.refusal)
    (line_holds d s.used n k (r + 1) (load_vertex ps n back origin k) a (through (load_vertex ps n back origin k) (load_vertex ps n back origin (following n k))) g) g) n

next_is : (ps : List Float) (n : ℕ) (back : Bool) (origin : PlanarPoint) (d : Float) (r : ℕ) (s : Loaded) → Holds r s → r < 129 → n < 129 → load_next ps n back origin d s ≡ load_ring ps n back origin d s
unfolding load_next fits
next_is ps n back origin d r s h l m =
    let e : s.rings ≡ r = h.rings in
    let u : s.used ≤ 128 = h.used in
    rw (lt-ltb s.used 129 (omega arith), lt-ltb s.rings 129 (omega arith), lt-ltb n 129 m) refl

-- ---- hole after hole
module _ (ps : List Float) (n : ℕ) (hs : List Float) (cs : List ℕ) (h : ℕ) (q : proper_region (region_of ps n hs cs h) ≡ true) where
  holes_tested : (leb h 8 && rounds (proper_step (region_of ps n hs cs h)) h true) ≡ true
  unfolding proper_region region_of
  holes_tested = and_elim_right (proper 128 ps n) (leb h 8 && rounds (proper_step (region_of ps n hs cs h)) h true) q

  few : h ≤ 8
  few = leb-true h 8 (and_elim_left (leb h 8) (rounds (proper_step (region_of ps n hs cs h)) h true) holes_tested)

  small : (k : ℕ) → k < h → get_or cs k 0 ≤ 32
  unfolding proper_step region_of hole_points hole_count
  small k l =
      (proper_is 32 (drop (64 * k) hs) (get_or cs k 0)
      (all_pass (proper_step (region_of ps n hs cs h)) (λ j. proper 32 (drop (64 * j) hs) (get_or cs j 0)) (λ j s. refl) h
      (and_elim_right (leb h 8) (rounds (proper_step (region_of ps n hs cs h)) h true) holes_tested) k l)).fits

  module _ (origin : PlanarPoint) (d : Float) where
    abbrev outer : Loaded
    outer = load_ring ps n false origin d loaded_nothing

    abbrev step : ℕ → Loaded → Loaded
    step = load_hole_step (region_of ps n hs cs h) origin d

    holds_to : (k : ℕ) → Holds (k + 1) (rounds step k outer)
    unfolding load_hole_step loaded_nothing
    holds_to k =
        rounds_keep step (λ (j : ℕ) (s : Loaded). Holds (j + 1) s) outer (ring_holds ps n false origin d 0 loaded_nothing (record { used = omega arith; rings = refl }))
        (λ j s g. again j s (ring_holds (hole_points (region_of ps n hs cs h) j) (hole_count (region_of ps n hs cs h) j) true origin d (j + 1) s g)) k
      where
        again : (j : ℕ) (s : Loaded) → Holds (j + 1 + 1) (step j s) → Holds (suc j + 1) (step j s)
        again j s g = record { used = g.used; rings = g.rings ∙ omega arith }

    same_to : (k : ℕ) → k ≤ h → rounds (load_next_step hs cs origin d) k outer ≡ rounds step k outer
    unfolding rounds load_next_step load_hole_step region_of hole_points hole_count
    same_to zero l = refl
    same_to (suc k) l =
        ap (load_next_step hs cs origin d k) (same_to k (omega arith)) ∙
        next_is (drop (64 * k) hs) (get_or cs k 0) true origin d (k + 1) (rounds step k outer) (holds_to k) (omega (arith, few)) (omega (arith, small k (omega arith)))

    loads_region : load_rings ps n hs cs h origin d ≡ load_region (region_of ps n hs cs h) origin d
    unfolding load_rings load_region region_of
    loads_region = same_to h (omega arith)

  pub sweeps_region : (d : Float) → sweep_rings ps n hs cs h d ≡ region_sweep (region_of ps n hs cs h) d
  unfolding sweep_rings region_sweep region_of
  sweeps_region d = ap (offset_rings d) (loads_region (vertex_at ps 0) d)

-- ---- one hole more, as the code loads it
pub next_step : (hs : List Float) (cs : List ℕ) (origin : PlanarPoint) (d : Float) (k : ℕ) (s next : Loaded) (hole : List Float) (count : ℕ) → hole ≡ drop (64 * k) hs → count ≡ get_or cs k 0 →
    next ≡ load_next hole count true origin d s → next ≡ load_next_step hs cs origin d k s
unfolding load_next_step
next_step hs cs origin d k s next hole count e f i = i ∙ rw (e, f) refl

pub swept : (ps : List Float) (n : ℕ) (hs : List Float) (cs : List ℕ) (h : ℕ) (d : Float) (origin : PlanarPoint) (l : Loaded) (s : Sweep) → origin ≡ vertex_at ps 0 →
    l ≡ load_rings ps n hs cs h origin d → s ≡ cleared (offset_rings d l) → s ≡ cleared (sweep_rings ps n hs cs h d)
unfolding sweep_rings
swept ps n hs cs h d origin l s e f g = g ∙ ap (λ (m : Loaded). cleared (offset_rings d m)) (f ∙ ap (λ (v : PlanarPoint). load_rings ps n hs cs h v d) e)
