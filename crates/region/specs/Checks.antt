-- holes.rs, `Region::new`: questions 1 to 12 and 27 of a region, and 21. Assumes nothing.
use Rattle.std.specs.Prelude.{ℕ, ◌+◌, ◌-◌, ◌*◌, ◌%◌, Bool, true, false, cond, not, ◌&&◌, ◌||◌, List, leb, ltb, eqb, get_or, drop, length, Float}
use Rattle.region.specs.declared.Region.{Region}
use Rattle.region.specs.declared.RegionLoad.{RegionLoad}
use Rattle.region.specs.declared.NewRegion.{NewRegion}
use Rattle.plane.specs.declared.PlanarPoint.{PlanarPoint}
use Rattle.outline.specs.declared.Outline.{Outline}
use Rattle.error.specs.declared.Refusal.{Refusal}
use Rattle.error.specs.declared.Refusal.TheVariants.{Granted, HoleOutside, HolesTouch, ManyHoles, Lengths, Odd, Shape}
use Rattle.ring_check.specs.declared.Checked.{Checked}
use Rattle.ring.specs.Ring.{vertex_at}
use Rattle.ring_contain.specs.Contains.{ring_contains}
use Rattle.base.specs.Loop.{rounds}
use Rattle.ring_cross.specs.Meet.{rings_meet}
use Rattle.error.specs.Refusals.{granted}
use Rattle.region.specs.Regions.{hole_points, hole_count, no_region, with_hole, with_outer}
use Rattle.ring_check.specs.Checks.{check_door}
use Rattle.outline.specs.Outlines.{no_outline, stored_outline, check_finite, proper}
use Rattle.offset.specs.Clear.{is_inside, is_outside, every_vertex}

-- ---- questions 10 to 12 of a region whose rings have passed 4 to 9

unfoldable pub inside_of : List Float → ℕ → PlanarPoint → Bool
inside_of ps n p = is_inside (ring_contains ps n p)

-- question 11: every vertex inside the outer ring, and no edge that meets it
unfoldable pub hole_free : List Float → ℕ → List Float → ℕ → Bool
hole_free ps n qs m = every_vertex (inside_of ps n) qs m && not (rings_meet ps n qs m)

unfoldable pub hole_step : Region → ℕ → Refusal → Refusal
hole_step r k s =
    cond (granted s)
    (cond (hole_free r.outer.points r.outer.count (hole_points r k) (hole_count r k)) Granted (HoleOutside k))
    s

unfoldable pub check_holes : Region → Refusal
check_holes r = rounds (hole_step r) r.holes Granted

-- question 12: no edges meet, and neither holds the other's first vertex
unfoldable pub holes_touch : List Float → ℕ → List Float → ℕ → Bool
holes_touch ps n qs m =
    rings_meet ps n qs m ||
    (not (is_outside (ring_contains qs m (vertex_at ps 0))) || not (is_outside (ring_contains ps n (vertex_at qs 0))))

unfoldable pub second_step : Region → ℕ → ℕ → Refusal → Refusal
second_step r first k s =
    cond (granted s)
    (cond (holes_touch (hole_points r first) (hole_count r first) (hole_points r (first + 1 + k)) (hole_count r (first + 1 + k)))
    (HolesTouch first (first + 1 + k))
    Granted)
    s

unfoldable pub first_step : Region → ℕ → Refusal → Refusal
first_step r first s = cond (granted s) (rounds (second_step r first) (r.holes - (first + 1)) Granted) s

unfoldable pub check_apart : Region → Refusal
check_apart r = rounds (first_step r) r.holes Granted

unfoldable pub then_apart : Region → Refusal → Refusal
then_apart r s = cond (granted s) (check_apart r) s

unfoldable pub check_region : Region → Refusal
check_region r = cond (leb r.holes 8) (then_apart r (check_holes r)) (ManyHoles r.holes)

unfoldable pub region_refused : Refusal → NewRegion
region_refused r = record { refusal = r; shape = no_region }

unfoldable pub region_if : Region → Refusal → NewRegion
region_if r s = cond (granted s) (record { refusal = Granted; shape = r }) (region_refused s)

-- ---- a region from numbers: questions 1 to 12 and 27. Ring k has `get_or lengths k` vertices, one ring after the other; every ring passes
-- 4 to 9 and 27 before 10 is asked

-- the shape beside a refused ring is empty
unfoldable pub rings_refused : RegionLoad → Refusal → RegionLoad
rings_refused s r = record { refusal = r; shape = no_region; start = s.start }

unfoldable pub hole_loaded : RegionLoad → List Float → ℕ → Checked → RegionLoad
hole_loaded s ps n c =
    cond (granted c.refusal)
    (record { refusal = Granted; shape = with_hole s.shape ps c.count c.back; start = s.start + n })
    (rings_refused s c.refusal)

-- ring k + 1 of the input is hole k
unfoldable pub hole_load_step : List ℕ → List Float → ℕ → RegionLoad → RegionLoad
hole_load_step lengths ps k s =
    cond (granted s.refusal)
    (hole_loaded s (drop (2 * s.start) ps) (get_or lengths (k + 1) 0)
    (check_door 32 (k + 1) (drop (2 * s.start) ps) (get_or lengths (k + 1) 0)))
    s

unfoldable pub outer_loaded : List Float → ℕ → Checked → RegionLoad
outer_loaded ps n c =
    cond (granted c.refusal)
    (record { refusal = Granted; shape = with_outer no_region (stored_outline ps c.count c.back); start = n })
    (record { refusal = c.refusal; shape = no_region; start = n })

unfoldable pub load_rings : List ℕ → List Float → RegionLoad
load_rings lengths ps =
    rounds (hole_load_step lengths ps) (length lengths - 1)
    (outer_loaded ps (get_or lengths 0 0) (check_door 128 0 ps (get_or lengths 0 0)))

unfoldable pub region_loaded : RegionLoad → NewRegion
region_loaded s = cond (granted s.refusal) (region_if s.shape (check_region s.shape)) (region_refused s.refusal)

unfoldable pub total_step : List ℕ → ℕ → ℕ → ℕ
total_step lengths k s = s + get_or lengths k 0

unfoldable pub total : List ℕ → ℕ
total lengths = rounds (total_step lengths) (length lengths) 0

-- question 3: is there at least one ring, and do the ring lengths add up to the points? The sum is a natural number, so none is too large.
unfoldable pub lengths_fit : List ℕ → List Float → Bool
lengths_fit lengths ps = ltb 0 (length lengths) && eqb (2 * total lengths) (length ps)

unfoldable pub region_finite : List ℕ → List Float → Refusal → NewRegion
region_finite lengths ps r =
    cond (granted r)
    (cond (lengths_fit lengths ps) (region_loaded (load_rings lengths ps)) (region_refused Lengths))
    (region_refused r)

unfoldable pub region : List ℕ → List Float → NewRegion
region lengths ps = cond (eqb (length ps % 2) 0) (region_finite lengths ps (check_finite ps)) (region_refused Odd)

-- question 21 of a region
unfoldable pub proper_step : Region → ℕ → Bool → Bool
proper_step r k s = s && proper 32 (hole_points r k) (hole_count r k)

unfoldable pub proper_region : Region → Bool
proper_region r =
    proper 128 r.outer.points r.outer.count && (leb r.holes 8 && rounds (proper_step r) r.holes true)

-- ---- holes.rs, `Region::new` and `without_holes` of outlines that are handed in: 21 of the outer ring and of each hole, then 10 to 12

unfoldable pub given_hole : List Outline → ℕ → Outline
given_hole hs k = get_or hs k no_outline

unfoldable pub proper_given_step : List Outline → ℕ → Bool → Bool
proper_given_step hs k s = s && proper 32 (given_hole hs k).points (given_hole hs k).count

unfoldable pub proper_given : Outline → List Outline → Bool
proper_given o hs = proper 128 o.points o.count && rounds (proper_given_step hs) (length hs) true

unfoldable pub given_step : List Outline → ℕ → Region → Region
given_step hs k r = with_hole r (given_hole hs k).points (given_hole hs k).count false

unfoldable pub given_rings : Outline → List Outline → Region
given_rings o hs = rounds (given_step hs) (length hs) (with_outer no_region o)

unfoldable pub region_given : Outline → List Outline → NewRegion
region_given o hs = cond (proper_given o hs) (region_if (given_rings o hs) (check_region (given_rings o hs))) (region_refused Shape)

unfoldable pub without_holes : Outline → NewRegion
without_holes o =
    cond (proper 128 o.points o.count) (record { refusal = Granted; shape = with_outer no_region o }) (region_refused Shape)

-- opens every definition above, for a proof that computes with all of them
unfoldable pub open_checks : Unit {0}
unfolding inside_of hole_free hole_step check_holes holes_touch second_step first_step check_apart then_apart check_region region_refused
    region_if rings_refused hole_loaded hole_load_step outer_loaded load_rings region_loaded total_step total lengths_fit region_finite
    region proper_step proper_region given_hole proper_given_step proper_given given_step given_rings region_given without_holes
open_checks = tt
