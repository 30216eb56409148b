-- The margin from outlines that are handed in as a region: they are stored as they are. Assumes nothing.
use Prim.Native.Nat.{ℕ, zero, suc, ◌≤◌, ◌<◌}
use native.Mathlib.Omega.{arith}
use mathlib.Core.Path.{◌≡◌, refl, sym, ap, ◌∙◌, subst}
use mathlib.Core.Logic.{inl}
use mathlib.Core.Bool.{true, false, false≢true}
use mathlib.Core.List.{List}
use mathlib.Mathlib.Data.Bool.Basic.{and_elim_left, and_elim_right}
use lib.ListN.{length, length-replicate}
use lib.Ieee.{Float}
use Rattle.error.specs.declared.Refusal.{Refusal}
use Rattle.error.specs.declared.Refusal.TheVariants.{Shape}
use Rattle.error.specs.Refusals.{number, values, granted}
use Rattle.math.specs.Number.{zero_float}
use Rattle.ring.specs.Ring.{vertex_at, source, stored_at}
use Rattle.base.specs.Loop.{rounds}
use Rattle.base.proofs.Laws.{rounds_keep}
use Rattle.base.proofs.Choices.{by_cases, by_test}
use Rattle.base.proofs.Tests.{all_pass}
use Rattle.margins.specs.Far.{over, magnitude}
use Rattle.outline.specs.declared.Outline.{Outline}
use Rattle.outline.specs.Outlines.{proper}
use Rattle.front.proofs.Demand.Shapes.{proper_is}
use Rattle.region.specs.declared.Region.{Region}
use Rattle.region.specs.declared.NewRegion.{NewRegion}
use Rattle.region.specs.Regions.{no_region, ring_points, ring_count, with_outer, with_hole, region_extent}
use Rattle.region.specs.Checks.{check_region, proper_region, region_refused, region_if, given_hole, proper_given_step, proper_given, given_step, given_rings, region_given}
use Rattle.region.specs.Insets.{region_inset}
use Rattle.region.proofs.Loaded.{region_again}
use Rattle.margin.specs.Margin.{Doubles, RegionDoubles, LargestOfRings}
use Rattle.margin.specs.Drawn.{given_ring, LargestGiven, RegionGivenMargin}
use Rattle.margin.proofs.DoublesKept.{zeros_doubles}
use Rattle.margin.proofs.RegionExtents.{region_largest_is}
use Rattle.margin.proofs.Regions.{inset_margin}
use Rattle.margin.proofs.Lent.{few_holes}
use Rattle.margin.proofs.Stands.{Stands, drawn_far, drawn_each, Place, drawn_place}
use Rattle.margin.proofs.DrawnRings.{Room, Hole, More, with_more}

-- an outline past 21 that is stored as it is
same_stands : (room : ℕ) (ps : List Float) (n : ℕ) → proper room ps n ≡ true → (qs : List Float) → ((k : ℕ) → k < n → vertex_at qs k ≡ stored_at ps n false k) → Stands qs n ps n
same_stands room ps n h qs e = record { back = false; some = (proper_is room ps n h).three; left = inl refl; each = e }

itself : (ps : List Float) (n k : ℕ) → vertex_at ps k ≡ stored_at ps n false k
unfolding stored_at source
itself ps n k = refl

module _ (o : Outline) (hs : List Outline) (all : (l : ℕ) → Doubles (given_ring o hs l).points) where
  hole_doubles : (l : ℕ) → Doubles (given_hole hs l).points
  unfolding given_ring
  hole_doubles l = all (suc l)

  record GivenTo (k : ℕ) (r : Region) : Type 0 where
    holes : r.holes ≡ k
    room : Room r
    outer : r.outer ≡ o
    each : (j : ℕ) → j < k → j < 8 → Hole r j (given_hole hs j).points (given_hole hs j).count
    doubles : RegionDoubles r

  first_given : GivenTo 0 (with_outer no_region o)
  unfolding with_outer no_region given_ring
  first_given = record {
    holes = refl;
    room = record { size = length-replicate 512 zero_float; places = length-replicate {A = ℕ} 8 0 };
    outer = refl;
    each = λ j l. absurd (omega arith);
    doubles = record { outer = all 0; holes = zeros_doubles 512 };
  }

  next_given : (k : ℕ) (r : Region) → proper 32 (given_hole hs k).points (given_hole hs k).count ≡ true → GivenTo k r → GivenTo (suc k) (given_step hs k r)
  unfolding given_step
  next_given k r p h =
      let ps : List Float = (given_hole hs k).points in
      let n : ℕ = (given_hole hs k).count in
      let fit : n ≤ 32 = (proper_is 32 ps n p).fits in
      let w : More r h.room ps n false fit (with_hole r ps n false) = with_more r h.room ps n false fit in
      record {
        holes = w.holes ∙ omega (arith, h.holes);
        room = w.rooms;
        outer = w.outer ∙ h.outer;
        each = λ j l z. by_cases j k
            (λ e. rw e (subst (λ (i : ℕ). Hole (with_hole r ps n false) i ps n) h.holes (w.new (omega (arith, h.holes)) ps n (same_stands 32 ps n p))))
            (λ e. w.old j (given_hole hs j).points (given_hole hs j).count (omega (arith, h.holes)) z (h.each j (omega arith) z));
        doubles = w.doubles (hole_doubles k) h.doubles;
      }

  module _ (q : proper_given o hs ≡ true) where
    outer_proper : proper 128 o.points o.count ≡ true
    unfolding proper_given
    outer_proper = and_elim_left (proper 128 o.points o.count) (rounds (proper_given_step hs) (length hs) true) q

    hole_proper : (l : ℕ) → l < length hs → proper 32 (given_hole hs l).points (given_hole hs l).count ≡ true
    unfolding proper_given proper_given_step
    hole_proper =
        all_pass (proper_given_step hs) (λ i. proper 32 (given_hole hs i).points (given_hole hs i).count) (λ i s. refl) (length hs)
        (and_elim_right (proper 128 o.points o.count) (rounds (proper_given_step hs) (length hs) true) q)

    given_all : GivenTo (length hs) (given_rings o hs)
    unfolding given_rings
    given_all =
        rounds_keep (given_step hs) (λ k r. k ≤ length hs → GivenTo k r) (with_outer no_region o) (λ l. first_given)
        (λ k r h l. next_given k r (hole_proper k l) (h (omega arith))) (length hs) (omega arith)

  -- a region whose rings are the outlines
  record Rings (r : Region) : Type 0 where
    count : r.holes ≡ length hs
    each : (l : ℕ) → l ≤ length hs → Stands (ring_points r l) (ring_count r l) (given_ring o hs l).points (given_ring o hs l).count
    doubles : RegionDoubles r

  given_stands : proper_given o hs ≡ true → (r : Region) → GivenTo (length hs) r → r.holes ≤ 8 → Rings r
  unfolding ring_points ring_count given_ring
  given_stands q r h few = record { count = h.holes; each = ring; doubles = h.doubles }
    where
      ring : (l : ℕ) → l ≤ length hs → Stands (ring_points r l) (ring_count r l) (given_ring o hs l).points (given_ring o hs l).count
      ring zero l =
          subst (λ (x : Outline). Stands x.points x.count o.points o.count) (sym h.outer)
          (same_stands 128 o.points o.count (outer_proper q) o.points (λ k z. itself o.points o.count k))
      ring (suc j) l = (h.each j (omega arith) (omega (arith, h.holes))).stands

  record Given (a : NewRegion) : Type 0 where
    given : granted a.refusal ≡ true → a.shape.holes ≤ 8 → Rings a.shape

  refused_given : (u : Refusal) → granted u ≡ false → Given (region_refused u)
  unfolding region_refused
  refused_given u h = record { given = λ q. absurd (false≢true (sym h ∙ q)) }

  region_of_given : Given (region_given o hs)
  unfolding region_given region_if granted number values
  region_of_given =
      let r : Region = given_rings o hs in
      by_test Given (proper_given o hs)
      (λ q. by_test Given (granted (check_region r)) (λ g. record { given = λ z few. given_stands q r (given_all q) few }) (λ g. refused_given (check_region r) g))
      (λ q. refused_given Shape refl)

  -- the largest coordinate of its rings is that of the outlines
  module _ (r : Region) (s : Rings r) (M : ℕ) (h : LargestOfRings r M) where
    held : (l : ℕ) → l ≤ length hs → l ≤ r.holes
    held l y = omega (arith, s.count)

    given_largest : LargestGiven o hs M
    given_largest =
        let l : ℕ = h.ring in
        let y : l ≤ length hs = omega (arith, h.held, s.count) in
        let p : Place (ring_points r l) (ring_count r l) (given_ring o hs l).points (given_ring o hs l).count (s.each l y) h.place =
        drawn_place (ring_points r l) (ring_count r l) (given_ring o hs l).points (given_ring o hs l).count (s.each l y) h.place h.within in
        record {
          each = λ l k y z.
              drawn_each (ring_points r l) (ring_count r l) (given_ring o hs l).points (given_ring o hs l).count (s.each l y) M (all l)
              (λ i x. h.each l i (held l y) x) k z;
          ring = l;
          place = p.at;
          held = y;
          within = p.within;
          reached = ap magnitude p.is ∙ h.reached;
        }

pub region_given_margin : RegionGivenMargin
region_given_margin o hs d all fd g h l =
    let r : Region = (region_given o hs).shape in
    let q : Region = (region_inset r d).shape in
    let ok : proper_region r ≡ true = (region_again.given o hs).proper g in
    let s : Rings o hs all r = (region_of_given o hs all).given g (few_holes r ok) in
    let M : ℕ = over (region_extent r) in
    let largest : LargestOfRings r M = region_largest_is r s.doubles ok in
    record {
      most = M;
      largest = given_largest o hs all r s M largest;
      far = λ k i z y.
          drawn_far (ring_points r i) (ring_count r i) (given_ring o hs i).points (given_ring o hs i).count (s.each i y) (over d) M
          (ring_points q k) (ring_count q k) (all i) (inset_margin r d s.doubles fd h l k i z (held o hs all r s M largest i y));
    }
