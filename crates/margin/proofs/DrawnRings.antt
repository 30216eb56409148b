-- The margin from what was drawn: a region's numbers. Ring l of what is loaded stands for ring l of the numbers. Assumes nothing.
use Prim.Native.Nat.{ℕ, zero, suc, ◌+◌, ◌-◌, ◌*◌, ◌%◌, ◌≤◌, ◌<◌}
use native.Mathlib.Omega.{arith}
use mathlib.Core.Path.{◌≡◌, refl, sym, ap, ◌∙◌, subst}
use mathlib.Core.Bool.{Bool, true, false, false≢true}
use mathlib.Core.List.{List}
use borrow.Author.Tests.{ltb-true, ltb-false}
use lib.Dec.{T, ltb, eqb}
use lib.ListN.{get_or, drop, set, length, length-set, length-replicate}
use lib.Seq.{get_or-drop, get_or-set_same, get_or-set_other}
use lib.Ieee.{Float, nan, binary64, fits}
use Rattle.error.specs.declared.Refusal.{Refusal}
use Rattle.error.specs.declared.Refusal.TheVariants.{Granted, Lengths, Odd}
use Rattle.error.specs.Refusals.{number, values, granted}
use Rattle.math.specs.Number.{zero_float}
use Rattle.base.specs.Loop.{rounds}
use Rattle.base.proofs.Laws.{rounds_keep}
use Rattle.base.proofs.Choices.{by_cases, by_test}
use Rattle.base.proofs.Choices.{both}
use Rattle.base.proofs.Sums.{sums_to}
use Rattle.margins.specs.Far.{over, magnitude}
use Rattle.ring.specs.Ring.{vertex_at, stored_at}
use Rattle.ring_check.specs.declared.Checked.{Checked}
use Rattle.ring_check.specs.Checks.{check_door}
use Rattle.ring_check.proofs.Sound.{check_sound}
use Rattle.outline.specs.declared.Outline.{Outline}
use Rattle.outline.specs.Outlines.{stored_outline, check_finite}
use Rattle.ring.proofs.Storing.{stored_length, stored_new, stored_old}
use Rattle.region.specs.declared.Region.{Region}
use Rattle.region.specs.declared.RegionLoad.{RegionLoad}
use Rattle.region.specs.declared.NewRegion.{NewRegion}
use Rattle.region.specs.Regions.{no_region, hole_points, hole_count, ring_points, ring_count, with_outer, store_hole, count_hole, with_hole, region_extent}
use Rattle.region.specs.Checks.{check_region, region_refused, region_if, rings_refused, hole_loaded, hole_load_step, outer_loaded, load_rings, region_loaded, total_step, total, lengths_fit, region_finite, region}
use Rattle.region.specs.Insets.{region_inset}
use Rattle.region.proofs.Holes.{hole_vertex}
use Rattle.region.proofs.LengthsFit.{some_ring}
use Rattle.region.proofs.Loaded.{region_again}
use Rattle.margin.specs.Margin.{Doubles, RingFar, Largest, RegionDoubles, LargestOfRings}
use Rattle.margin.specs.Lent.{ring_in}
use Rattle.margin.specs.Drawn.{DrawnRings, RegionMargin}
use Rattle.margin.proofs.RegionExtents.{region_largest_is}
use Rattle.margin.proofs.DoublesKept.{zeros_doubles, stored_doubles, outline_doubles}
use Rattle.margin.proofs.Regions.{inset_margin}
use Rattle.margin.proofs.Lent.{few_holes}
use Rattle.margin.proofs.Stands.{Stands, Place, drawn_far, drawn_each, drawn_place}
use Rattle.margin.proofs.Drawn.{checked_stands, outline_stands}

-- the same vertices elsewhere stand for the same ring
elsewhere : (qs rs : List Float) (m c : ℕ) (ps : List Float) (n : ℕ) → c ≡ m → ((k : ℕ) → k < m → vertex_at rs k ≡ vertex_at qs k) → Stands qs m ps n → Stands rs c ps n
elsewhere qs rs m c ps n e same s =
    subst (λ (j : ℕ). Stands rs j ps n) (sym e) (record { back = s.back; some = s.some; left = s.left; each = λ k l. same k l ∙ s.each k l })

-- ---- a hole more: the others are as they were

pub record Room (q : Region) : Type 0 where
  pub size : length q.points ≡ 512
  pub places : length q.counts ≡ 8

-- hole j of q stands for n vertices of ps
pub record Hole (q : Region) (j : ℕ) (ps : List Float) (n : ℕ) : Type 0 where
  pub stands : Stands (hole_points q j) (hole_count q j) ps n
  pub few : hole_count q j ≤ 32

module _ (q : Region) (room : Room q) (qs : List Float) (n : ℕ) (back : Bool) (fit : n ≤ 32) where
  -- what a region with one hole more has
  pub record More (r : Region) : Type 0 where
    pub outer : r.outer ≡ q.outer
    pub holes : r.holes ≡ q.holes + 1
    pub rooms : Room r
    pub old : (j : ℕ) (ps : List Float) (c : ℕ) → j < q.holes → j < 8 → Hole q j ps c → Hole r j ps c
    pub new : q.holes < 8 → (ps : List Float) (c : ℕ) → ((rs : List Float) → ((k : ℕ) → k < n → vertex_at rs k ≡ stored_at qs n back k) → Stands rs n ps c) → Hole r q.holes ps c
    pub doubles : Doubles qs → RegionDoubles q → RegionDoubles r

  abbrev points : List Float
  points = (store_hole q qs n back).points

  at_hole : (j k : ℕ) → vertex_at (drop (64 * j) points) k ≡ vertex_at points (32 * j + k)
  at_hole j k = hole_vertex points (64 * j) (32 * j) k (omega arith)

  store_more : q.holes < 8 → More (store_hole q qs n back)
  unfolding store_hole hole_points hole_count
  store_more l = record {
    outer = refl;
    holes = refl;
    rooms = record { size = stored_length qs n back _ q.points ∙ room.size; places = length-set q.counts q.holes n ∙ room.places };
    old = λ j ps c z e h.
        let count : get_or (set q.counts q.holes n) j 0 ≡ get_or q.counts j 0 = get_or-set_other q.counts q.holes j n 0 (λ a. omega arith) in
        record {
          stands = elsewhere (drop (64 * j) q.points) (drop (64 * j) points) (get_or q.counts j 0) (get_or (set q.counts q.holes n) j 0) ps c count
              (λ k m. at_hole j k ∙ stored_old qs n back (32 * q.holes) q.points (32 * j + k) (omega (arith, h.few)) ∙ sym (hole_vertex q.points (64 * j) (32 * j) k (omega arith)))
              h.stands;
          few = omega (arith, count, h.few);
        };
    new = λ z ps c h.
        let count : get_or (set q.counts q.holes n) q.holes 0 ≡ n = get_or-set_same q.counts q.holes n 0 (omega (arith, room.places)) in
        record {
          stands = subst (λ (m : ℕ). Stands (drop (64 * q.holes) points) m ps c) (sym count)
              (h (drop (64 * q.holes) points) (λ k m. at_hole q.holes k ∙ stored_new qs n back (32 * q.holes) q.points (omega (arith, room.size)) k m));
          few = omega (arith, count);
        };
    doubles = λ d h. record { outer = h.outer; holes = stored_doubles qs n back (32 * q.holes) q.points d h.holes };
  }

  count_more : 8 ≤ q.holes → More (count_hole q)
  unfolding count_hole hole_points hole_count
  count_more l = record {
    outer = refl;
    holes = refl;
    rooms = record { size = room.size; places = room.places };
    old = λ j ps c z e h. record { stands = h.stands; few = h.few };
    new = λ z. absurd (omega arith);
    doubles = λ d h. record { outer = h.outer; holes = h.holes };
  }

  pub with_more : More (with_hole q qs n back)
  unfolding with_hole
  with_more = by_test More (ltb q.holes 8) (λ l. store_more (ltb-true q.holes 8 l)) (λ l. count_more (ltb-false q.holes 8 l))

-- ---- the walk that loads them

module _ (lengths : List ℕ) (ps : List Float) where
  abbrev before : ℕ → ℕ
  before k = rounds (total_step lengths) k 0

  pub record LoadedTo (k : ℕ) (s : RegionLoad) : Type 0 where
    pub start : s.start ≡ before (suc k)
    pub holes : s.shape.holes ≡ k
    pub room : Room s.shape
    pub outer : Stands s.shape.outer.points s.shape.outer.count ps (get_or lengths 0 0)
    pub each : (j : ℕ) → j < k → j < 8 → Hole s.shape j (ring_in lengths ps (suc j)) (get_or lengths (suc j) 0)
    pub doubles : Doubles ps → RegionDoubles s.shape

  pub record Loading (k : ℕ) (s : RegionLoad) : Type 0 where
    pub loaded : granted s.refusal ≡ true → LoadedTo k s

  pub outer_loading : Loading 0 (outer_loaded ps (get_or lengths 0 0) (check_door 128 0 ps (get_or lengths 0 0)))
  unfolding outer_loaded with_outer no_region rounds total_step stored_outline
  outer_loading =
      let n : ℕ = get_or lengths 0 0 in
      let c : Checked = check_door 128 0 ps n in
      by_test (Loading 0) (granted c.refusal)
      (λ g. record {
        loaded = λ q. record {
          start = omega arith;
          holes = refl;
          room = record { size = length-replicate 512 zero_float; places = length-replicate {A = ℕ} 8 0 };
          outer = outline_stands ps n g;
          each = λ j l. absurd (omega arith);
          doubles = λ d. record { outer = (outline_doubles ps c.count c.back d).all; holes = zeros_doubles 512 };
        };
      })
      (λ g. record { loaded = λ q. absurd (false≢true (sym g ∙ q)) })

  pub ring_in_doubles : (l : ℕ) → Doubles ps → Doubles (ring_in lengths ps l)
  unfolding ring_in
  ring_in_doubles l d k = subst (λ (x : Float). T (fits binary64 x)) (sym (get_or-drop (2 * before l) ps k nan)) (d (2 * before l + k))

  module _ (k : ℕ) (s : RegionLoad) (h : LoadedTo k s) where
    abbrev qs : List Float
    qs = drop (2 * s.start) ps

    abbrev n : ℕ
    n = get_or lengths (k + 1) 0

    pub n_is : n ≡ get_or lengths (suc k) 0
    n_is = ap (λ (i : ℕ). get_or lengths i 0) (omega arith)

    pub qs_is : qs ≡ ring_in lengths ps (suc k)
    unfolding ring_in
    qs_is = ap (λ (i : ℕ). drop (2 * i) ps) h.start

    next_start : s.start + n ≡ before (suc (suc k))
    unfolding rounds total_step
    next_start = omega (arith, h.start, n_is)

    hole_loading : Loading (suc k) (hole_loaded s qs n (check_door 32 (k + 1) qs n))
    unfolding hole_loaded rings_refused
    hole_loading =
        let c : Checked = check_door 32 (k + 1) qs n in
        by_test (Loading (suc k)) (granted c.refusal)
        (λ g.
        let fit : c.count ≤ 32 = (check_sound true 32 (k + 1) qs n g).fits in
        let more : More s.shape h.room qs c.count c.back fit (with_hole s.shape qs c.count c.back) = with_more s.shape h.room qs c.count c.back fit in
        record { loaded = λ q. next (with_hole s.shape qs c.count c.back) c.count c.back fit more (λ rs same. checked_stands 32 (k + 1) qs n rs g same) })
        (λ g. record { loaded = λ q. absurd (false≢true (sym g ∙ q)) })
      where
        next : (r : Region) (m : ℕ) (back : Bool) (fit : m ≤ 32) → More s.shape h.room qs m back fit r → ((rs : List Float) → ((i : ℕ) → i < m → vertex_at rs i ≡ stored_at qs m back i) → Stands rs m qs n)
            → LoadedTo (suc k) (record { refusal = Granted; shape = r; start = s.start + n })
        next r m back fit w new = record {
          start = next_start;
          holes = w.holes ∙ omega (arith, h.holes);
          room = w.rooms;
          outer = subst (λ (o : Outline). Stands o.points o.count ps (get_or lengths 0 0)) (sym w.outer) h.outer;
          each = λ j l z. by_cases j k
              (λ e. rw e (subst (λ (i : ℕ). Hole r i (ring_in lengths ps (suc k)) (get_or lengths (suc k) 0)) h.holes
              (w.new (omega (arith, h.holes)) (ring_in lengths ps (suc k)) (get_or lengths (suc k) 0)
              (λ rs same. subst (λ (c : ℕ). Stands rs m (ring_in lengths ps (suc k)) c) n_is (subst (λ (x : List Float). Stands rs m x n) qs_is (new rs same))))))
              (λ e. w.old j (ring_in lengths ps (suc j)) (get_or lengths (suc j) 0) (omega (arith, h.holes)) z (h.each j (omega arith) z));
          doubles = λ d. w.doubles (subst Doubles (sym qs_is) (ring_in_doubles (suc k) d)) (h.doubles d);
        }

  pub step_loading : (k : ℕ) (s : RegionLoad) → Loading k s → Loading (suc k) (hole_load_step lengths ps k s)
  unfolding hole_load_step
  step_loading k s h =
      by_test (Loading (suc k)) (granted s.refusal) (λ g. hole_loading k s (h.loaded g)) (λ g. record { loaded = λ q. absurd (false≢true (sym g ∙ q)) })

  rings_loaded : granted (load_rings lengths ps).refusal ≡ true → LoadedTo (length lengths - 1) (load_rings lengths ps)
  unfolding load_rings
  rings_loaded q =
      (rounds_keep (hole_load_step lengths ps) Loading (outer_loaded ps (get_or lengths 0 0) (check_door 128 0 ps (get_or lengths 0 0))) outer_loading step_loading (length lengths - 1)).loaded q

  -- ---- a region whose rings stand for those of the numbers

  pub record RegionStands (r : Region) : Type 0 where
    pub rings : r.holes + 1 ≡ length lengths
    pub each : (l : ℕ) → l ≤ r.holes → Stands (ring_points r l) (ring_count r l) (ring_in lengths ps l) (get_or lengths l 0)
    pub doubles : Doubles ps → RegionDoubles r

  loaded_stands : 0 < length lengths → (s : RegionLoad) → LoadedTo (length lengths - 1) s → s.shape.holes ≤ 8 → RegionStands s.shape
  unfolding ring_points ring_count ring_in rounds
  loaded_stands some s h few = record { rings = omega (arith, h.holes); each = ring; doubles = h.doubles }
    where
      ring : (l : ℕ) → l ≤ s.shape.holes → Stands (ring_points s.shape l) (ring_count s.shape l) (ring_in lengths ps l) (get_or lengths l 0)
      ring zero l = h.outer
      ring (suc j) l = (h.each j (omega (arith, h.holes)) (omega arith)).stands

  -- ---- the largest coordinate of all the numbers

  all_rings : (M : ℕ) (c : ℕ) → ((l i : ℕ) → l < c → i < 2 * get_or lengths l 0 → magnitude (get_or (ring_in lengths ps l) i nan) ≤ M) → (k : ℕ) → k < 2 * before c → magnitude (get_or ps k nan) ≤ M
  unfolding ring_in rounds total_step
  all_rings M zero h k l = absurd (omega arith)
  all_rings M (suc c) h k l = by_test (λ (b : Bool). magnitude (get_or ps k nan) ≤ M) (ltb k (2 * before c)) {x = true} {y = false}
      (λ e. all_rings M c (λ l i z. h l i (omega arith)) k (ltb-true k (2 * before c) e))
      (λ e. let z : 2 * before c ≤ k = ltb-false k (2 * before c) e in
      subst (λ (x : Float). magnitude x ≤ M) (get_or-drop (2 * before c) ps (k - 2 * before c) nan ∙ ap (λ (i : ℕ). get_or ps i nan) (omega arith)) (h c (k - 2 * before c) (omega arith) (omega arith)))

  before_grows : (l c : ℕ) → l < c → before l + get_or lengths l 0 ≤ before c
  unfolding rounds total_step
  before_grows l c h = sums_to (total_step lengths) (λ i. get_or lengths i 0) (λ i s. refl) (suc l) c h

  module _ (r : Region) (s : RegionStands r) (M : ℕ) (d : Doubles ps) (h : LargestOfRings r M) where
    held : (l : ℕ) → l < length lengths → l ≤ r.holes
    held l y = omega (arith, s.rings)

    ring_each : (l i : ℕ) → l < length lengths → i < 2 * get_or lengths l 0 → magnitude (get_or (ring_in lengths ps l) i nan) ≤ M
    ring_each l i z =
        let y : l ≤ r.holes = held l z in
        drawn_each (ring_points r l) (ring_count r l) (ring_in lengths ps l) (get_or lengths l 0) (s.each l y) M (ring_in_doubles l d) (λ k x. h.each l k y x) i

    pub rings_largest : Largest ps (total lengths) M
    unfolding total ring_in
    rings_largest =
        let l : ℕ = h.ring in
        let z : l < length lengths = omega (arith, s.rings, h.held) in
        let p : Place (ring_points r l) (ring_count r l) (ring_in lengths ps l) (get_or lengths l 0) (s.each l h.held) h.place =
        drawn_place (ring_points r l) (ring_count r l) (ring_in lengths ps l) (get_or lengths l 0) (s.each l h.held) h.place h.within in
        record {
          each = all_rings M (length lengths) ring_each;
          place = 2 * before l + p.at;
          within = omega (arith, p.within, before_grows l (length lengths) z);
          reached = ap magnitude (sym (get_or-drop (2 * before l) ps p.at nan) ∙ p.is) ∙ h.reached;
        }

    -- what keeps the margin from the rings of r keeps it from those that were drawn
    pub drawn_rings : (x : Float) (rings : ℕ) (ring : ℕ → List Float) (count : ℕ → ℕ) → ((k l : ℕ) → k < rings → l ≤ r.holes → RingFar (over x) M (ring k) (count k) (ring_points r l) (ring_count r l))
        → DrawnRings x lengths ps rings ring count
    drawn_rings x rings ring count far = record {
      most = M;
      largest = rings_largest;
      far = λ k l z y.
          let i : l ≤ r.holes = held l y in
          drawn_far (ring_points r l) (ring_count r l) (ring_in lengths ps l) (get_or lengths l 0) (s.each l i) (over x) M (ring k) (count k) (ring_in_doubles l d) (far k l z i);
    }

  -- ---- the region that 4 to 12 with 27, and that 1 to 12 with 27 make of the numbers

  record LoadedStands (a : NewRegion) : Type 0 where
    stands : granted a.refusal ≡ true → a.shape.holes ≤ 8 → RegionStands a.shape

  refused_stands : (u : Refusal) → granted u ≡ false → LoadedStands (region_refused u)
  unfolding region_refused
  refused_stands u h = record { stands = λ q. absurd (false≢true (sym h ∙ q)) }

  pub rings_stand : 0 < length lengths → granted (region_loaded (load_rings lengths ps)).refusal ≡ true → RegionStands (region_loaded (load_rings lengths ps)).shape
  unfolding region_loaded region_if region_refused granted number values
  rings_stand some q = both_stand.stands q (few_holes (region_loaded s).shape ((region_again.rings lengths ps).proper q))
    where
      s : RegionLoad
      s = load_rings lengths ps

      both_stand : LoadedStands (region_loaded s)
      both_stand = by_test LoadedStands (granted s.refusal)
          (λ g. by_test LoadedStands (granted (check_region s.shape))
          (λ e. record { stands = λ q few. loaded_stands some s (rings_loaded g) few })
          (λ e. refused_stands (check_region s.shape) e))
          (λ g. refused_stands s.refusal g)

  pub record Accepted (a : NewRegion) : Type 0 where
    pub is : granted a.refusal ≡ true → region_loaded (load_rings lengths ps) ≡ a
    some : granted a.refusal ≡ true → 0 < length lengths

  refused_not : (u : Refusal) → granted u ≡ false → Accepted (region_refused u)
  unfolding region_refused
  refused_not u h = record { is = λ q. absurd (false≢true (sym h ∙ q)); some = λ q. absurd (false≢true (sym h ∙ q)) }

  pub region_is : Accepted (region lengths ps)
  unfolding region region_finite granted number values
  region_is =
      both Accepted (eqb (length ps % 2) 0)
      (by_test Accepted (granted (check_finite ps))
      (λ f. by_test Accepted (lengths_fit lengths ps)
      (λ t. record { is = λ q. refl; some = λ q. some_ring lengths ps t })
      (λ t. refused_not Lengths refl))
      (λ f. refused_not (check_finite ps) f))
      (refused_not Odd refl)

  pub region_stands : granted (region lengths ps).refusal ≡ true → RegionStands (region lengths ps).shape
  region_stands q =
      let e : region_loaded (load_rings lengths ps) ≡ region lengths ps = region_is.is q in
      subst (λ (a : NewRegion). granted a.refusal ≡ true → RegionStands a.shape) e (rings_stand (region_is.some q)) q

  -- the margin from the rings of that region is the margin from the numbers
  pub region_drawn : Doubles ps → granted (region lengths ps).refusal ≡ true → (x : Float) (rings : ℕ) (ring : ℕ → List Float) (count : ℕ → ℕ)
      → ((k l : ℕ) → k < rings → l ≤ (region lengths ps).shape.holes
      → RingFar (over x) (over (region_extent (region lengths ps).shape)) (ring k) (count k) (ring_points (region lengths ps).shape l) (ring_count (region lengths ps).shape l))
      → DrawnRings x lengths ps rings ring count
  region_drawn d q =
      let r : Region = (region lengths ps).shape in
      let s : RegionStands r = region_stands q in
      drawn_rings r s (over (region_extent r)) d (region_largest_is r (s.doubles d) ((region_again.loaded lengths ps).proper q))

pub region_margin : RegionMargin
region_margin lengths ps d pd fd g h l =
    let r : Region = (region lengths ps).shape in
    let q : Region = (region_inset r d).shape in
    region_drawn lengths ps pd g d (q.holes + 1) (ring_points q) (ring_count q) (λ k i z y. inset_margin r d ((region_stands lengths ps g).doubles pd) fd h l k i (omega arith) y)
