-- The rings of a region handed in are the region's; how many vertices they have; what a write answers. Assumes nothing.
use Prim.Native.Nat.{ℕ, zero, suc, ◌+◌, ◌*◌, ◌≤◌, ◌<◌}
use native.Mathlib.Omega.{arith}
use mathlib.Core.Path.{◌≡◌, refl, sym, ap, ◌∙◌}
use mathlib.Core.Bool.{Bool, true, false, not, ◌&&◌}
use mathlib.Core.List.{List}
use mathlib.Mathlib.Data.Bool.Basic.{and_elim_left, and_elim_right}
use lib.Dec.{leb}
use lib.ListN.{length, set, replicate}
use lib.Ieee.{Float}
use borrow.Author.Tests.{leb-true, le-leb, lt-leb, not-true, not-false}
use Rattle.base.specs.Loop.{rounds}
use Rattle.base.proofs.Laws.{goes_on, rounds_same}
use Rattle.base.proofs.Tests.{all_pass}
use Rattle.error.specs.declared.Refusal.{Refusal}
use Rattle.error.specs.declared.Refusal.TheVariants.{Granted, Short, Shape}
use Rattle.region.specs.declared.Region.{Region}
use Rattle.region.specs.declared.RegionWritten.{RegionWritten}
use Rattle.error.specs.Refusals.{values, number, granted}
use Rattle.outline.specs.Outlines.{proper, ask}
use Rattle.outline_lent.specs.Writes.{write_ring, write_refusal, write_step}
use Rattle.region.specs.Regions.{ring_points, ring_count, hole_points, hole_count, region_of}
use Rattle.region.specs.Checks.{proper_step, proper_region}
use Rattle.region.specs.Queries.{ask_region, before_step, before, needed, write_rings_step, write_rings, nine_counts, no_rings, rings_told, write_region, region_write, written_region}
use Rattle.region.specs.Answers.{RingsWrote}
use Rattle.region.proofs.Lent.{region_lent}
use Rattle.region.proofs.NineCounts.{counts_stored}
use Rattle.front.proofs.Demand.Shapes.{proper_is}
use Rattle.outline_lent.proofs.Written.{ring_writing}
use Rattle.region_lent.specs.Rings.{count_of, points_of, before_of_step, before_of, counts_of_step, counts_of, Few, region_told}

-- ---- one ring more

module _ (n : ℕ) (cs : List ℕ) (k x : ℕ) (e : x ≡ count_of n cs k) where
  pub before_on : (s : ℕ) → s ≡ before_of n cs k → s + x ≡ before_of n cs (k + 1)
  unfolding before_of before_of_step
  before_on s q = goes_on (before_of_step n cs) 0 s (s + x) k q (ap (λ (y : ℕ). s + y) e)

  pub counts_on : (z s : List ℕ) → s ≡ rounds (counts_of_step n cs) k z → set s k x ≡ rounds (counts_of_step n cs) (k + 1) z
  unfolding counts_of_step
  counts_on z s q = goes_on (counts_of_step n cs) z s (set s k x) k q (ap (set s k) e)

-- ---- sums of few rings

module _ (n : ℕ) (cs : List ℕ) (h : ℕ) (f : Few n cs h) where
  before_bound : (k : ℕ) → k ≤ h + 1 → before_of n cs k ≤ 128 * k
  unfolding before_of before_of_step rounds
  before_bound zero l = omega arith
  before_bound (suc k) l = omega (arith, before_bound k (omega arith), f.each k (omega arith))

  pub sum_bound : (k s x : ℕ) → k < h + 1 → s ≡ before_of n cs k → x ≡ count_of n cs k → s + x ≤ 1280
  sum_bound k s x l e q = omega (arith, before_bound k (omega arith), f.each k (omega arith), f.holes)

  pub count_bound : (k x : ℕ) → k < h + 1 → x ≡ count_of n cs k → x ≤ 128
  count_bound k x l e = omega (arith, f.each k (omega arith))

  pub base_bound : (k base x : ℕ) → k < h + 1 → base ≡ 2 * before_of n cs k → x ≡ count_of n cs k → base + 2 * x ≤ 2560
  base_bound k base x l e q = omega (arith, sum_bound k (before_of n cs k) x l refl q)

  pub all_bound : (v : ℕ) → v ≡ before_of n cs (h + 1) → v ≤ 1152
  all_bound v e = omega (arith, before_bound (h + 1) (omega arith), f.holes)

-- ---- the rings

module _ (ps : List Float) (n : ℕ) (hs : List Float) (cs : List ℕ) (h : ℕ) where
  abbrev r : Region
  r = region_of ps n hs cs h

  pub count_is : (k : ℕ) → ring_count r k ≡ count_of n cs k
  unfolding ring_count hole_count region_of count_of
  count_is zero = refl
  count_is (suc k) = refl

  pub points_is : (k : ℕ) → ring_points r k ≡ points_of ps hs k
  unfolding ring_points hole_points region_of points_of
  points_is zero = refl
  points_is (suc k) = refl

  pub before_is : (k : ℕ) → before r k ≡ before_of n cs k
  unfolding before before_step before_of before_of_step
  before_is k = rounds_same (before_step r) (before_of_step n cs) k 0 (λ j l s. ap (λ (x : ℕ). s + x) (count_is j))

  pub counts_are : nine_counts r ≡ counts_of n cs h
  unfolding counts_of counts_of_step region_of
  counts_are = counts_stored r ∙ rounds_same (λ j s. set s j (ring_count r j)) (counts_of_step n cs) (h + 1) (replicate 9 0) (λ j l s. ap (set s j) (count_is j))

  module _ (q : proper_region r ≡ true) where
    outer_fits : n ≤ 128
    unfolding proper_region region_of
    outer_fits = (proper_is 128 ps n (and_elim_left (proper 128 ps n) (leb h 8 && rounds (proper_step r) h true) q)).fits

    rest_proper : (leb h 8 && rounds (proper_step r) h true) ≡ true
    unfolding proper_region region_of
    rest_proper = and_elim_right (proper 128 ps n) (leb h 8 && rounds (proper_step r) h true) q

    hole_fits : (k : ℕ) → k < h → hole_count r k ≤ 32
    unfolding proper_step
    hole_fits k l =
        (proper_is 32 (hole_points r k) (hole_count r k)
        (all_pass (proper_step r) (λ i. proper 32 (hole_points r i) (hole_count r i)) (λ i s. refl) h (and_elim_right (leb h 8) (rounds (proper_step r) h true) rest_proper) k l)).fits

    each_fits : (k : ℕ) → k ≤ h → count_of n cs k ≤ 128
    unfolding count_of hole_count region_of
    each_fits zero l = outer_fits
    each_fits (suc k) l = omega (arith, hole_fits k (omega arith))

    pub few : Few n cs h
    few = record { holes = leb-true h 8 (and_elim_left (leb h 8) (rounds (proper_step r) h true) rest_proper); each = each_fits }

  pub few_by : (g : Bool) → g ≡ proper_region r → not g ≡ false → Few n cs h
  few_by g e t = few (sym e ∙ not-false g t)

  -- ring k written after the rings before it
  pub rings_on : (out₀ out w ring : List Float) (k base x : ℕ) → base ≡ 2 * before_of n cs k → x ≡ count_of n cs k → ring ≡ points_of ps hs k →
      out ≡ rounds (write_rings_step r) k out₀ → w ≡ rounds (write_step ring base) (2 * x) out → w ≡ rounds (write_rings_step r) (k + 1) out₀
  unfolding write_rings_step write_ring
  rings_on out₀ out w ring k base x b e p o i = goes_on (write_rings_step r) out₀ out w k o (i ∙ rw (p, b, e, ← points_is k, ← before_is k, ← count_is k) refl)

  needed_is : needed r ≡ 2 * before_of n cs (h + 1)
  unfolding needed region_of
  needed_is = ap (λ (x : ℕ). 2 * x) (before_is (h + 1))

pub base_on : (n : ℕ) (cs : List ℕ) (k base x : ℕ) → base ≡ 2 * before_of n cs k → x ≡ count_of n cs k → base + 2 * x ≡ 2 * before_of n cs (k + 1)
base_on n cs k base x b e = omega (arith, before_on n cs k x e (before_of n cs k) refl)

pub same_size : (ring : List Float) (x base : ℕ) (out w : List Float) → w ≡ rounds (write_step ring base) (2 * x) out → length w ≡ length out
unfolding write_ring
same_size ring x base out w e = ap (λ (l : List Float). length l) e ∙ (ring_writing ring x base out).size

-- ---- what a write answers, and the lent numbers afterwards

abbrev told : ℕ → List ℕ → RegionWritten
told k l = record { refusal = Granted; rings = k; counts = l }

abbrev pub Answered : Region → List Float → RegionWritten → List Float → Type 0
Answered r out x w = (x ≡ region_write r out) × ((w ≡ written_region r out) × RingsWrote x.refusal r out w)

module _ (r : Region) (out : List Float) where
  answered : (x : RegionWritten) (w : List Float) → x ≡ region_write r out → w ≡ written_region r out → Answered r out x w
  answered x w e q = (e, (q, rw (e, q) (region_lent r out)))

  refused : (u : Refusal) (x : RegionWritten) → write_region r out ≡ u → granted u ≡ false → x ≡ no_rings u → Answered r out x out
  unfolding region_write rings_told written_region
  refused u x e h q = answered x out (q ∙ rw (e, h) refl) (rw (e, h) refl)

  accepted : (x : RegionWritten) (w : List Float) → write_region r out ≡ Granted → x ≡ told (r.holes + 1) (nine_counts r) → w ≡ write_rings r out → Answered r out x w
  unfolding region_write rings_told written_region granted number values
  accepted x w e q i = answered x w (q ∙ rw e refl) (i ∙ rw e refl)

  pub improper : (g : Bool) (x : RegionWritten) → g ≡ proper_region r → not g ≡ true → x ≡ no_rings Shape → Answered r out x out
  unfolding write_region ask_region ask granted number values
  improper g x e t q = let f : proper_region r ≡ false = sym e ∙ not-true g t in refused Shape x (rw f refl) refl q

  module _ (g : Bool) (e : g ≡ proper_region r) (t : not g ≡ false) (m : ℕ) (q : m ≡ needed r) where
    passes : proper_region r ≡ true
    passes = sym e ∙ not-false g t

    pub short : (x : RegionWritten) → length out < m → x ≡ no_rings (Short m) → Answered r out x out
    unfolding write_region ask_region ask write_refusal granted number values
    short x l i = refused (Short m) x (rw (passes, ← q, lt-leb m (length out) l) refl) refl i

    pub long : (x : RegionWritten) (w : List Float) → m ≤ length out → x ≡ told (r.holes + 1) (nine_counts r) → w ≡ write_rings r out → Answered r out x w
    unfolding write_region ask_region ask write_refusal
    long x w l i j = accepted x w (rw (passes, ← q, le-leb m (length out) l) refl) i j

module _ (ps : List Float) (n : ℕ) (hs : List Float) (cs : List ℕ) (h : ℕ) where
  pub needed_by : (v : ℕ) → v ≡ before_of n cs (h + 1) → 2 * v ≡ needed (region_of ps n hs cs h)
  needed_by v e = ap (λ (x : ℕ). 2 * x) e ∙ sym (needed_is ps n hs cs h)

  pub told_by : (l : List ℕ) → l ≡ counts_of n cs h → told (h + 1) l ≡ told ((region_of ps n hs cs h).holes + 1) (nine_counts (region_of ps n hs cs h))
  unfolding region_of
  told_by l e = ap (told (h + 1)) (e ∙ sym (counts_are ps n hs cs h))

-- what is told where nothing is written
module _ (r : Region) (g : Bool) (e : g ≡ proper_region r) (x : RegionWritten) where
  pub told_no : not g ≡ true → x ≡ no_rings Shape → x ≡ region_told r
  unfolding region_told rings_told ask_region ask granted number values
  told_no t q = let f : proper_region r ≡ false = sym e ∙ not-true g t in rw f q

  pub told_yes : not g ≡ false → x ≡ told (r.holes + 1) (nine_counts r) → x ≡ region_told r
  unfolding region_told rings_told ask_region ask granted number values
  told_yes t q = let f : proper_region r ≡ true = sym e ∙ not-false g t in rw f q
