-- What was written of a region and is handed in again is that region. Assumes nothing.
use Prim.Native.Nat.{ℕ, suc, ◌+◌, ◌-◌, ◌*◌, ◌≤◌, ◌<◌}
use native.Mathlib.Omega.{arith}
use mathlib.Core.Path.{◌≡◌, refl, sym, ap, ◌∙◌, subst}
use mathlib.Core.Bool.{Bool, true, false, cond, ◌&&◌, false≢true}
use mathlib.Core.List.{List, ◌++◌}
use mathlib.Mathlib.Data.Bool.Basic.{and_elim_left, and_elim_right}
use borrow.Author.Tests.{leb-true, le-leb, lt-ltb, eq-eqb}
use lib.Dec.{leb}
use lib.ListN.{get_or, length, take, replicate}
use lib.Seq.{get_or-drop, get_or-take, length-take-le, take-take, take_at}
use lib.Ieee.{Float, nan}
use Rattle.error.specs.declared.Refusal.{Refusal}
use Rattle.error.specs.declared.Refusal.TheVariants.{Granted}
use Rattle.error.specs.Refusals.{granted, number, values}
use Rattle.base.specs.Loop.{rounds}
use Rattle.base.proofs.Laws.{rounds_same}
use Rattle.base.proofs.Sums.{sums_to}
use Rattle.base.proofs.Tests.{all_pass, pass_all}
use Rattle.base.proofs.Elements.{made_length, made_at}
use Rattle.ring.specs.Ring.{vertex_at}
use Rattle.ring.proofs.Vertices.{number_same}
use Rattle.outline.specs.Outlines.{proper, ask}
use Rattle.outline.proofs.Good.{proper_same}
use Rattle.outline_lent.specs.Writes.{write_refusal}
use Rattle.outline_lent.proofs.Written.{refusal_fits}
use Rattle.region.specs.declared.Region.{Region}
use Rattle.region.specs.declared.NewRegion.{NewRegion}
use Rattle.region.specs.declared.RegionOffset.{RegionOffset}
use Rattle.region.specs.Regions.{hole_points, hole_count, ring_points, ring_count, ring_count_step, ring_counts}
use Rattle.region.specs.Checks.{total_step, total, lengths_fit, proper_step, proper_region}
use Rattle.region.specs.Insets.{region_inset}
use Rattle.region.specs.Queries.{ask_region, before_step, before, needed, write_rings, nine_counts, no_rings, rings_told, write_region, region_write, written_region, write_inset, inset_told}
use Rattle.region.specs.Queries.{inset_write, inset_over, written_inset}
use Rattle.region.specs.Answers.{RingsWrote}
use Rattle.region.proofs.Lent.{region_lent}
use Rattle.region.proofs.Accepted.{inset_proper}
use Rattle.region_stored.specs.Stored.{ring_from, proper_holes_step, proper_holes, kept, rings, stored_region}
use Rattle.region_stored.specs.Rewritten.{SameRings, handed_back, WrittenAgain, InsetAgain}
use Rattle.region_stored.proofs.Walks.{passes}
use Rattle.region_stored.proofs.Again.{rings_count}
use Rattle.region_stored.proofs.AsStored.{RingIs, ring_is}

module _ (r : Region) (out : List Float) (ok : proper_region r ≡ true) (room : needed r ≤ length out) where
  -- what is handed in: the counts of the rings, and what was written
  abbrev lengths : List ℕ
  lengths = ring_counts r

  abbrev whole : List Float
  whole = write_rings r out

  abbrev ps : List Float
  ps = take (needed r) whole

  -- ---- the counts

  many : length lengths ≡ r.holes + 1
  unfolding ring_counts ring_count_step
  many = made_length (ring_count r) (r.holes + 1)

  count_is : (k : ℕ) → k ≤ r.holes → get_or lengths k 0 ≡ ring_count r k
  unfolding ring_counts ring_count_step
  count_is k l = made_at (ring_count r) (r.holes + 1) k 0 (omega arith)

  start_is : (k : ℕ) → k ≤ r.holes + 1 → rounds (total_step lengths) k 0 ≡ before r k
  unfolding before before_step total_step
  start_is k l = rounds_same (total_step lengths) (before_step r) k 0 (λ j m s. ap (λ (x : ℕ). s + x) (count_is j (omega arith)))

  ends_by : (k : ℕ) → k ≤ r.holes → before r k + ring_count r k ≤ before r (r.holes + 1)
  unfolding before before_step rounds
  ends_by k l = sums_to (before_step r) (ring_count r) (λ i s. refl) (suc k) (r.holes + 1) (omega arith)

  -- ---- the numbers

  wrote : RingsWrote Granted r out whole
  unfolding region_write rings_told written_region write_region ask_region ask write_refusal granted number values
  wrote =
      let e : write_region r out ≡ Granted = rw (ok, le-leb (needed r) (length out) room) refl in
      subst (λ (u : Refusal). RingsWrote (rings_told r u).refusal r out (cond (granted u) whole out)) e (region_lent r out)

  size : length ps ≡ needed r
  size = length-take-le (needed r) whole (omega (arith, wrote.size, room))

  number_is : (k i : ℕ) → k ≤ r.holes → i < 2 * ring_count r k → get_or (ring_from lengths ps k) i nan ≡ get_or (ring_points r k) i nan
  unfolding ring_from needed granted number values
  number_is k i l m =
      get_or-drop (2 * rounds (total_step lengths) k 0) ps i nan ∙ ap (λ (s : ℕ). get_or ps (2 * s + i) nan) (start_is k (omega arith)) ∙
      get_or-take (needed r) whole (2 * before r k + i) nan (omega (arith, ends_by k l)) ∙ wrote.numbers refl k i l m

  vertex_is : (k : ℕ) → k ≤ r.holes → (i : ℕ) → i < ring_count r k → vertex_at (ring_from lengths ps k) i ≡ vertex_at (ring_points r k) i
  unfolding vertex_at
  vertex_is k l i m = rw (number_is k (2 * i) l (omega arith), number_is k (2 * i + 1) l (omega arith)) refl

  -- ---- 21 passes them

  abbrev holes_pass : Bool
  holes_pass = rounds (proper_step r) r.holes true

  rest : (leb r.holes 8 && holes_pass) ≡ true
  unfolding proper_region
  rest = and_elim_right (proper 128 r.outer.points r.outer.count) (leb r.holes 8 && holes_pass) ok

  few : r.holes ≤ 8
  few = leb-true r.holes 8 (and_elim_left (leb r.holes 8) holes_pass rest)

  ring_passes : (room k : ℕ) → k ≤ r.holes → proper room (ring_points r k) (ring_count r k) ≡ true → proper room (ring_from lengths ps k) (get_or lengths k 0) ≡ true
  ring_passes room k l h = rw (count_is k l) (proper_same room (ring_points r k) (ring_from lengths ps k) (ring_count r k) (vertex_is k l) h)

  outer_passes : proper 128 ps (get_or lengths 0 0) ≡ true
  unfolding proper_region ring_points ring_count ring_from rounds
  outer_passes = ring_passes 128 0 (omega arith) (and_elim_left (proper 128 r.outer.points r.outer.count) (leb r.holes 8 && holes_pass) ok)

  hole_passes : (k : ℕ) → k < r.holes → passes lengths ps k ≡ true
  unfolding proper_step ring_points ring_count
  hole_passes k l =
      let one : suc k ≡ k + 1 = omega arith in
      let h : proper 32 (hole_points r k) (hole_count r k) ≡ true =
      all_pass (proper_step r) (λ i. proper 32 (hole_points r i) (hole_count r i)) (λ i s. refl) r.holes (and_elim_right (leb r.holes 8) holes_pass rest) k l in
      subst (λ (i : ℕ). proper 32 (ring_from lengths ps i) (get_or lengths i 0) ≡ true) one (ring_passes 32 (suc k) l h)

  all_pass_holes : proper_holes lengths ps ≡ true
  unfolding proper_holes proper_holes_step
  all_pass_holes = pass_all (proper_holes_step lengths ps) (passes lengths ps) (λ i s. refl) (length lengths - 1) (λ k l. hole_passes k (omega (arith, many)))

  fits : lengths_fit lengths ps ≡ true
  unfolding lengths_fit total needed
  fits =
      let sum : 2 * rounds (total_step lengths) (length lengths) 0 ≡ length ps = ap (λ (k : ℕ). 2 * rounds (total_step lengths) k 0) many ∙ ap (λ (s : ℕ). 2 * s) (start_is (r.holes + 1) (omega arith)) ∙ sym size in
      rw (lt-ltb 0 (length lengths) (omega (arith, many)), eq-eqb (2 * rounds (total_step lengths) (length lengths) 0) (length ps) sum) refl

  is_kept : kept lengths ps ≡ true
  unfolding kept
  is_kept = rw (fits, outer_passes, all_pass_holes) refl

  is : stored_region lengths ps ≡ record { refusal = Granted; shape = rings lengths ps }
  unfolding stored_region
  is = rw (is_kept, le-leb (length lengths) 9 (omega (arith, many, few))) refl

  -- ---- and they are the same

  same_ring : (l : ℕ) → l ≤ r.holes → RingIs lengths ps is_kept l
  same_ring l m = ring_is lengths ps is_kept l (omega (arith, many)) (omega (arith, few))

  same_vertex : (l : ℕ) → l ≤ r.holes → (i : ℕ) → i < ring_count r l → vertex_at (ring_points (rings lengths ps) l) i ≡ vertex_at (ring_points r l) i
  same_vertex l m i z = (same_ring l m).each i (omega (arith, count_is l m)) ∙ vertex_is l m i z

  -- ---- what was told is what is handed in

  counts_back : take (r.holes + 1) (nine_counts r) ≡ lengths
  unfolding nine_counts
  counts_back = take-take (r.holes + 1) 9 (lengths ++ replicate 9 0) (omega (arith, few)) ∙ take_at lengths (replicate 9 0) (r.holes + 1) many

  numbers_back : 2 * total lengths ≡ needed r
  unfolding total needed
  numbers_back = ap (λ (k : ℕ). 2 * rounds (total_step lengths) k 0) many ∙ ap (λ (s : ℕ). 2 * s) (start_is (r.holes + 1) (omega arith))

  again : SameRings r (stored_region lengths ps)
  again = record {
    granted = ap (λ (a : NewRegion). a.refusal) is;
    holes = ap (λ (a : NewRegion). a.shape.holes) is ∙ rings_count lengths ps is_kept ∙ omega (arith, many);
    counts = λ k z. ap (λ (a : NewRegion). ring_count a.shape k) is ∙ (same_ring k z).count ∙ count_is k z;
    numbers = λ k i z m. ap (λ (a : NewRegion). get_or (ring_points a.shape k) i nan) is ∙ number_same (ring_points r k) (ring_points (rings lengths ps) k) (ring_count r k) (same_vertex k z) i m;
  }

-- ---- a write that was granted

asked : (p : Bool) (u : Refusal) → granted (ask p u) ≡ true → (p ≡ true) × (granted u ≡ true)
unfolding ask granted number values
asked true u h = (refl, h)
asked false u h = absurd (false≢true h)

module _ (r : Region) (out : List Float) (u : Refusal) (fine : granted u ≡ true → (proper_region r ≡ true) × (needed r ≤ length out)) where
  write_granted : granted (rings_told r u).refusal ≡ true → granted u ≡ true
  unfolding rings_told no_rings
  write_granted = go (granted u) refl
    where
      go : (b : Bool) → granted u ≡ b → granted (cond b (record { refusal = Granted; rings = r.holes + 1; counts = nine_counts r }) (no_rings u)).refusal ≡ true → granted u ≡ true
      go true e h = e
      go false e h = h

  told_again : granted (rings_told r u).refusal ≡ true → SameRings r (handed_back (rings_told r u).rings (rings_told r u).counts (cond (granted u) (write_rings r out) out))
  unfolding rings_told handed_back
  told_again h =
      let g = write_granted h in
      let f = fine g in
      rw (g, counts_back r out f.0 f.1, numbers_back r out f.0 f.1) (again r out f.0 f.1)

pub written_again : WrittenAgain
unfolding region_write written_region write_region ask_region
written_again r out =
    told_again r out (write_region r out)
    (λ g. let a = asked (proper_region r) (write_refusal (needed r) out) g in (a.0, (refusal_fits (needed r) out).fits a.1))

inset_fine : (a : RegionOffset) (out : List Float) → granted (write_inset a out) ≡ true → (granted a.refusal ≡ true) × (needed a.shape ≤ length out)
unfolding write_inset
inset_fine a out = go (granted a.refusal) refl
  where
    go : (b : Bool) → granted a.refusal ≡ b → granted (cond b (write_refusal (needed a.shape) out) a.refusal) ≡ true → (granted a.refusal ≡ true) × (needed a.shape ≤ length out)
    go true e h = (e, (refusal_fits (needed a.shape) out).fits h)
    go false e h = absurd (false≢true (sym e ∙ h))

pub inset_again : InsetAgain
unfolding inset_write inset_told written_inset inset_over
inset_again r d out =
    let a : RegionOffset = region_inset r d in
    told_again a.shape out (write_inset a out) (λ g. let f = inset_fine a out g in (inset_proper r d f.0, f.1))
