-- The margin of what is written to lent output: the numbers there are those of the inset. Assumes nothing.
use Prim.Native.Nat.{ℕ, zero, suc, ◌+◌, ◌*◌, ◌≤◌, ◌<◌}
use mathlib.Core.Path.{◌≡◌, refl, sym, ap, ◌∙◌, subst}
use mathlib.Core.Bool.{Bool, true, false, cond, ◌&&◌, false≢true}
use mathlib.Core.List.{List}
use mathlib.Mathlib.Data.Bool.Basic.{and_elim_left, and_elim_right}
use native.Mathlib.Omega.{arith}
use borrow.Author.Tests.{leb-true}
use lib.Dec.{leb}
use lib.ListN.{get_or, drop}
use lib.Seq.{get_or-drop}
use lib.Ieee.{Float, nan}
use Rattle.error.specs.declared.Refusal.{Refusal}
use Rattle.error.specs.Refusals.{granted}
use Rattle.plane.specs.declared.PlanarPoint.{PlanarPoint}
use Rattle.base.specs.Loop.{rounds}
use Rattle.base.proofs.Choices.{by_cases, by_test}
use Rattle.ring.specs.Ring.{vertex_at, edge_end}
use Rattle.margins.specs.Far.{Far}
use Rattle.outline.specs.Outlines.{proper}
use Rattle.offset.specs.declared.Offset.{Offset}
use Rattle.offset.specs.Offsets.{offset}
use Rattle.offset.specs.Lent.{write_offset, offset_told, offset_write, written_offset}
use Rattle.offset.proofs.Lent.{offset_lent}
use Rattle.region.specs.declared.Region.{Region}
use Rattle.region.specs.declared.RegionOffset.{RegionOffset}
use Rattle.region.specs.declared.RegionWritten.{RegionWritten}
use Rattle.region.specs.Regions.{ring_points, ring_count}
use Rattle.region.specs.Checks.{total_step, proper_step, proper_region}
use Rattle.region.specs.Insets.{region_inset}
use Rattle.region.proofs.NineCounts.{counts_told}
use Rattle.region.specs.Queries.{before_step, before, nine_counts, no_rings, rings_told, write_inset, inset_told, inset_write, written_inset}
use Rattle.region.proofs.Accepted.{inset_proper}
use Rattle.region.proofs.Lent.{inset_lent}
use Rattle.margin.specs.Margin.{RingFar}
use Rattle.margin.specs.Lent.{ring_in, OffsetWriteMargin, InsetWriteMargin}
use Rattle.margin.proofs.Outlines.{offset_margin}
use Rattle.margin.proofs.Regions.{inset_margin}

-- ---- numbers that agree are the same vertices

pub same_vertex : (qs rs : List Float) (k : ℕ) → get_or qs (2 * k) nan ≡ get_or rs (2 * k) nan → get_or qs (2 * k + 1) nan ≡ get_or rs (2 * k + 1) nan → vertex_at qs k ≡ vertex_at rs k
unfolding vertex_at
same_vertex qs rs k a b = rw (a, b) refl

-- the margin of the vertices of qs is that of the same vertices elsewhere
pub elsewhere : (D M : ℕ) (qs rs : List Float) (m : ℕ) (ps : List Float) (n : ℕ) → ((k : ℕ) → k < m → vertex_at rs k ≡ vertex_at qs k) → RingFar D M qs m ps n → RingFar D M rs m ps n
elsewhere D M qs rs m ps n e h k i l z = subst (λ (p : PlanarPoint). Far D M p (vertex_at ps i) (edge_end ps n i)) (sym (e k l)) (h k i l z)

-- the same ring under two counts that are equal
pub recounted : (D M : ℕ) (qs : List Float) (m c : ℕ) (ps : List Float) (n : ℕ) → c ≡ m → RingFar D M qs m ps n → RingFar D M qs c ps n
recounted D M qs m c ps n e = subst (λ (j : ℕ). RingFar D M qs j ps n) (sym e)

-- ---- an outline's inset

pub record WroteOffset (a : Offset) (u : Refusal) : Type 0 where
  pub passed : granted u ≡ true → granted a.refusal ≡ true

pub wrote_offset : (a : Offset) (out : List Float) → WroteOffset a (write_offset a out)
unfolding write_offset
wrote_offset a out = by_test (WroteOffset a) (granted a.refusal) (λ g. record { passed = λ q. g }) (λ g. record { passed = λ q. q })

pub offset_write_margin : OffsetWriteMargin
unfolding offset_write offset_told
offset_write_margin o d out od fd g l =
    let q : List Float = (offset o false d).shape.points in
    let m : ℕ = (offset o false d).shape.count in
    recounted _ _ (written_offset o false d out) m _ o.points o.count (ap (λ (b : Bool). cond b m 0) g)
    (elsewhere _ _ q (written_offset o false d out) m o.points o.count
    (λ k z. same_vertex (written_offset o false d out) q k ((offset_lent o false d out).numbers g (2 * k) (omega arith)) ((offset_lent o false d out).numbers g (2 * k + 1) (omega arith)))
    (offset_margin o d od fd ((wrote_offset (offset o false d) out).passed g) l))

-- ---- a region's inset

-- the counts that are told are those of the rings
module _ (r : Region) where
  counts_are : (k : ℕ) → r.holes ≤ 8 → k ≤ r.holes → get_or (nine_counts r) k 0 ≡ ring_count r k
  counts_are k e l = counts_told r k (omega arith) (omega arith)

  -- and so are the vertices before a ring
  before_is : r.holes ≤ 8 → (k : ℕ) → k ≤ r.holes → rounds (total_step (nine_counts r)) k 0 ≡ before r k
  unfolding before before_step total_step rounds
  before_is e zero l = refl
  before_is e (suc k) l = omega (arith, before_is e k (omega arith), counts_are k e (omega arith))

pub few_holes : (r : Region) → proper_region r ≡ true → r.holes ≤ 8
unfolding proper_region
few_holes r q =
    leb-true r.holes 8
    (and_elim_left (leb r.holes 8) (rounds (proper_step r) r.holes true) (and_elim_right (proper 128 r.outer.points r.outer.count) (leb r.holes 8 && rounds (proper_step r) r.holes true) q))

record WroteInset (a : RegionOffset) (u : Refusal) : Type 0 where
  passed : granted u ≡ true → granted a.refusal ≡ true

wrote_inset : (a : RegionOffset) (out : List Float) → WroteInset a (write_inset a out)
unfolding write_inset
wrote_inset a out = by_test (WroteInset a) (granted a.refusal) (λ g. record { passed = λ q. g }) (λ g. record { passed = λ q. q })

-- what is told of rings that were written
record Told (r : Region) (u : Refusal) (w : RegionWritten) : Type 0 where
  asked : granted w.refusal ≡ true → granted u ≡ true
  rings : granted w.refusal ≡ true → w.rings ≡ r.holes + 1
  counts : granted w.refusal ≡ true → w.counts ≡ nine_counts r

told_of : (r : Region) (u : Refusal) → Told r u (rings_told r u)
unfolding rings_told no_rings
told_of r u =
    by_test (Told r u) (granted u) (λ e. record { asked = λ q. e; rings = λ q. refl; counts = λ q. refl })
    (λ e. record { asked = λ q. q; rings = λ q. absurd (false≢true (sym e ∙ q)); counts = λ q. absurd (false≢true (sym e ∙ q)) })

-- a ring's numbers that stand from a place on are its vertices
written_vertex : (now ps : List Float) (here place n : ℕ) → here ≡ place → ((i : ℕ) → i < 2 * n → get_or now (place + i) nan ≡ get_or ps i nan) → (k : ℕ) → k < n
    → vertex_at (drop here now) k ≡ vertex_at ps k
written_vertex now ps here place n e h k l =
    same_vertex (drop here now) ps k (number (2 * k) (omega arith)) (number (2 * k + 1) (omega arith))
  where
    number : (i : ℕ) → i < 2 * n → get_or (drop here now) i nan ≡ get_or ps i nan
    number i l = get_or-drop here now i nan ∙ ap (λ (j : ℕ). get_or now (j + i) nan) e ∙ h i l

-- one of the rings that are told
held : (q : Region) (rings : ℕ) → rings ≡ q.holes + 1 → (k : ℕ) → k < rings → k ≤ q.holes
held q rings e k l = omega arith

pub inset_write_margin : InsetWriteMargin
unfolding inset_write inset_told ring_in
inset_write_margin r d out rd fd g l =
    let q : Region = (region_inset r d).shape in
    let u : Refusal = write_inset (region_inset r d) out in
    let t : Told q u (rings_told q u) = told_of q u in
    let ok : granted (region_inset r d).refusal ≡ true = (wrote_inset (region_inset r d) out).passed (t.asked g) in
    let few : q.holes ≤ 8 = few_holes q (inset_proper r d ok) in
    let now : List Float = written_inset r d out in
    λ k j a b.
    let here : k ≤ q.holes = held q (inset_write r d out).rings (t.rings g) k a in
    let counted : get_or (inset_write r d out).counts k 0 ≡ ring_count q k = ap (λ (c : List ℕ). get_or c k 0) (t.counts g) ∙ counts_are q k few here in
    let start : 2 * rounds (total_step (inset_write r d out).counts) k 0 ≡ 2 * before q k = ap (λ (c : List ℕ). 2 * rounds (total_step c) k 0) (t.counts g) ∙ ap (λ (s : ℕ). 2 * s) (before_is q few k here) in
    recounted _ _ (ring_in (inset_write r d out).counts now k) (ring_count q k) _ (ring_points r j) (ring_count r j) counted
    (elsewhere _ _ (ring_points q k) (ring_in (inset_write r d out).counts now k) (ring_count q k) (ring_points r j) (ring_count r j)
    (λ i z. written_vertex now (ring_points q k) (2 * rounds (total_step (inset_write r d out).counts) k 0) (2 * before q k) (ring_count q k) start
    (λ t z. (inset_lent r d out).numbers g k t here z) i z)
    (inset_margin r d rd fd ok l k j here b))
