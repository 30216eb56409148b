-- Lent output of a region and of its inset: a refused write changes nothing, and a granted one only the numbers that it writes. Assumes nothing.
use Prim.Native.Nat.{ℕ, suc, ◌+◌, ◌*◌, ◌≤◌, ◌<◌}
use mathlib.Core.Path.{◌≡◌, refl, sym, ◌∙◌, subst}
use mathlib.Core.Bool.{true, false, false≢true}
use mathlib.Core.List.{List}
use native.Mathlib.Omega.{arith}
use lib.ListN.{get_or, length}
use lib.Ieee.{Float, nan}
use Rattle.error.specs.declared.Refusal.{Refusal}
use Rattle.error.specs.Refusals.{granted}
use Rattle.error.proofs.Laws.{granted_is}
use Rattle.base.specs.Loop.{rounds}
use Rattle.base.proofs.Laws.{rounds_keep}
use Rattle.base.proofs.Choices.{by_cases, by_test}
use Rattle.base.proofs.Sums.{sums_to}
use Rattle.outline_lent.specs.Writes.{write_ring, write_refusal}
use Rattle.outline_lent.proofs.Written.{Writing, ring_writing, Fits, refusal_fits, ask_fits}
use Rattle.region.specs.declared.Region.{Region}
use Rattle.region.specs.declared.RegionOffset.{RegionOffset}
use Rattle.region.specs.declared.RegionWritten.{RegionWritten}
use Rattle.region.specs.Regions.{ring_points, ring_count}
use Rattle.region.specs.Checks.{proper_region}
use Rattle.region.specs.Insets.{region_inset}
use Rattle.region.specs.Queries.{ask_region, before_step, before, needed, write_rings_step, write_rings, no_rings, rings_told, write_region, region_write, written_region, write_inset, inset_told, inset_write, inset_over}
use Rattle.region.specs.Queries.{written_inset}
use Rattle.region.specs.Answers.{RingsWrote, RegionLent, InsetLent}

module _ (r : Region) (out : List Float) where
  -- the rings before ring k have been written
  record Written (k : ℕ) (s : List Float) : Type 0 where
    size : length s ≡ length out
    numbers : 2 * before r k ≤ length out → (j i : ℕ) → j < k → i < 2 * ring_count r j → get_or s (2 * before r j + i) nan ≡ get_or (ring_points r j) i nan
    rest : (i : ℕ) → 2 * before r k ≤ i → get_or s i nan ≡ get_or out i nan

  next_before : (k : ℕ) → before r (suc k) ≡ before r k + ring_count r k
  unfolding before rounds before_step
  next_before k = refl

  before_to : (j k : ℕ) → j < k → before r j + ring_count r j ≤ before r k
  unfolding before before_step
  before_to j k l = omega (arith, next_before j, sums_to (before_step r) (ring_count r) (λ i s. refl) (suc j) k l)

  step_written : (k : ℕ) (s : List Float) → Written k s → Written (suc k) (write_rings_step r k s)
  unfolding write_rings_step
  step_written k s h =
      let w : Writing (ring_points r k) (ring_count r k) (2 * before r k) s (2 * ring_count r k) (write_ring (ring_points r k) (ring_count r k) (2 * before r k) s) =
      ring_writing (ring_points r k) (ring_count r k) (2 * before r k) s in
      record {
        size = w.size ∙ h.size;
        numbers = λ l j i z m. by_cases j k
            (λ e. subst (λ (x : ℕ). get_or (write_ring (ring_points r k) (ring_count r k) (2 * before r k) s) (2 * before r x + i) nan ≡ get_or (ring_points r x) i nan) (sym e)
            (w.new i (subst (λ (x : ℕ). i < 2 * ring_count r x) e m) (omega (arith, next_before k, h.size))))
            (λ e. w.below (2 * before r j + i) (omega (arith, before_to j k (omega arith))) ∙ h.numbers (omega (arith, next_before k)) j i (omega arith) m);
        rest = λ i l. w.above i (omega (arith, next_before k)) ∙ h.rest i (omega (arith, next_before k));
      }

  all_written : Written (r.holes + 1) (write_rings r out)
  unfolding write_rings before rounds
  all_written =
      rounds_keep (write_rings_step r) Written out (record { size = refl; numbers = λ l j i z m. absurd (omega arith); rest = λ i l. refl }) step_written (r.holes + 1)

  rings_wrote : (u : Refusal) → granted u ≡ true → needed r ≤ length out → RingsWrote u r out (write_rings r out)
  unfolding needed
  rings_wrote u g l = record {
    refused = λ q. absurd (false≢true (sym q ∙ g));
    size = all_written.size;
    numbers = λ q k i z m. all_written.numbers l k i (omega arith) m;
    rest = all_written.rest;
  }

  rings_kept : (u : Refusal) → granted u ≡ false → RingsWrote u r out out
  rings_kept u h = record { refused = λ q. refl; size = refl; numbers = λ q. absurd (false≢true (sym h ∙ q)); rest = λ i l. refl }

  -- what is answered has the refusal of the write
  told_refusal : (u : Refusal) → (rings_told r u).refusal ≡ u
  unfolding rings_told no_rings
  told_refusal u = by_test (λ (w : RegionWritten). w.refusal ≡ u) (granted u) (λ h. sym (granted_is u h)) (λ h. refl)

  region_fits : Fits (needed r) out (write_region r out)
  unfolding write_region ask_region
  region_fits = ask_fits (needed r) out (proper_region r) (write_refusal (needed r) out) (refusal_fits (needed r) out)

  written_rings : RingsWrote (write_region r out) r out (written_region r out)
  unfolding written_region
  written_rings =
      let u : Refusal = write_region r out in
      by_test (RingsWrote u r out) (granted u) (λ g. rings_wrote u g (region_fits.fits g)) (λ g. rings_kept u g)

pub region_lent : RegionLent
unfolding region_write
region_lent r out = subst (λ (u : Refusal). RingsWrote u r out (written_region r out)) (sym (told_refusal r out (write_region r out))) (written_rings r out)

inset_fits : (a : RegionOffset) (out : List Float) → Fits (needed a.shape) out (write_inset a out)
unfolding write_inset
inset_fits a out =
    by_test (Fits (needed a.shape) out) (granted a.refusal) (λ h. refusal_fits (needed a.shape) out) (λ h. record { fits = λ q. absurd (false≢true (sym h ∙ q)) })

over_rings : (a : RegionOffset) (out : List Float) → RingsWrote (write_inset a out) a.shape out (inset_over a out)
unfolding inset_over
over_rings a out =
    let u : Refusal = write_inset a out in
    by_test (RingsWrote u a.shape out) (granted u) (λ g. rings_wrote a.shape out u g ((inset_fits a out).fits g)) (λ g. rings_kept a.shape out u g)

pub inset_lent : InsetLent
unfolding inset_write inset_told written_inset
inset_lent r d out =
    let a : RegionOffset = region_inset r d in
    subst (λ (u : Refusal). RingsWrote u a.shape out (inset_over a out)) (sym (told_refusal a.shape out (write_inset a out))) (over_rings a out)
