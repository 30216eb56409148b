-- A region that was written ring after ring, handed in again with the counts that were told, is the same region: so an inset can be inset
-- again. Proved in `proofs/Rewritten.antt`. Assumes nothing.
use Rattle.std.specs.Prelude.{ℕ, ◌*◌, ◌≤◌, ◌<◌, ◌≡◌, true, List, get_or, take, Float}
use Rattle.std.specs.Float.{nan}
use Rattle.error.specs.declared.Refusal.TheVariants.{Granted}
use Rattle.error.specs.Refusals.{granted}
use Rattle.region.specs.declared.Region.{Region}
use Rattle.region.specs.declared.NewRegion.{NewRegion}
use Rattle.region.specs.Regions.{ring_points, ring_count}
use Rattle.region.specs.Checks.{total}
use Rattle.region.specs.Insets.{region_inset}
use Rattle.region.specs.Queries.{region_write, written_region, inset_write, written_inset}
use Rattle.region_stored.specs.Stored.{stored_region}

-- a is granted, and has the rings of r: the same counts, and the same numbers of each ring
pub record SameRings (r : Region) (a : NewRegion) : Type 0 where
  pub granted : a.refusal ≡ Granted
  pub holes : a.shape.holes ≡ r.holes
  pub counts : (l : ℕ) → l ≤ r.holes → ring_count a.shape l ≡ ring_count r l
  pub numbers : (l i : ℕ) → l ≤ r.holes → i < 2 * ring_count r l →
      get_or (ring_points a.shape l) i nan ≡ get_or (ring_points r l) i nan

-- what a call has told and written, handed in again: so many of the counts as there are rings, and two numbers a vertex
unfoldable pub handed_back : ℕ → List ℕ → List Float → NewRegion
handed_back rings counts after = stored_region (take rings counts) (take (2 * total (take rings counts)) after)

-- of a region that is written
abbrev pub WrittenAgain : Type 0
WrittenAgain = (r : Region) (out : List Float) → let w = region_write r out in
    granted w.refusal ≡ true → SameRings r (handed_back w.rings w.counts (written_region r out))

-- of an inset
abbrev pub InsetAgain : Type 0
InsetAgain = (r : Region) (d : Float) (out : List Float) → let w = inset_write r d out in
    granted w.refusal ≡ true → SameRings (region_inset r d).shape (handed_back w.rings w.counts (written_inset r d out))

-- opens every definition above, for a proof that computes with all of them
unfoldable pub open_rewritten : Unit {0}
unfolding handed_back
open_rewritten = tt
