-- The counts that a region's inset hands back, to lent output too: the tally of the front's whole list of events. Assumes nothing.
use Prim.Native.Nat.{suc}
use mathlib.Core.Path.{◌≡◌, refl, sym, ap, subst}
use mathlib.Core.Bool.{true, false}
use lib.Ieee.{Float, eq}
use Rattle.base.proofs.Choices.{by_test}
use Rattle.error.specs.declared.Refusal.{Refusal}
use Rattle.error.specs.declared.Refusal.TheVariants.{Granted, Shape}
use Rattle.front.specs.declared.Loaded.{Loaded}
use Rattle.region.specs.declared.Region.{Region}
use Rattle.region.specs.declared.RegionOffset.{RegionOffset}
use Rattle.region.specs.declared.RegionWritten.{RegionWritten}
use Rattle.math.specs.Number.{zero_float}
use Rattle.error.specs.Refusals.{granted}
use Rattle.error.proofs.Laws.{granted_is}
use Rattle.front.specs.Demand.{givens, run, events, tally}
use Rattle.offset.specs.Offsets.{check_distance}
use Rattle.offset.specs.Answers.{NoEvent}
use Rattle.offset.proofs.DemandAnswered.{distance_finite, Own}
use Rattle.offset.proofs.Counted.{write_own, handed_on}
use Rattle.region.specs.Regions.{no_region}
use Rattle.region.specs.Checks.{proper_region}
use Rattle.region.specs.Insets.{region_counted, region_plain, region_sweep, inset_from, inset_by, region_inset}
use Rattle.region.specs.Queries.{needed, no_rings, rings_told, write_inset, inset_told, inset_write}
use Rattle.region.specs.Demand.{edges_of, region_load}
use Rattle.region.specs.Answers.{InsetCounted, InsetWriteAccounts}
use Rattle.region.proofs.Demand.{region_demand}
use Rattle.region.proofs.DemandAnswered.{inset_demand, inset_before}

module _ (r : Region) (d : Float) where
  abbrev a : RegionOffset
  a = region_inset r d

  abbrev l : Loaded
  l = region_load r d

  swept_counts : proper_region r ≡ true → granted (check_distance d) ≡ true → eq d zero_float ≡ false
      → record { c = a.collapses; d = a.divides; j = a.joins } ≡ tally (events (run (givens d l) l))
  unfolding region_inset inset_by inset_from region_counted region_sweep
  swept_counts q g z = rw (q, g, z) (region_demand r d q (distance_finite d g)).counted

  plain_counts : (u : Refusal) (p : Region) → a ≡ region_plain u p → NoEvent a.collapses a.divides a.joins
  unfolding region_plain
  plain_counts u p e =
      record { collapses = ap (λ (x : RegionOffset). x.collapses) e; divides = ap (λ (x : RegionOffset). x.divides) e; joins = ap (λ (x : RegionOffset). x.joins) e }

pub inset_counts : InsetCounted
inset_counts r d = record {
  passed = λ q. record {
    swept = swept_counts r d q;
    refused = λ g. plain_counts r d (check_distance d) no_region ((inset_before r d).refused q g);
    unmoved = λ z. plain_counts r d Granted r ((inset_before r d).unmoved q z);
  };
  refused = λ q. plain_counts r d Shape no_region ((inset_before r d).improper q);
}

-- ---- to lent output

-- the refusal that is told is that of the write
told_same : (r : Region) (u : Refusal) → (rings_told r u).refusal ≡ u
unfolding rings_told no_rings
told_same r u = by_test (λ (w : RegionWritten). w.refusal ≡ u) (granted u) (λ h. sym (granted_is u h)) (λ h. refl)

pub inset_write_accounts : InsetWriteAccounts
unfolding inset_write inset_told write_inset
inset_write_accounts r d out =
    let a : RegionOffset = region_inset r d in
    record {
      passed = λ q. record {
        bounds = handed_on (edges_of r r.holes) (suc r.holes) a.refusal (rings_told a.shape (write_inset a out)).refusal a.collapses a.divides a.joins
            (inset_demand r d q)
            (subst (Own a.refusal) (sym (told_same a.shape (write_inset a out))) (write_own a.refusal (granted a.refusal) (needed a.shape) out));
        counted = (inset_counts r d).passed q;
      };
      refused = (inset_counts r d).refused;
    }
