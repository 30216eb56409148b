-- What the pieces of a region's inset come to, as a refusal beside which the shape stands or is empty. Assumes nothing.
use Rattle.std.specs.Prelude.{Bool, cond, not, ◌&&◌, Float}
use Rattle.error.specs.declared.Refusal.{Refusal}
use Rattle.error.specs.declared.Refusal.TheVariants.{Granted, Splits, Collapses}
use Rattle.error.specs.Refusals.{granted, region_failure}
use Rattle.math.specs.Number
use Rattle.region.specs.declared.Region.{Region}
use Rattle.region.specs.Checks.{check_region}
use Rattle.region.specs.Insets.{region_keeps_clear, crosses}

unfoldable pub clear_refusal : Region → Float → Float → Region → Refusal
clear_refusal r d tolerance q = cond (region_keeps_clear (Number.sub d tolerance) r q && not (crosses r q)) Granted (Splits d)

unfoldable pub checked_refusal : Region → Float → Float → Region → Refusal → Refusal
checked_refusal r d tolerance q c = cond (granted c) (clear_refusal r d tolerance q) (region_failure d c)

unfoldable pub found_refusal : Region → Float → Float → Refusal → Bool → Region → Refusal
found_refusal r d tolerance u found q = cond (granted u) (cond found (checked_refusal r d tolerance q (check_region q)) (Collapses d)) u

-- opens every definition above, for a proof that computes with all of them
unfoldable pub open_found : Unit {0}
unfolding clear_refusal checked_refusal found_refusal
open_found = tt
