-- An answer beside which the shape is empty, with the events completed before the refusal. Assumes nothing.
use Rattle.std.specs.Prelude.{ℕ}
use Rattle.error.specs.declared.Refusal.{Refusal}
use Rattle.region.specs.declared.RegionOffset.{RegionOffset}
use Rattle.region.specs.Regions.{no_region}

unfoldable pub inset_refused : Refusal → ℕ → ℕ → ℕ → RegionOffset
inset_refused u collapses divides joins = record { refusal = u; shape = no_region; collapses = collapses; divides = divides; joins = joins }

-- opens every definition above, for a proof that computes with all of them
unfoldable pub open_refused : Unit {0}
unfolding inset_refused
open_refused = tt
