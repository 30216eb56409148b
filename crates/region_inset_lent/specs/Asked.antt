-- An inset's answer that goes into lent output: its own refusal first, then 21 of its shape, and 20 last. Assumes nothing.
use Rattle.std.specs.Prelude.{◌≡◌, true, cond, List, Float}
use Rattle.error.specs.declared.Refusal.{Refusal}
use Rattle.region.specs.declared.Region.{Region}
use Rattle.region.specs.declared.RegionOffset.{RegionOffset}
use Rattle.region.specs.declared.InsetWritten.{InsetWritten}
use Rattle.error.specs.Refusals.{granted}
use Rattle.region.specs.Checks.{proper_region}
use Rattle.region.specs.Insets.{region_inset}
use Rattle.region.specs.Queries.{write_rings, rings_told, write_region, write_inset, inset_told, inset_write, inset_over, written_inset}

unfoldable pub ask_inset : RegionOffset → List Float → Refusal
ask_inset a out = cond (granted a.refusal) (write_region a.shape out) a.refusal

unfoldable pub inset_answer : RegionOffset → List Float → InsetWritten
inset_answer a out = inset_told a (rings_told a.shape (ask_inset a out))

-- the lent numbers afterwards
unfoldable pub inset_after : RegionOffset → List Float → List Float
inset_after a out = cond (granted (ask_inset a out)) (write_rings a.shape out) out

-- 21 makes no difference to an answer whose shape passes it, as an inset's does. Proved in `proofs/Told.antt`.
pub record InsetLike (a : RegionOffset) : Type 0 where
  pub proper : granted a.refusal ≡ true → proper_region a.shape ≡ true

pub record InsetAsked (a : RegionOffset) (out : List Float) : Type 0 where
  pub answer : inset_answer a out ≡ inset_told a (rings_told a.shape (write_inset a out))
  pub after : inset_after a out ≡ inset_over a out

abbrev pub InsetIs : Type 0
InsetIs = (a : RegionOffset) (out : List Float) → InsetLike a → InsetAsked a out

-- so of an inset the answer and the lent numbers are those of the definition
pub record AskedInset (r : Region) (d : Float) (out : List Float) : Type 0 where
  pub answer : inset_answer (region_inset r d) out ≡ inset_write r d out
  pub after : inset_after (region_inset r d) out ≡ written_inset r d out

abbrev pub InsetsAsked : Type 0
InsetsAsked = (r : Region) (d : Float) (out : List Float) → AskedInset r d out

-- opens every definition above, for a proof that computes with all of them
unfoldable pub open_asked : Unit {0}
unfolding ask_inset inset_answer inset_after
open_asked = tt
