-- What is read of a region that is handed in: its outer ring, and no hole where there are no more than k. Assumes nothing.
use Prim.Native.Nat.{ℕ, ◌≤◌}
use mathlib.Core.Path.{◌≡◌, refl, sym, ap, ◌∙◌}
use mathlib.Core.Bool.{false}
use mathlib.Core.List.{List}
use borrow.Author.Tests.{le-ltb}
use lib.Dec.{ltb}
use lib.Ieee.{Float}
use Rattle.error.specs.declared.Refusal.TheVariants.{Granted}
use Rattle.outline.specs.declared.NewOutline.{NewOutline}
use Rattle.outline_lent.specs.declared.direct.Counted.{Counted}
use Rattle.outline_lent.specs.Direct.{told, over_outline}
use Rattle.region.specs.declared.NewRegion.{NewRegion}
use Rattle.region.specs.Queries.{ask_region, region_outer}
use Rattle.region_c.specs.Told.{handed, hole_told, stored_region}
use Rattle.region_stored.proofs.Again.{stored_asked, stored_outer}

module _ (lengths : List ℕ) (ps : List Float) (a : NewRegion) (e : a ≡ stored_region lengths ps) where
  pub outer_is : record { refusal = a.refusal; shape = a.shape.outer } ≡ region_outer (handed lengths ps)
  unfolding handed
  outer_is = rw e (stored_outer lengths ps)

  module _ (k : ℕ) (out : List Float) where
    pub hole_no : a.shape.holes ≤ k → record { refusal = a.refusal; count = 0 } ≡ hole_told (handed lengths ps) k out
    unfolding hole_told handed
    hole_no l =
        let t : ltb k (handed lengths ps).holes ≡ false = ap (λ (x : NewRegion). ltb k x.shape.holes) (sym e) ∙ le-ltb k a.shape.holes l in
        let u : a.refusal ≡ ask_region (handed lengths ps) Granted = ap (λ (x : NewRegion). x.refusal) e ∙ stored_asked lengths ps in
        rw (t, u) refl

pub read_as : (o p : NewOutline) → o ≡ p → (out now : List Float) (w : Counted) → (w ≡ told o out) × (now ≡ over_outline o out) → (w ≡ told p out) × (now ≡ over_outline p out)
read_as o p e out now w h = (h.0 ∙ ap (λ (x : NewOutline). told x out) e, h.1 ∙ ap (λ (x : NewOutline). over_outline x out) e)
