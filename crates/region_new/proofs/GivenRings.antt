-- One hole after the other, as it is handed in, and question 21 of all of them. Assumes nothing.
use Prim.Native.Nat.{ℕ, ◌+◌, ◌*◌, ◌≤◌, ◌<◌}
use native.Mathlib.Omega.{arith}
use mathlib.Core.Path.{◌≡◌, refl, sym, ap, ◌∙◌}
use mathlib.Core.Bool.{Bool, true, false, cond, ◌&&◌}
use mathlib.Core.List.{List}
use lib.Dec.{ltb}
use lib.ListN.{length, get_or, set, drop, replicate}
use lib.Ieee.{Float}
use Rattle.math.specs.Number.{zero_float}
use Rattle.error.specs.declared.Refusal.TheVariants.{Shape}
use Rattle.outline.specs.declared.Outline.{Outline}
use Rattle.region.specs.declared.Region.{Region}
use Rattle.region.specs.declared.NewRegion.{NewRegion}
use Rattle.base.specs.Loop.{rounds}
use Rattle.base.proofs.Laws.{next_round, rounds_same}
use Rattle.ring.specs.Store.{stored}
use Rattle.outline.specs.Outlines.{proper}
use Rattle.region.specs.Regions.{no_region, with_outer, store_hole, count_hole, with_hole}
use Rattle.region.specs.Checks.{check_region, region_refused, region_if, given_hole, proper_given_step, proper_given, given_step, given_rings, region_given}
use Rattle.region.specs.Answers.{ProperNewRegion}
use Rattle.region.proofs.Loaded.{region_again}
use Rattle.region_given.specs.Given.{proper_hole, proper_hole_step, proper_holes}
use Rattle.region_load.proofs.Stores.{hole_more}
use Rattle.region_new.proofs.Checked.{proper_as}
use Rattle.region_new.specs.Holes.{outlines}
use Rattle.region_new.proofs.Outlines.{as_many, hole_is}

-- what is stored so far
abbrev pub region_at : Outline → List Float → List ℕ → ℕ → Region
region_at o points counts k = record { outer = o; points = points; counts = counts; holes = k }

module _ (o : Outline) (hs : List Float) (cs : List ℕ) where
  abbrev pub giving : ℕ → Region
  giving k = rounds (given_step (outlines hs cs)) k (with_outer no_region o)

  pub none_given : giving 0 ≡ region_at o (replicate 512 zero_float) (replicate 8 0) 0
  unfolding rounds with_outer no_region
  none_given = refl

  module _ (points : List Float) (counts : List ℕ) (k : ℕ) (so_far : giving k ≡ region_at o points counts k) where
    pub hole_given : k < length cs → (n : ℕ) → n ≡ get_or cs k 0 → (hole : List Float) → hole ≡ drop (64 * k) hs → (p : List Float) (d : List ℕ)
        → p ≡ cond (ltb k 8) (stored hole n false (32 * k) points) points → d ≡ cond (ltb k 8) (set counts k n) counts → giving (k + 1) ≡ region_at o p d (k + 1)
    unfolding given_step given_hole with_hole store_hole count_hole
    hole_given l n en hole eh p d e f =
        next_round (given_step (outlines hs cs)) k (with_outer no_region o) ∙
        rw (so_far, hole_is hs cs k l, e, f, en, eh)
        (sym (hole_more (ltb k 8) o (stored (drop (64 * k) hs) (get_or cs k 0) false (32 * k) points) points (set counts k (get_or cs k 0)) counts (k + 1)))

    pub all_given : k ≤ length cs → length cs ≤ k → region_at o points counts (length cs) ≡ given_rings o (outlines hs cs)
    unfolding given_rings
    all_given l h =
        let at : length cs ≡ k = omega arith in
        ap (region_at o points counts) at ∙ sym so_far ∙ ap giving (omega (arith, as_many hs cs, l, h))

  proper_is : proper_given o (outlines hs cs) ≡ (proper 128 o.points o.count && proper_holes hs cs (length cs))
  unfolding proper_given proper_holes proper_hole proper_hole_step proper_given_step given_hole
  proper_is =
      ap (λ (b : Bool). proper 128 o.points o.count && b)
      (ap (λ (n : ℕ). rounds (proper_given_step (outlines hs cs)) n true) (as_many hs cs) ∙
      rounds_same (proper_given_step (outlines hs cs)) (proper_hole_step hs cs) (length cs) true (λ k l s. rw (hole_is hs cs k l) refl))

  module _ (a b : Bool) (ea : a ≡ proper 128 o.points o.count) (eb : b ≡ proper_holes hs cs (length cs)) (x : NewRegion) where
    told : (a && b) ≡ proper_given o (outlines hs cs)
    told = rw (ea, eb) (sym proper_is)

    pub given_passed : (a && b) ≡ true → (r : Region) → r ≡ given_rings o (outlines hs cs) → x ≡ region_if r (check_region r) → x ≡ region_given o (outlines hs cs)
    unfolding region_given
    given_passed h r e f = rw (← told, h, ← e) f

    pub given_refused : (a && b) ≡ false → x ≡ region_refused Shape → x ≡ region_given o (outlines hs cs)
    unfolding region_given
    given_refused h f = rw (← told, h) f

-- what is accepted passes 21 again
pub passes_again : (o : Outline) (hs : List Float) (cs : List ℕ) (x : NewRegion) → x ≡ region_given o (outlines hs cs) → (x ≡ region_given o (outlines hs cs)) × ProperNewRegion x
passes_again o hs cs x e = (e, proper_as x (region_given o (outlines hs cs)) e (region_again.given o (outlines hs cs)))
