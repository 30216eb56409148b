-- Question 21 of a region handed in. Assumes nothing.
use Prim.Native.Nat.{ℕ, ◌≤◌, ◌<◌}
use mathlib.Core.Path.{◌≡◌, refl, ◌∙◌}
use mathlib.Core.Bool.{Bool, true, false, ◌&&◌}
use mathlib.Core.List.{List}
use borrow.Author.Tests.{le-leb, lt-leb}
use lib.Dec.{leb}
use lib.Ieee.{Float}
use Rattle.outline.specs.Outlines.{proper}
use Rattle.region.specs.Regions.{hole_points, hole_count, region_of}
use Rattle.region.specs.Checks.{proper_step, proper_region}
use Rattle.region_given.specs.Given.{proper_hole, proper_hole_step, proper_holes}

-- ---- question 21 of a region
module _ (ps : List Float) (n : ℕ) (hs : List Float) (cs : List ℕ) (h : ℕ) where
  region_is : proper_region (region_of ps n hs cs h) ≡ (proper 128 ps n && (leb h 8 && proper_holes hs cs h))
  unfolding proper_region proper_step region_of hole_points hole_count proper_hole proper_hole_step proper_holes
  region_is = refl

  pub many_holes : (v : Bool) → v ≡ false → 8 < h → v ≡ proper_region (region_of ps n hs cs h)
  many_holes v e l = e ∙ rw region_is (go (proper 128 ps n))
    where
      go : (a : Bool) → false ≡ (a && (leb h 8 && proper_holes hs cs h))
      go true = rw (lt-leb h 8 l) refl
      go false = refl

  module _ (v r : Bool) (e : r ≡ proper 128 ps n) (i : v ≡ r) where
    pub outer_fails : v ≡ false → v ≡ proper_region (region_of ps n hs cs h)
    outer_fails t = t ∙ rw (region_is, ← e, ← i, t) refl

    pub by_holes : (x : Bool) → h ≤ 8 → v ≡ true → x ≡ proper_holes hs cs h → x ≡ proper_region (region_of ps n hs cs h)
    by_holes x l t k = rw (region_is, ← e, ← i, t, le-leb h 8 l) k
