-- A ring stored among the holes of a region that is loaded. Assumes nothing.
use mathlib.Core.Path.{◌≡◌, refl}
use mathlib.Core.Bool.{Bool, true, false, cond}
use mathlib.Core.List.{List}
use Prim.Native.Nat.{ℕ}
use lib.Ieee.{Float}
use Rattle.outline.specs.declared.Outline.{Outline}
use Rattle.region.specs.declared.Region.{Region}

-- a hole more, or one past the eighth
pub hole_more : (b : Bool) (o : Outline) (p q : List Float) (c d : List ℕ) (k : ℕ)
    → ◌≡◌ {A = Region} (record { outer = o; points = cond b p q; counts = cond b c d; holes = k }) (cond b (record { outer = o; points = p; counts = c; holes = k }) (record { outer = o; points = q; counts = d; holes = k }))
hole_more true o p q c d k = refl
hole_more false o p q c d k = refl
