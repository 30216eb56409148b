-- Hole k of the holes that are handed in. Assumes nothing.
use Prim.Native.Nat.{ℕ, zero, suc, ◌+◌, ◌*◌, ◌<◌}
use native.Mathlib.Omega.{arith}
use mathlib.Core.Path.{◌≡◌, refl, ap, ◌∙◌}
use mathlib.Core.List.{List, [], ◌∷◌}
use lib.ListN.{length, get_or, drop}
use lib.Seq.{drop-drop}
use lib.Ieee.{Float}
use Rattle.outline.specs.declared.Outline.{Outline}
use Rattle.outline.specs.Outlines.{no_outline}
use Rattle.region_new.specs.Holes.{outlines}

pub as_many : (hs : List Float) (cs : List ℕ) → length (outlines hs cs) ≡ length cs
unfolding outlines
as_many hs [] = refl
as_many hs (n ∷ cs) = ap suc (as_many (drop 64 hs) cs)

pub hole_is : (hs : List Float) (cs : List ℕ) (k : ℕ) → k < length cs → get_or (outlines hs cs) k no_outline ≡ record { points = drop (64 * k) hs; count = get_or cs k 0 }
unfolding outlines
hole_is hs [] k l = absurd (omega arith)
hole_is hs (n ∷ cs) zero l = refl
hole_is hs (n ∷ cs) (suc k) l =
    let place : 64 + 64 * k ≡ 64 * suc k = omega arith in
    hole_is (drop 64 hs) cs k (omega arith) ∙ ap {B = Outline} (λ (ps : List Float). record { points = ps; count = get_or cs k 0 }) (drop-drop (64 * k) 64 hs ∙ ap (λ (i : ℕ). drop i hs) place)
