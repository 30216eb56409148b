-- The region of given outlines, flat as they are written, is the one of the outlines that they are. Proved in `proofs/AsOutlines.antt`.
-- Assumes nothing.
use Rattle.std.specs.Prelude.{ℕ, ◌*◌, ◌≡◌, true, false, List, [], ◌∷◌, drop, Float}
use Rattle.outline.specs.declared.Outline.{Outline}
use Rattle.outline.specs.Outlines.{stored_outline}
use Rattle.region.specs.Checks.{lengths_fit, region_given, without_holes}
use Rattle.region_stored.specs.Stored.{given_region}

-- rings one after the other, as outlines
unfoldable pub outlines_of : List ℕ → List Float → List Outline
outlines_of [] ps = []
outlines_of (n ∷ ns) ps = record { points = ps; count = n } ∷ outlines_of ns (drop (2 * n) ps)

-- an outer ring of n vertices, and holes after it
abbrev pub GivenOutlines : Type 0
GivenOutlines =
    (n : ℕ) (ns : List ℕ) (ps : List Float) → lengths_fit (n ∷ ns) ps ≡ true →
    given_region (n ∷ ns) ps ≡ region_given (stored_outline ps n false) (outlines_of ns (drop (2 * n) ps))

-- an outer ring alone
abbrev pub GivenAlone : Type 0
GivenAlone =
    (n : ℕ) (ps : List Float) → lengths_fit (n ∷ []) ps ≡ true →
    given_region (n ∷ []) ps ≡ without_holes (stored_outline ps n false)
