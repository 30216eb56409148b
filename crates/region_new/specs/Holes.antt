-- The holes that are handed in, as outlines: hole k has its numbers from place 64 * k on, and as many vertices as count k. Assumes nothing.
use Rattle.std.specs.Prelude.{ℕ, List, [], ◌∷◌, drop, Float}
use Rattle.outline.specs.declared.Outline.{Outline}

unfoldable pub outlines : List Float → List ℕ → List Outline
outlines hs [] = []
outlines hs (n ∷ cs) = record { points = hs; count = n } ∷ outlines (drop 64 hs) cs
