-- Bytes stored one after the other, from a place on; one past the end is left out. Assumes nothing.
use Rattle.std.specs.Prelude.{ℕ, List}
use Rattle.std.proofs.lemmas.List.Edits.{sets}

unfoldable pub put : List ℕ → ℕ → List ℕ → List ℕ
put out at bytes = sets out at bytes

-- opens the definition above
unfoldable pub open_stores : Unit {0}
unfolding put
open_stores = tt
