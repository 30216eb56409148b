-- Two edges, as something that is found. Assumes nothing.
use Rattle.std.specs.Prelude.{ℕ, Option, Some}
use Rattle.ring_cross.specs.declared.EdgePair.{EdgePair}

abbrev pub edges : ℕ → ℕ → Option EdgePair
edges i j = Some (record { first = i; second = j })
