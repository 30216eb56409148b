-- A sweep before its first event: what an event makes of it is what it adds. Assumes nothing.
use Rattle.std.specs.Prelude.{false, List, Float}
use Rattle.error.specs.declared.Refusal.TheVariants.{Granted}
use Rattle.front.specs.declared.Edge.{Edge}
use Rattle.front.specs.declared.Sweep.{Sweep}

unfoldable pub begun : List Edge → Float → Sweep
begun f travelled = record { edges = f; travelled = travelled; collapses = 0; divides = 0; joins = 0; ended = false; refusal = Granted }
