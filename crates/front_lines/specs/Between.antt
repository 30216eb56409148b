-- What the code of the front reads by value: an edge's length between its two moving ends. Assumes nothing.
use Rattle.std.specs.Prelude.{Option, Some, None}
use Rattle.front.specs.declared.Edge.{Edge}
use Rattle.front.specs.declared.Moving.{Moving}
use Rattle.front.specs.declared.Length.{Length}
use Rattle.front.specs.Edges.{length_to}

-- `Front::length`, given the start vertices of the edge and of its next
unfoldable pub length_between : Edge → Option Moving → Option Moving → Option Length
length_between e None to = None
length_between e (Some from) to = length_to e from to
