-- `front_load::loaded_edge` meets its contract. Assumes nothing.
use native.Mathlib.Omega.{arith}
use mir.Facts.{Fits-of_lt}
use Rattle.ring.proofs.Vertices.{following_lt}
use Rattle.front.specs.Loading.{loaded_edge}
use Rattle.front_load.proofs.loaded_edge.Goals as goal

pub overflow_add-result-2 : goal.overflow_add-result-2
overflow_add-result-2 c = Fits-of_lt (omega (arith, following_lt _ _ c.requires.k_lt_n))

pub returns : goal.returns
unfolding loaded_edge
returns c = cc
