-- `front_load::load_ring` meets its contract. Assumes nothing.
use Rattle.front_load.proofs.Loads.{So}
use Rattle.front_load.proofs.load_ring.Given as goal

abbrev pub invariant-loop-k : goal.invariant-loop-k
invariant-loop-k l = So l.ps l.n l.back l.origin l.d l.fn.s l.s l.k
