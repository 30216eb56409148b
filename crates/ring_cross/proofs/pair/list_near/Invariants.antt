-- `ring_cross::pair::list_near` meets its contract. Assumes nothing.
use Prim.Native.Nat.{◌≤◌}
use mathlib.Core.Path.{◌≡◌}
use Rattle.ring.proofs.Starts.{start}
use Rattle.ring_cross.specs.LeftOut.{MissedBy, Lists}
use Rattle.ring_cross.proofs.pair.list_near.Given as goal

abbrev pub invariant-loop-k : goal.invariant-loop-k
invariant-loop-k l = record { few : l.count ≤ l.k; from : l.b1 ≡ start l.qs l.m l.k; lists : Lists (MissedBy l.qs l.m l.low l.high) l.edges l.count l.k }
