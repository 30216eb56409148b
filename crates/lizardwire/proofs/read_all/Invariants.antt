-- `lizardwire::read_all` is safe. Assumes nothing.
use Prim.Native.Nat.{◌≤◌}
use Rattle.lizardwire.proofs.read_all.Given as goal

abbrev pub invariant-loop : goal.invariant-loop
invariant-loop g l = l.count ≤ 16385
