-- `turn::exact::spread` meets its contract. Assumes nothing.
use native.Mathlib.Omega.{arith}
use Prim.Native.Nat.{◌%◌}
use Rattle.math.proofs.Shift.{power_of}
use Rattle.turn.proofs.Spread.{spread_law}
use Rattle.turn.proofs.exact.spread.Goals as goal

pub returns : goal.returns
returns c =
    let a = c.args in
    spread_law a.back a.m a.e _ _ c.requires.m_bound c.requires.e_bound (power_of (a.e % 27) (omega arith) c.power-unit.ensures) (omega arith)
