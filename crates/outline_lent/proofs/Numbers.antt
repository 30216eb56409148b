-- One number written to lent output, and one past its end. Assumes nothing.
use Prim.Native.Nat.{ℕ, ◌≤◌}
use native.Mathlib.Nat.{zero-add}
use mathlib.Core.Path.{◌≡◌, refl, sym}
use mathlib.Core.List.{List}
use lib.ListN.{get_or, set, length}
use lib.Seq.{set_out}
use lib.Ieee.{Float, nan}
use Rattle.outline_lent.specs.Writes.{write_step}

module _ (ps : List Float) (k : ℕ) (out : List Float) where
  pub written : (x : Float) → x ≡ get_or ps k nan → set out k x ≡ write_step ps 0 k out
  unfolding write_step
  written x e = rw (zero-add, e) refl

  pub left_out : length out ≤ k → out ≡ write_step ps 0 k out
  unfolding write_step
  left_out l = rw zero-add (sym (set_out out k (get_or ps k nan) l))
