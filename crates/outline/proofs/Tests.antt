-- A test that fails among others. Assumes nothing.
use mathlib.Core.Path.{◌≡◌, refl}
use mathlib.Core.Bool.{Bool, true, false, ◌&&◌}

pub never : (a b c : Bool) → b ≡ false → b ≡ (a && (b && c))
never true b c h = rw h refl
never false b c h = h
