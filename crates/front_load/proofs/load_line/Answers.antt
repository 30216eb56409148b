-- `front_load::load_line` meets its contract. Assumes nothing.
use mathlib.Core.Path.{refl}
use Rattle.front_load.proofs.load_line.Goals as goal

pub returns : goal.returns
returns c =
    let load-vertex-gives = c.load_vertex-b.ensures in
    let following-gives = c.following.ensures in
    rw (c.through.ensures, load-vertex-gives, following-gives) refl
