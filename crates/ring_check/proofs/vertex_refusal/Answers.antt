-- `ring_check::vertex_refusal` meets its contract. Assumes nothing.
use mathlib.Core.Path.{refl}
use Rattle.ring_check.specs.Checks
use Rattle.ring_check.proofs.vertex_refusal.Goals as goal

pub returns : goal.returns
unfolding Checks.vertex_refusal
returns c =
    let east-gives = c.beyond-2.ensures in
    let north-gives = c.choose-north.ensures in
    let north-beyond = c.beyond.ensures in
    let fits_Gives = c.choose-fits.ensures in
    rw (c.choose.ensures, east-gives, north-gives, north-beyond, fits_Gives) refl
