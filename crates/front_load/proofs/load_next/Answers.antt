-- `front_load::load_next` meets its contract. Assumes nothing.
use mathlib.Core.Path.{refl}
use Rattle.base.proofs.Choices.{yes, no}
use Rattle.front.specs.Loading.{load_refused}
use Rattle.front_load.specs.Next.{fits, load_next}
use Rattle.front_load.proofs.load_next.Goals as goal

pub returns-then-s-n : goal.returns-then-s-n
unfolding load_next fits
returns-then-s-n c = yes _ _ _ _ c.load_ring.ensures c.if-s-n.true

pub returns-else-s-n : goal.returns-else-s-n
unfolding load_next fits load_refused
returns-else-s-n c = no _ _ _ _ refl c.if-s-n.false
