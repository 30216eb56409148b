-- The rows of specs/Again.antt compute. Assumes nothing.
use mathlib.Core.Path.{refl}
use Rattle.region.specs.Everything.{open_everything}
use Rattle.examples.specs.Table.{answer, refusal_of, outline_ring, new_answer, offset_answer, no, w}
use Rattle.examples.specs.Again.{Again, drawn, margin, tenth, cage, inner}

pub again : Again
unfolding refusal_of outline_ring new_answer offset_answer answer no w drawn margin tenth cage inner open_everything
again = record { accepted = refl; outside = refl; again = refl }
