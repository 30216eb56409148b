-- `front_tidy::tidy_length` meets its contract. Assumes nothing.
use Rattle.front.specs.Tidying
use mathlib.Core.Path.{refl, sym, ◌∙◌}
use Rattle.front_tidy.proofs.tidy_length.Goals as goal

pub returns-in-None : goal.returns-in-None
unfolding Tidying.tidy_length
returns-in-None c = rw c.in-None.is refl

pub returns-then-empty : goal.returns-then-empty
unfolding Tidying.tidy_length
returns-then-empty c = rw (c.in-Some.is, sym c.empty.ensures ∙ c.if-empty.true) refl

pub returns-else-empty : goal.returns-else-empty
unfolding Tidying.tidy_length
returns-else-empty c = rw (c.in-Some.is, sym c.empty.ensures ∙ c.if-empty.false) refl
