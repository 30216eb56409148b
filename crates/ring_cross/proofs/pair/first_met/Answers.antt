-- `ring_cross::pair::first_met` meets its contract. Assumes nothing.
use mathlib.Core.Path.{sym, ◌∙◌}
use Rattle.ring_cross.proofs.Walks.{told_apart, pair_upto}
use Rattle.ring_cross.proofs.pair.first_met.Goals as goal

pub returns-then-is_some : goal.returns-then-is_some
returns-then-is_some c =
    let met = sym c.is_some.ensures ∙ c.if-is_some.true in
    pair_upto _ _ _ _ _ _ _ c.requires.within c.first_listed-met.ensures met

pub first_from-requires : goal.first_from-requires
first_from-requires c = record {
  start_le_m = c.requires.within;
  start_value = told_apart _ _ _ c.first_listed-met.ensures c.is_some.ensures c.if-is_some.false;
}
