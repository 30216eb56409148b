-- `turn::exact::limbs_of` meets its contract. Assumes nothing.
use mathlib.Core.Path.{sym, subst}
use lib.Dec.{T}
use lib.Ieee.{binary64, fits, to_bits}
use Rattle.turn.proofs.Spread.{no_nan, limbs_law, parts_small}
use Rattle.turn.proofs.Places.{finite_magnitude, placed}
use Rattle.turn.proofs.exact.limbs_of.Goals as goal
use Rattle.turn.proofs.exact.limbs_of.Goals.{Start}

held : (c : Start) → T (fits binary64 c.args.x)
held c = subst T (sym c.well_formed.0.1) tt

pub float_to_bits-pattern : goal.float_to_bits-pattern
float_to_bits-pattern c = no_nan c.args.x c.requires

pub spread-requires : goal.spread-requires
spread-requires c =
    let magnitude-gives = c.magnitude-a.ensures in
    let significand-gives = c.significand.ensures in
    let start = c.before.before.before in
    let both =
    parts_small (to_bits binary64 c.args.x) _ _ _ (finite_magnitude c.args.x (held start) c.requires)
    magnitude-gives significand-gives c.exponent.ensures in
    record { m_bound = both.0; e_bound = both.1 }

pub returns : goal.returns
returns c =
    let magnitude-gives = c.magnitude-a.ensures in
    let significand-gives = c.significand.ensures in
    let exponent-gives = c.exponent.ensures in
    let start = c.before.before.before.before in
    let w = limbs_law _ (to_bits binary64 c.args.x) _ _ _ _ magnitude-gives significand-gives exponent-gives c.spread.ensures in
    record {
      placed = placed c.args.x _ (held start) c.requires w;
      small = w.small;
    }
