-- `format_numerals::decimal_run` meets its contract. Assumes nothing.
use Prim.Native.Nat.{ℕ, ◌<◌}
use native.Mathlib.Nat.{lt_of_lt_of_le}
use native.Mathlib.Omega.{arith}
use mathlib.Core.Path.{sym, ◌∙◌, subst}
use lib.Dec.{lit<, lit≤}
use Rattle.format_numerals.proofs.Runs.{none, more, room, decimal_read, decimal_small}
use Rattle.format_numerals.proofs.decimal_run.Goals as goal

pub loop-b-init : goal.loop-b-init
loop-b-init c = none _ _ _ _

pub overflow_mul-value : goal.overflow_mul-value
overflow_mul-value c =
    let going = c.loop-b-test.true in
    let pre = c.requires in
    let inv = c.loop-b.invariant in
    record { fits = omega (arith, room 10 _ 3 _ 0 (lit≤ tt) (lit< tt) (lt_of_lt_of_le going pre) inv.small) }

pub overflow_add-value : goal.overflow_add-value
overflow_add-value c =
    let going = c.loop-b-test.true in
    let pre = c.requires in
    let inv = c.loop-b.invariant in
    record {
      fits = omega (
        arith,
        room 10 _ 3 _ c.decimal_part.result (lit≤ tt)
            (subst (λ (x : ℕ). x < 16) (sym c.decimal_part.ensures) (decimal_small _)) (lt_of_lt_of_le going pre) inv.small,
      );
    }

pub loop-b-preserved : goal.loop-b-preserved
loop-b-preserved c =
    let decimal-part-gives = c.decimal_part.ensures in
    let is-decimal-gives = c.is_decimal-sound.ensures in
    let inv = c.loop-b.invariant in
    more _ _ _ _ _ _ _ _ _ (lit≤ tt) (subst (λ (x : ℕ). x < 16) (sym decimal-part-gives) (decimal_small _)) is-decimal-gives
    (λ e. decimal-part-gives ∙ decimal_read _ e) inv
