-- `format_numerals::hex_run` meets its contract. Assumes nothing.
use Prim.Native.Nat.{ℕ, ◌<◌}
use native.Mathlib.Omega.{arith}
use mathlib.Core.Path.{sym, ◌∙◌, subst}
use lib.Dec.{lit<, lit≤}
use Rattle.format_numerals.proofs.Runs.{none, more, room, hex_read, hex_small}
use Rattle.format_numerals.proofs.hex_run.Goals as goal

pub loop-k-init : goal.loop-k-init
loop-k-init c = none _ _ _ _

pub overflow_mul-value : goal.overflow_mul-value
overflow_mul-value c =
    let going = c.loop-k-test.true in
    let inv = c.loop-k.invariant in
    record { fits = omega (arith, room 16 _ 16 _ 0 (lit≤ tt) (lit< tt) going inv.small) }

pub overflow_add-value : goal.overflow_add-value
overflow_add-value c =
    let going = c.loop-k-test.true in
    let inv = c.loop-k.invariant in
    record {
      fits = omega (
        arith,
        room 16 _ 16 _ c.hex_part.result (lit≤ tt)
            (subst (λ (x : ℕ). x < 16) (sym c.hex_part.ensures) (hex_small _)) going inv.small,
      );
    }

pub loop-k-preserved : goal.loop-k-preserved
loop-k-preserved c =
    let hex-part-gives = c.hex_part.ensures in
    let is-hex-gives = c.is_hex-sound.ensures in
    let inv = c.loop-k.invariant in
    more _ _ _ _ _ _ _ _ _ (lit≤ tt) (subst (λ (x : ℕ). x < 16) (sym hex-part-gives) (hex_small _)) is-hex-gives
    (λ e. hex-part-gives ∙ hex_read _ e) inv
