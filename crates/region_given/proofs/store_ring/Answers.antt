-- `region_given::store_ring` meets its contract. Assumes nothing.
use native.Mathlib.Omega.{arith}
use mathlib.Core.Path.{◌≡◌, sym, ◌∙◌}
use lib.ListN.{length}
use Rattle.base.proofs.Laws.{no_round, goes_on, ends}
use Rattle.ring.specs.Store.{stored}
use Rattle.region_given.proofs.Filed.{store_in, store_out, past_room, other_length, stored_is_filed}
use Rattle.region_given.proofs.store_ring.Goals as goal
use Rattle.region_given.proofs.store_ring.Goals.{then-k-room, else-k-room}

pub returns-then-base-gt256 : goal.returns-then-base-gt256
returns-then-base-gt256 c = past_room _ _ _ _ _ c.if-base-gt256.true

pub returns-then-out-ne512 : goal.returns-then-out-ne512
returns-then-out-ne512 c = other_length _ _ _ _ _ c.if-base-gt256.false c.if-out-ne512.true

pub loop-k-init : goal.loop-k-init
loop-k-init c = sym (no_round _ _)

pub loop-k-preserved : goal.loop-k-preserved
loop-k-preserved c =
    let size : length c.loop-k.out ≡ 512 = c.loop-k.auto.out ∙ c.if-out-ne512.false in
    goes_on _ _ _ _ _ c.loop-k.invariant
    (elim c.if-k-room.branch [
      | then-k-room w ↦ w.out-is ∙ store_in _ _ _ _ _ _ _ c.stored_at-v.ensures
      | else-k-room w ↦ w.out-is ∙ store_out _ _ _ _ _ _ size (omega arith)
    ])

pub returns : goal.returns
unfolding stored
returns c =
    stored_is_filed _ _ _ _ _ _ c.if-base-gt256.false c.if-out-ne512.false
    (ends _ _ _ _ _ c.loop-k.auto.k-end c.loop-k-test.false c.loop-k.invariant)
