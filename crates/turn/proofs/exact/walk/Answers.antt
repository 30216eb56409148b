-- `turn::exact::walk` meets its contract. Assumes nothing.
use mathlib.Core.Path.{ap, ◌∙◌}
use mathlib.Core.Bool.{true, false}
use Prim.Native.Nat.{ℕ, ◌+◌, ◌*◌, ◌^◌}
use native.Mathlib.Omega.{arith}
use Rattle.turn.proofs.Walking.{walk_step, walk_over, walk_led}
use Rattle.turn.proofs.Products.{side_le, side_none}
use Rattle.turn.proofs.exact.walk.Goals as goal
use Rattle.turn.proofs.exact.walk.Goals.{else-loop-k-test, then-loop-k-test+then-max-ge-LIMIT}

pub loop-k-preserved : goal.loop-k-preserved
loop-k-preserved c =
    walk_step _ _ _ _ _ _ _ _ _ (omega arith) c.loop-k.invariant
    (ap (λ (x : ℕ). c.loop-k.left * 2 ^ 27 + x) c.tally.ensures.value)
    (ap (λ (x : ℕ). c.loop-k.right * 2 ^ 27 + x) c.tally-in-loop-k.ensures.value) c.min-least.ensures

pub returns : goal.returns
returns c = c.compare.ensures ∙ elim c.loop-k-test.branch [
  | else-loop-k-test w ↦
      walk_over _ _ _ _ _ _ _ c.loop-k.invariant (side_none false _ _ c.requires.empty) (side_none true _ _ c.requires.empty) (omega arith)
  | then-loop-k-test+then-max-ge-LIMIT w ↦
      walk_led _ _ _ _ _ _ c.loop-k.invariant (side_le false _ c.requires.flat) (side_le true _ c.requires.flat) (omega arith)
]
