-- `job_stream::line_end` meets its contract. Assumes nothing.
use Prim.Native.Nat.{◌-◌}
use mathlib.Core.Path.{refl, sym, ◌∙◌}
use Rattle.job_stream.proofs.Parts.{end_past, end_here, end_next}
use Rattle.job_stream.proofs.line_end.Goals as goal

pub loop-k-init : goal.loop-k-init
loop-k-init c = refl

pub returns-then-block-k-eq10 : goal.returns-then-block-k-eq10
returns-then-block-k-eq10 c =
    let inv = c.loop-k.invariant in
    let args = c.args in
    let going = c.loop-k-test.true in
    sym (inv ∙ end_here args.block.now _ going c.if-block-k-eq10.true)

pub loop-k-preserved : goal.loop-k-preserved
loop-k-preserved c =
    let inv = c.loop-k.invariant in
    let args = c.args in
    let going = c.loop-k-test.true in
    inv ∙ end_next args.block.now _ going c.if-block-k-eq10.false

pub returns : goal.returns
returns c =
    let inv = c.loop-k.invariant in
    let args = c.args in
    sym (inv ∙ end_past args.block.now _ c.loop-k-test.false)
