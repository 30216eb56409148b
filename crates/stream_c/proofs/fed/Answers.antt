-- `stream_c::fed` meets its contract. Assumes nothing.
use mathlib.Core.Bool.{true, false}
use Rattle.stream_c.proofs.Answers.{asked, feed_told_as, feed_left, feed_put, not_fed, not_fed_state, not_fed_out}
use Rattle.stream_c.proofs.States.{sized, fed_two, fed_said_size}
use Rattle.stream_c.proofs.fed.Goals as goal

pub said-count-requires : goal.said-count-requires
said-count-requires c = sized _ _ c.judged-refusal.ensures _ c.granted.ensures c.if-granted.true

pub slice_bounds-feed-end : goal.slice_bounds-feed-end
slice_bounds-feed-end c = sized _ _ c.judged-refusal.ensures _ c.granted.ensures c.if-granted.true

pub say-requires : goal.say-requires
say-requires c =
    let a = c.args in
    let h = sized _ _ c.judged-refusal.ensures _ c.granted.ensures c.if-granted.true in
    fed_two a.block.now a.state.now _ a.out.now _ c.feed-f.ensures.held h

pub shape_of-state-then-granted : goal.shape_of-state-then-granted
shape_of-state-then-granted c =
    let a = c.args in
    fed_said_size a.block.now a.state.now _ a.out.now _ c.feed-f.ensures.held _ _ c.say.ensures

pub returns-then-granted : goal.returns-then-granted
returns-then-granted c =
    let a = c.args in
    let y = asked a.state.now _ c.judged-refusal.ensures _ c.granted.ensures true c.if-granted.true in
    let n = c.said-count.ensures in
    record {
      answered = feed_told_as a.block.now a.state.now a.out.now y _ n _ c.feed-f.ensures.told _ c.heard.ensures _ c.answer.ensures;
      state = feed_left a.block.now a.state.now a.out.now y _ n _ c.feed-f.ensures.told _ c.feed-f.ensures.held _ c.say.ensures;
      written = feed_put a.block.now a.state.now a.out.now y _ n _ c.feed-f.ensures.written;
    }

pub returns : goal.returns
returns c =
    let a = c.args in
    let y = asked a.state.now _ c.judged-refusal.ensures _ c.granted.ensures false c.if-granted.false in record {
      answered = not_fed a.block.now a.state.now a.out.now y _ c.judged-refusal.ensures _ c.answer-2.ensures;
      state = not_fed_state a.block.now a.state.now a.out.now y;
      written = not_fed_out a.block.now a.state.now a.out.now y;
    }
