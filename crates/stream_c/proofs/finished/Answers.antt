-- `stream_c::finished` meets its contract. Assumes nothing.
use mathlib.Core.Bool.{true, false}
use Rattle.stream_c.proofs.Answers.{asked, finish_told_as, finish_left, finish_kept, finish_put, not_finished, not_finished_state, not_finished_out}
use Rattle.stream_c.proofs.States.{sized, two_bytes}
use Rattle.stream_c.proofs.finished.Goals as goal

pub said-count-requires : goal.said-count-requires
said-count-requires c = sized _ _ c.judged-refusal.ensures _ c.granted.ensures c.if-granted.true

pub slice_bounds-finish-end : goal.slice_bounds-finish-end
slice_bounds-finish-end c = sized _ _ c.judged-refusal.ensures _ c.granted.ensures c.if-granted.true

pub say-requires : goal.say-requires
say-requires c =
    let a = c.args in
    two_bytes a.state.now (sized _ _ c.judged-refusal.ensures _ c.granted.ensures c.if-granted.true)

pub returns-then-granted-2 : goal.returns-then-granted-2
returns-then-granted-2 c =
    let a = c.args in
    let y = asked a.state.now _ c.judged-refusal.ensures _ c.granted.ensures true c.if-granted.true in
    let n = c.said-count.ensures in
    let u = c.refusal-ended.ensures in
    let g = c.granted-then-granted.ensures in record {
      answered = finish_told_as a.state.now a.out.now y _ n _ c.finish-last.ensures.told _ u _ c.answer.ensures;
      state = finish_left a.state.now a.out.now y _ n _ c.finish-last.ensures.told _ u _ g c.if-granted-2.true _ c.say.ensures;
      written = finish_put a.state.now a.out.now y _ n _ c.finish-last.ensures.written;
    }

pub returns-then-granted : goal.returns-then-granted
returns-then-granted c =
    let a = c.args in
    let y = asked a.state.now _ c.judged-refusal.ensures _ c.granted.ensures true c.if-granted.true in
    let n = c.said-count.ensures in
    let u = c.refusal-ended.ensures in record {
      answered = finish_told_as a.state.now a.out.now y _ n _ c.finish-last.ensures.told _ u _ c.answer-then-granted.ensures;
      state = finish_kept a.state.now a.out.now y _ n _ c.finish-last.ensures.told _ u _ c.granted-then-granted.ensures c.if-granted-2.false;
      written = finish_put a.state.now a.out.now y _ n _ c.finish-last.ensures.written;
    }

pub returns : goal.returns
returns c =
    let a = c.args in
    let y = asked a.state.now _ c.judged-refusal.ensures _ c.granted.ensures false c.if-granted.false in record {
      answered = not_finished a.state.now a.out.now y _ c.judged-refusal.ensures _ c.answer-2.ensures;
      state = not_finished_state a.state.now a.out.now y;
      written = not_finished_out a.state.now a.out.now y;
    }
