-- `stream_c::made` meets its contract. Assumes nothing.
use Rattle.stream_c.proofs.Answers.{short_made, short_kept, long_made, long_state}
use Rattle.stream_c.proofs.made.Goals as goal

pub returns-then-state-lt16387 : goal.returns-then-state-lt16387
returns-then-state-lt16387 c =
    let a = c.args in
    record {
      answered = short_made a.state.now c.if-state-lt16387.true _ c.line.ensures;
      state = short_kept a.state.now c.if-state-lt16387.true;
    }

pub returns : goal.returns
returns c =
    let a = c.args in
    let h = c.if-state-lt16387.false in
    record {
      answered = long_made a.state.now h _ c.line-2.ensures;
      state = long_state a.state.now h _ c.say.ensures;
    }
