-- `stream_c::judged` meets its contract. Assumes nothing.
use Rattle.stream_c.proofs.States.{judged_short, judged_much, judged_fine}
use Rattle.stream_c.proofs.judged.Goals as goal

pub returns-then-state-lt16387 : goal.returns-then-state-lt16387
returns-then-state-lt16387 c = judged_short _ c.if-state-lt16387.true

pub returns-then-said-gt16385 : goal.returns-then-said-gt16385
returns-then-said-gt16385 c = judged_much _ c.if-state-lt16387.false _ c.said.ensures c.if-said-gt16385.true

pub returns : goal.returns
returns c = judged_fine _ c.if-state-lt16387.false _ c.said.ensures c.if-said-gt16385.false
