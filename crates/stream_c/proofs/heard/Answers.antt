-- `stream_c::heard` meets its contract. Assumes nothing.
use Rattle.stream_c.proofs.States.{heard_none, heard_some}
use Rattle.stream_c.proofs.heard.Goals as goal

pub returns-then-written-eq0 : goal.returns-then-written-eq0
returns-then-written-eq0 c = heard_none _ _ _ c.if-written-eq0.true c.refusal.ensures

pub returns : goal.returns
returns c = heard_some _ _ c.if-written-eq0.false
