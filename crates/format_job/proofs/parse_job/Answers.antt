-- `format_job::parse_job` meets its contract. Assumes nothing.
use Rattle.format_job.proofs.Jobs.{unread, refused, given}
use Rattle.format_job.proofs.parse_job.Goals as goal

pub returns-in_default : goal.returns-in_default
returns-in_default c = unread _ _ _ c.in_default.ensures _ c.refused.ensures

pub returns-then-not-granted : goal.returns-then-not-granted
returns-then-not-granted c =
    refused _ _ _ _ _ _ c.in-Some.ensures _ _ c.read_lists-found.ensures _ c.granted.ensures c.if-not-granted.true _ c.refused-then-not-granted.ensures

pub returns : goal.returns
returns c = given _ _ _ _ _ _ c.in-Some.ensures _ _ c.read_lists-found.ensures _ c.granted.ensures c.if-not-granted.false
