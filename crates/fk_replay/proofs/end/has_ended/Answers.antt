-- A processor has ended if it has no next operation.
use Rattle.fk_replay.proofs.Ending.{none_of}
use Rattle.fk_replay.proofs.end.has_ended.Goals as goal

pub returns : goal.returns
returns c = none_of _ _ _ _ c.is_none.ensures c.due.ensures.due
