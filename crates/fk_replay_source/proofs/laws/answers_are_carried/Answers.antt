use Rattle.fk_replay_source.proofs.Carried.{answers_are_carried}
use Rattle.fk_replay_source.proofs.laws.answers_are_carried.Goals as goal

pub returns : goal.returns
returns c = answers_are_carried
