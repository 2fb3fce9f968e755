use Rattle.fk_replay_text.proofs.Written.{traces_are_texts}
use Rattle.fk_replay_text.proofs.laws.traces_are_texts.Goals as goal

pub returns : goal.returns
returns c = traces_are_texts
