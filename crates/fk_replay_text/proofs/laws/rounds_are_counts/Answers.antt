use Rattle.fk_replay_text.proofs.Counted.{rounds_are_counts}
use Rattle.fk_replay_text.proofs.laws.rounds_are_counts.Goals as goal

pub returns : goal.returns
returns c = rounds_are_counts
