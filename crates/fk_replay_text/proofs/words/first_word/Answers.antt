use Rattle.fk_replay_text.proofs.Cutting.{word_at}
use Rattle.fk_replay_text.proofs.words.first_word.Goals as goal

pub returns : goal.returns
returns c = rw (c.split_at.ensures.front, c.split_at.ensures.back) (word_at c.args.text.now c.length_before.result c.length_before.ensures)
