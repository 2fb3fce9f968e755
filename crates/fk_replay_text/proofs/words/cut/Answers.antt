use Rattle.fk_replay_text.proofs.Cutting.{cut_found, none_at}
use Rattle.fk_replay_text.proofs.words.cut.Goals as goal

pub returns-then-end-text : goal.returns-then-end-text
returns-then-end-text c = none_at c.args.byte c.args.text.now c.length_before-end.result c.length_before-end.ensures c.if-end-text.true

pub returns : goal.returns
returns c = cut_found c.args.byte c.args.text.now c.length_before-end.result c.length_before-end.ensures c.if-end-text.false
