use Rattle.fk_replay_text.proofs.Whole.{no_harts_number, too_many_harts}
use Rattle.fk_replay_text.proofs.line.read_harts.Goals as goal
use Rattle.fk_replay_text.proofs.line.read_harts.Goals.{then-harts-eq0-via-then-harts-eq0, then-harts-eq0-via-else-harts-eq0+then-harts-gt-MOST_HARTS}

pub returns-then-harts-eq0 : goal.returns-then-harts-eq0
returns-then-harts-eq0 c = elim c.then-harts-eq0.branch [
  | then-harts-eq0-via-then-harts-eq0 w ↦ no_harts_number c.args.line.now c.in_ok-after.field-0.now c.in_ok-harts.harts c.in_ok-after.ensures c.in_ok-harts.ensures.number w.if-harts-eq0.true
  | then-harts-eq0-via-else-harts-eq0+then-harts-gt-MOST_HARTS w ↦ too_many_harts c.args.line.now c.in_ok-after.field-0.now c.in_ok-harts.harts c.in_ok-after.ensures c.in_ok-harts.ensures.number c.in_ok-harts.ensures.word w.if-harts-gt-MOST_HARTS.true
]
