use Rattle.fk_regions.proofs.Clearing.{set-marked, marked-past}
use Rattle.fk_regions.proofs.marks.mark_at.Goals as goal

pub returns-then-at-notes : goal.returns-then-at-notes
returns-then-at-notes c = set-marked c.args.notes.now c.args.at _ c.if-at-notes.true

pub returns-else-at-notes : goal.returns-else-at-notes
returns-else-at-notes c = marked-past c.args.notes.now c.args.at c.if-at-notes.false
