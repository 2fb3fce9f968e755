use Rattle.std.proofs.Common.{set, ap, ◌∙◌}
use Rattle.fk_sharing.proofs.Clearing.{set-joined, joined-past}
use Rattle.fk_sharing.proofs.marks.join_at.Goals as goal

pub returns-then-at-notes : goal.returns-then-at-notes
returns-then-at-notes c = ap (λ note. set c.args.notes.now c.args.at note) c.joined.ensures ∙ set-joined c.args.notes.now c.args.at _ c.args.shared c.args.splits c.if-at-notes.true

pub returns-else-at-notes : goal.returns-else-at-notes
returns-else-at-notes c = joined-past c.args.notes.now c.args.at c.args.shared c.args.splits c.if-at-notes.false
