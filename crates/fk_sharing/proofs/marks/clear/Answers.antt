use Rattle.std.proofs.Common.{◌≡◌, length, ap, ◌∙◌, arith}
use Rattle.fk_sharing.proofs.Clearing.{cleared_first, clear-one, clear-all}
use Rattle.fk_sharing.proofs.marks.clear.Goals as goal

pub loop-note-preserved : goal.loop-note-preserved
loop-note-preserved c = clear-one c.args.notes.now c.loop-note.notes c.loop-note.note-index _ c.loop-note.invariant c.loop-note-test.true

pub returns : goal.returns
returns c =
    let same : c.loop-note.note-index ≡ length c.args.notes.now = omega arith in
    c.loop-note.invariant ∙ ap (λ n. cleared_first n c.args.notes.now) same ∙ clear-all c.args.notes.now
