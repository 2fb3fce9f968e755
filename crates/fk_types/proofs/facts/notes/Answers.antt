use Rattle.std.proofs.Common.{◌++◌, [], ◌∷◌, sym, ap₂, ◌∙◌, take_all, arith}
use Rattle.fk_types.specs.Notes.{notes_of}
use Rattle.fk_types.proofs.NoteLemmas.{notes_of-more}
use Rattle.fk_types.proofs.facts.notes.Goals as goal

pub loop-at-preserved : goal.loop-at-preserved
loop-at-preserved c =
    c.in_ok-push.ensures.items
    ∙ ap₂ (λ ns n. ns ++ n ∷ []) c.loop-at.invariant c.note_of.ensures
    ∙ sym (notes_of-more c.args.kinds.now c.args.bindings.now c.loop-at.at (omega arith) (omega (arith, c.requires)))

pub returns : goal.returns
returns c =
    c.loop-at.invariant
    ∙ ap₂ notes_of (take_all c.loop-at.at c.args.kinds.now (omega arith)) (take_all c.loop-at.at c.args.bindings.now (omega (arith, c.requires)))
