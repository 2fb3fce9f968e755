-- What the tokens break is what the program breaks, and their classes and splits are its own.
use Rattle.std.proofs.Common.{◌≡◌, Some, None, map, fold, length, refl, subst, ◌∙◌, arith}
use Rattle.std.specs.Vec.{with_items}
use Rattle.std.proofs.lemmas.List.{with_items_is}
use Rattle.fk_sharing.specs.Collected.{seen}
use Rattle.fk_sharing.specs.Marked.{cleared, after}
use Rattle.fk_sharing.proofs.Settled.{refused, unbroken, accepted}
use Rattle.fk_sharing.proofs.check.set_sharing.Goals as goal

pub returns-in-Some-clause-answer : goal.returns-in-Some-clause-answer
returns-in-Some-clause-answer c = λ program names are kept.
    refused program names are c.args.tokens.now kept (Some c.in-Some.fault) c.in-Some.ensures c.in-Some.fault c.number.result refl c.number.ensures

pub returns-in-None-clause-answer : goal.returns-in-None-clause-answer
returns-in-None-clause-answer c = λ program names are kept.
    let tokens = c.args.tokens.now in
    let facts = c.args.facts.now in
    let marks = subst (λ notes. c.mark.new.notes ≡ fold after (map cleared notes) (map seen c.args.tokens.now)) c.deref_mut.ensures.value c.mark.ensures in
    let size : length c.mark.new.notes ≡ c.args.facts.now.notes.len = omega (arith, c.mark.auto.notes, c.deref_mut.ensures.len) in
    accepted program names are tokens kept facts (record { notes = with_items facts.notes c.mark.new.notes; kinds = facts.kinds })
    (unbroken program names are tokens kept None c.in-None.ensures refl)
    refl (with_items_is facts.notes c.mark.new.notes size ∙ marks)
