use Rattle.std.proofs.Common.{◌≡◌, map, sym, subst}
use Rattle.fk_syntax.specs.ProgramView.{item_of, program_of}
use Rattle.fk_sharing_class.specs.Things.{thing_in}
use Rattle.fk_sharing.specs.Tokens.{items_tokens}
use Rattle.fk_sharing.specs.Collected.{within, outside, seen}
use Rattle.fk_sharing.specs.Found.{AreKept}
use Rattle.fk_sharing.proofs.check.sharing.Goals as goal

pub returns-in-Ok-clause-answer : goal.returns-in-Ok-clause-answer
returns-in-Ok-clause-answer c =
    let program = program_of c.args.program.now in
    let names = c.args.names.now in
    let same = subst (λ items. map seen c.in-Ok.tokens.items ≡ items_tokens (thing_in c.args.names.now) within outside (map item_of items)) c.deref.ensures.value c.in-Ok.ensures in
    c.set_sharing.ensures.answer program names c.requires (subst (AreKept program names) (sym c.deref-in-Ok.ensures.value) same)
