use Rattle.std.proofs.Common.{◌≡◌, map, sym, subst}
use Rattle.fk_syntax.specs.ProgramView.{item_of, program_of}
use Rattle.fk_regions.specs.Tokens.{items_tokens}
use Rattle.fk_regions.specs.Collected.{within, outside, seen}
use Rattle.fk_regions.specs.Found.{AreKept}
use Rattle.fk_regions.proofs.check.regions.Goals as goal

pub returns-in-Ok-clause-answer : goal.returns-in-Ok-clause-answer
returns-in-Ok-clause-answer c =
    let program = program_of c.args.program.now in
    let same = subst (λ items. map seen c.in-Ok.tokens.items ≡ items_tokens within outside (map item_of items)) c.deref.ensures.value c.in-Ok.ensures in
    c.set_regions.ensures.answer program c.requires (subst (AreKept program) (sym c.deref-in-Ok.ensures.value) same)
