use Rattle.std.proofs.Common.{refl}
use Rattle.fk_syntax.specs.ProgramView.{program_of}
use Rattle.fk_compile_text.proofs.Parts.{finds}
use Rattle.fk_compile_text.proofs.built.lookup_of.Goals as goal

pub returns-in-Ok-clause-finds : goal.returns-in-Ok-clause-finds
returns-in-Ok-clause-finds c =
    let text = c.args.text.now in
    finds (program_of text.tree) text.facts c.known_of-known.result c.in-Ok.lookup c.known_of-known.ensures.tables c.known_of-known.ensures.items c.in-Ok.ensures

pub returns-in-Err-clause-memory : goal.returns-in-Err-clause-memory
returns-in-Err-clause-memory c = (c.in-Err.error, refl)
