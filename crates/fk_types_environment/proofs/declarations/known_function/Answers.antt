use Rattle.std.proofs.Common.{sym, ◌∙◌}
use Rattle.fk_syntax.specs.ProgramView.{function_of}
use Rattle.fk_types_structs.specs.Whole.{structs_in}
use Rattle.fk_types_environment.proofs.KnownLemmas.{known-main, known-other}
use Rattle.fk_types_environment.proofs.declarations.known_function.Goals as goal

pub returns-then-is_main : goal.returns-then-is_main
returns-then-is_main c = known-main (structs_in c.args.structs.now) (function_of c.args.function.now) c.in_ok-signature.signature c.in_ok-signature.ensures (sym c.if-is_main.true ∙ c.is_main.ensures)

pub returns : goal.returns
returns c = known-other (structs_in c.args.structs.now) (function_of c.args.function.now) c.in_ok-signature.signature c.in_ok-signature.ensures (sym c.if-is_main.false ∙ c.is_main.ensures)
