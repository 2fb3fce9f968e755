use Rattle.std.specs.List.{fold}
use Rattle.std.proofs.Common.{◌≡◌, ℕ, map, ap, subst, ◌∙◌}
use Rattle.fk_syntax.specs.ProgramView.{program_of}
use Rattle.fk_check_rules.specs.Least.{IsLeast, either, among}
use Rattle.fk_check_rules.proofs.LeastLemmas.{IsLeast-either}
use Rattle.fk_types_struct_rules.specs.Structs.{StructsBreak}
use Rattle.fk_types_name_rules.specs.Broken.{NamesBreak}
use Rattle.fk_types_forms.specs.Scope.{env_in}
use Rattle.fk_types_expressions.specs.Read.{with_note}
use Rattle.fk_types_obligations.specs.Pieces.{pieces}
use Rattle.fk_types_obligations.specs.View.{piece_of}
use Rattle.fk_types_rules.specs.Noted.{pieces_noted}
use Rattle.fk_types_rules.specs.Pieces.{PieceBreaks}
use Rattle.fk_types_checker.proofs.check.program_fault.Goals as goal

pub returns-clause-least : goal.returns-clause-least
returns-clause-least c =
    let E = env_in c.args.scope.now in
    let program = program_of c.args.program.now in
    let all : map piece_of c.list.result.now ≡ pieces program = c.list.ensures ∙ c.requires.pieces in
    let found = c.pieces_fault-fault.result in
    let Declared = either (StructsBreak E.structs) (NamesBreak program) in
    IsLeast-either Declared (among (λ (i : ℕ). PieceBreaks E) (pieces program)) c.in_ok-declared.declared found c.first_of.result
    c.in_ok-declared.ensures (subst (λ ps. IsLeast (among (λ (i : ℕ). PieceBreaks E) ps) found) all c.pieces_fault-fault.ensures.least) c.first_of.ensures

pub returns-clause-types : goal.returns-clause-types
returns-clause-types c =
    let E = env_in c.args.scope.now in
    let all : map piece_of c.list.result.now ≡ pieces (program_of c.args.program.now) = c.list.ensures ∙ c.requires.pieces in
    c.pieces_fault-fault.ensures.types ∙ ap (λ ps. fold with_note c.args.types.now (pieces_noted E ps)) all
