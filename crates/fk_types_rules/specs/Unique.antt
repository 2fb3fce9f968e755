-- Laws of the tokens of a program.
use Rattle.std.specs.Prelude.{None, replicate, fold}
use Rattle.fk_syntax.specs.Program.{ProgramTree}
use Rattle.fk_syntax.specs.WellFormed.{IsWellFormed}
use Rattle.fk_types_judgments.specs.Names.{Env}
use Rattle.fk_types_expressions.specs.Read.{with_note}
use Rattle.fk_types_obligations.specs.Pieces.{pieces}
use Rattle.fk_types_rules.specs.Noted.{pieces_noted, AreTypes}
use Rattle.fk_types_rules.specs.Apart.{AreTokensApart}

-- a token belongs to at most one declaration or reference
abbrev pub TokensAreApart : Type 0
TokensAreApart = (program : ProgramTree) → IsWellFormed program → AreTokensApart program

-- a token has at most one type: a table in which each type is noted has them all
abbrev pub TablesHaveTypes : Type 0
TablesHaveTypes = (env : Env) (program : ProgramTree) → IsWellFormed program
    → AreTypes env program
    (fold with_note (replicate program.tokens None) (pieces_noted env (pieces program)))
