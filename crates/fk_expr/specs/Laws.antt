-- Laws of the definitions.
use Rattle.std.specs.Prelude.{ℕ, ◌≤◌}
use Rattle.fk_parse_combinators.specs.Reads.{HasOneAnswer}
use Rattle.fk_parse_combinators.specs.declared.limits.TheConstants.{LEVELS}
use Rattle.fk_expr.specs.Grammar.{Comma, Assignment}

-- inside any number of open levels, tokens have exactly one answer as a comma expression
abbrev pub OneExpression : Type 0
OneExpression = (level : ℕ) → level ≤ LEVELS → HasOneAnswer (Comma level)

-- inside any number of open levels, tokens have exactly one answer as an assignment
abbrev pub OneAssignment : Type 0
OneAssignment = (level : ℕ) → level ≤ LEVELS → HasOneAnswer (Assignment level)
