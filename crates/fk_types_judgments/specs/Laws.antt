-- Laws of the types of expressions.
use Rattle.std.specs.Prelude.{◌≡◌}
use Rattle.fk_types_operators.specs.declared.values.ExpressionType.{ExpressionType}
use Rattle.fk_types_judgments.specs.Term.{Term}
use Rattle.fk_types_judgments.specs.Names.{Env}
use Rattle.fk_types_judgments.specs.Typing.{HasType}

-- an expression has at most one type
abbrev pub HasOneType : Type 0
HasOneType =
    (env : Env) (term : Term) (a b : ExpressionType) → HasType env term a → HasType env term b
    → a ≡ b
