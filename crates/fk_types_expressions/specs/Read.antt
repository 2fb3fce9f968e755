-- The state after reading an expression.
use Rattle.std.specs.Prelude.{◌≡◌, List, Option, fold, slice_set}
use Rattle.fk_types_operators.specs.declared.values.ExpressionType.{ExpressionType}
use Rattle.fk_types_judgments.specs.Term.{Term, Terms}
use Rattle.fk_types_judgments.specs.Names.{Parameter, Env}
use Rattle.fk_types_judgments.specs.Typing.{Noted, noted, all_noted}
use Rattle.fk_types_forms.specs.declared.parts.Part.{Part}
use Rattle.fk_types_forms.specs.declared.parts.Arguments.{Arguments}
use Rattle.fk_types_forms.specs.Parts.{IsPart, AreArguments}

-- the types by token, after noting one more
abbrev pub with_note : List (Option ExpressionType) → Noted → List (Option ExpressionType)
with_note types n = slice_set types n.at n.type

-- an expression was read, and its types were noted
pub record IsRead (env : Env) (term : Term) (before after : List (Option ExpressionType))
    (part : Part) : Type 0 where
  pub is : IsPart env term part
  pub types : after ≡ fold with_note before (noted env term)

-- arguments were read, and their types were noted
pub record AreRead (env : Env) (parameters : List Parameter) (terms : Terms)
    (before after : List (Option ExpressionType)) (known : Arguments) : Type 0 where
  pub are : AreArguments env parameters terms known
  pub types : after ≡ fold with_note before (all_noted env terms)
