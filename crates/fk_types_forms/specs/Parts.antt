-- The properties of expressions and arguments that have been read.
use Rattle.std.specs.Prelude.{◌≡◌, List, Option, Some, None}
use Rattle.std.specs.Option.{option_map}
use Rattle.fk_syntax.specs.Tree.{Named}
use Rattle.fk_syntax.specs.View.{named}
use Rattle.fk_check_rules.specs.Least.{IsLeast}
use Rattle.fk_types_judgments.specs.Term.{Term, Terms, Use, first_place}
use Rattle.fk_types_judgments.specs.Names.{Parameter, Env}
use Rattle.fk_types_judgments.specs.Typing.{is_zero, is_no_target, type_of, do_all_fit, first_value}
use Rattle.fk_types_judgments.specs.Broken.{Broken, ArgumentsBreak}
use Rattle.fk_types_forms.specs.declared.parts.Part.{Part}
use Rattle.fk_types_forms.specs.declared.parts.Arguments.{Arguments}

-- the name that an expression is, if it is one
abbrev pub name_in : Term → Option Named
name_in (Use name) = Some name
name_in _ = None

-- a part has the properties of an expression
pub record IsPart (env : Env) (term : Term) (part : Part) : Type 0 where
  pub type : part.kind ≡ type_of env term
  pub first : part.first ≡ first_place term
  pub zero : part.is_zero ≡ is_zero term
  pub target : part.is_no_target ≡ is_no_target env term
  pub name : option_map named part.name ≡ name_in term
  pub fault : IsLeast (Broken env term) part.fault

-- the collected properties are those of these arguments
pub record AreArguments (env : Env) (parameters : List Parameter) (terms : Terms)
    (known : Arguments) : Type 0 where
  pub fit : known.do_fit ≡ do_all_fit env parameters terms
  pub first : known.first ≡ first_value env terms
  pub fault : IsLeast (ArgumentsBreak env parameters terms) known.fault
