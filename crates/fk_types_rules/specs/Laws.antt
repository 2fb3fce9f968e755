-- Laws of the definitions.
use Rattle.std.specs.Prelude.{◌≤◌}
use Rattle.fk_syntax.specs.declared.place.Place.{Place}
use Rattle.fk_syntax.specs.Program.{ProgramTree}
use Rattle.fk_check_rules.specs.declared.rule.Rule.{Rule}
use Rattle.fk_check_rules.specs.Rules.{number_of}
use Rattle.fk_types_judgments.specs.Names.{Env, IsEnv}
use Rattle.fk_types_rules.specs.Broken.{Broken}

-- all rules that are broken here are among the rules 1 to 20
abbrev pub AreTypeRules : Type 0
AreTypeRules = (env : Env) (program : ProgramTree) (place : Place) (rule : Rule)
    → Broken env program place rule → number_of rule ≤ 20

-- environments that are right about a program have the same broken rules
abbrev pub BreakTheSame : Type 0
BreakTheSame = (program : ProgramTree) (env other : Env) → IsEnv program env
    → IsEnv program other → (place : Place) (rule : Rule) → Broken env program place rule
    → Broken other program place rule
