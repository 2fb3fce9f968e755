-- The rules about names and types that a program breaks.
use Rattle.std.specs.Prelude.{◌≡◌, Some}
use Rattle.fk_syntax.specs.declared.facts.CheckFault.{CheckFault}
use Rattle.fk_syntax.specs.declared.facts.CheckFault.TheVariants as c
use Rattle.fk_syntax.specs.Program.{ProgramTree}
use Rattle.fk_check_rules.specs.declared.rule.Rule.{Rule}
use Rattle.fk_check_rules.specs.Rules.{number_of}
use Rattle.fk_check_rules.specs.Least.{Breaks, IsLeast, either, among}
use Rattle.fk_types_struct_rules.specs.Structs.{StructsBreak}
use Rattle.fk_types_name_rules.specs.Broken.{NamesBreak}
use Rattle.fk_types_judgments.specs.Names.{Env, IsEnv}
use Rattle.fk_types_obligations.specs.Pieces.{pieces}
use Rattle.fk_types_rules.specs.Pieces.{PieceBreaks}

-- the rules as a whole: those that its structs, its names and its pieces break, in this environment
abbrev pub Broken : Env → ProgramTree → Breaks
Broken env program = either (either (StructsBreak env.structs) (NamesBreak program))
    (among (λ i. PieceBreaks env) (pieces program))

-- the refusal of a program: the first rule that it breaks, by place and then by number, in an
-- environment that is right about it; or there isn't enough memory
abbrev pub IsRefusal : ProgramTree → CheckFault → Type 0
IsRefusal program (c.Rule place number) = (env : Env) × IsEnv program env
    × (rule : Rule) × IsLeast (Broken env program) (Some (record { place = place; rule = rule }))
    × (number ≡ number_of rule)
IsRefusal program c.Memory = Unit {0}
