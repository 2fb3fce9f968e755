-- The facts about a program that are known before its expressions are read.
use Rattle.std.specs.Prelude.{◌≡◌}
use Rattle.fk_syntax.specs.Program.{ProgramTree}
use Rattle.fk_types_structs.specs.declared.structs.Structs.{Structs}
use Rattle.fk_types_structs.specs.Types.{structs_of}
use Rattle.fk_types_structs.specs.Whole.{structs_in}
use Rattle.fk_types_names.specs.declared.names.Names.{Names}
use Rattle.fk_types_names.specs.Names.{AreNames, meaning_in}
use Rattle.fk_types_judgments.specs.Names.{Env, IsEnv}
use Rattle.fk_types_forms.specs.Scope.{meant_by, member_in}
use Rattle.fk_types_environment.specs.declared.environment.Environment.{Environment}

-- the environment of expressions, with the structs and names of the program
abbrev pub env_of : Structs → Names → Environment → Env
env_of structs names environment = record {
  structs = structs_in structs;
  meant = λ name. meant_by environment.known.items name.bytes (meaning_in names name.at);
  member_type = member_in environment.members.items;
}

-- the environment is right about each program that has these structs and names
abbrev pub IsRight : Structs → Names → Environment → Type 0
IsRight structs names environment = (program : ProgramTree)
    → structs_in structs ≡ structs_of program.items → AreNames program names
    → IsEnv program (env_of structs names environment)
