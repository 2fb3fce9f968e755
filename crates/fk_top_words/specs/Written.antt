-- The arguments and commands as they are declared to `clap`.
use Rattle.std.specs.Prelude.{◌≡◌, ℕ, Bool, true, false, List, [], ◌∷◌, Option, Some, None, codes}
use Rattle.std.specs.Prelude.{map}
use Rattle.clap.specs.declared.builder.action.ArgAction.TheVariants.{Set}
use Rattle.clap.specs.declared.builder.command.Command.{Command}
use Rattle.clap.specs.declared.builder.command.Command.TheViews.{out-Command}
use Rattle.clap.specs.Walk.{Rule}
use Rattle.clap.specs.Simple.{App, Shape, app_of, new_rule, new_shape}
use Rattle.fk_top_words.specs.Arguments.{Text, Part, File, Harts, Cycles, Show, Image}

abbrev pub id_of : Part → Text
id_of File = codes "file"
id_of Harts = codes "harts"
id_of Cycles = codes "cycles"
id_of Show = codes "show"
id_of Image = codes "image"

abbrev pub long_of_part : Part → Option Text
long_of_part File = None
long_of_part Harts = Some (codes "harts")
long_of_part Cycles = Some (codes "cycles")
long_of_part Show = Some (codes "show")
long_of_part Image = None

abbrev pub short_of_part : Part → Option ℕ
short_of_part Image = Some 111
short_of_part _ = None

abbrev pub is_required : Part → Bool
is_required Show = false
is_required _ = true

-- The declaration of an argument.
abbrev pub written : Part → Rule
written p = record (new_rule (id_of p)) {
  long = long_of_part p;
  short = short_of_part p;
  action = Some Set;
  required = is_required p;
}

-- The declaration of an option `--name` with a value.
abbrev pub option_rule : Text → Bool → Rule
option_rule name required =
    record (new_rule name) { long = Some name; action = Some Set; required = required }

-- The declaration of the name of a trace, the second file that a command reads.
abbrev pub trace_rule : Rule
trace_rule = record (new_rule (codes "trace")) { action = Some Set; required = true }

abbrev pub run_parts : List Part
run_parts = File ∷ Harts ∷ Cycles ∷ Show ∷ []

abbrev pub put_parts : List Part
put_parts = File ∷ Image ∷ []

abbrev pub exec_parts : List Part
exec_parts = File ∷ Harts ∷ Cycles ∷ []

abbrev pub list_parts : List Part
list_parts = File ∷ []

-- The declaration of a command with these arguments.
abbrev pub written_command : Text → List Part → Shape
written_command name ps = record (new_shape name) { rules = map written ps }

-- The declaration of the command with the names of a source and of a trace.
abbrev pub written_replay : Shape
written_replay = record (new_shape (codes "replay")) { rules = written File ∷ trace_rule ∷ [] }

-- A command without commands of its own.
abbrev pub alone : Shape → App
alone shape = record { top = shape; subs = [] }

abbrev pub leaf : Text → List Part → App
leaf name ps = alone (written_command name ps)

-- The command is this one, and has no argument that the commands below it have too.
pub record IsLocal (app : App) (command : Command) : Type 0 where
  pub shape : app_of command ≡ app
  pub local : (out-Command command).has_globals ≡ false

abbrev pub written_top : Shape
written_top = record (new_shape (codes "fork95")) {
  no_binary_name = true;
  disable_help_flag = true;
  disable_help_subcommand = true;
  subcommand_required = true;
}

abbrev pub written_app : App
written_app = record {
  top = record written_top { is_leaf = false };
  subs = written_command (codes "run") run_parts ∷ written_command (codes "build") put_parts
      ∷ written_command (codes "exec") exec_parts ∷ written_command (codes "list") list_parts
      ∷ written_command (codes "elf") put_parts ∷ written_command (codes "unelf") put_parts
      ∷ written_command (codes "audit") exec_parts ∷ written_command (codes "trace") exec_parts
      ∷ written_replay ∷ written_command (codes "selftest") list_parts
      ∷ written_command (codes "locks") [] ∷ [];
}
