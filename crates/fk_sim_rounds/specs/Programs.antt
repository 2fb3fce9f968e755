-- A machine that follows the runs of a list follows the runs of a program whose code is in the
-- list.
use Rattle.std.specs.Prelude.{ℕ, List}
use Rattle.fk_syntax.specs.Program.{ProgramTree}
use Rattle.fk_meaning_forms.specs.Tables.{Tables}
use Rattle.fk_meaning_forms.specs.Program.{main_of}
use Rattle.fk_meaning.specs.Program as source
use Rattle.fk_core.specs.declared.op.CoreOp.{CoreOp}
use Rattle.fk_core.specs.Next.{next, list_opening}
use Rattle.fk_core.specs.KeepsRuns.{HasCodeOf}
use Rattle.fk_image.specs.declared.Image.{Image}
use Rattle.fk_sim_rounds.specs.Follows.{Follows}

abbrev pub ProgramsAreFollowed : Type 0
ProgramsAreFollowed =
    (tables : Tables) (program : ProgramTree) (core : List CoreOp) (entry : ℕ → ℕ) (firsts : List ℕ)
    (image : Image) (input : List ℕ) (p n : ℕ)
    → HasCodeOf tables program core entry
    → Follows (next core) image input p n
    (list_opening (entry (main_of tables program)) image.globals.items firsts input p)
    → Follows (source.next_in tables program) image input p n
    (source.program_opening tables program image.globals.items firsts input p)
