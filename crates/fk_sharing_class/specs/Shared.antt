-- Which expressions of a program are shared.
use Rattle.std.specs.Prelude.{ℕ, Option, IsTrue}
use Rattle.fk_syntax.specs.Tree.{Tree}
use Rattle.fk_syntax.specs.Program.{ProgramTree}
use Rattle.fk_sharing_class.specs.declared.thing.Thing.{Thing}
use Rattle.fk_sharing_class.specs.Things.{Tells}
use Rattle.fk_sharing_class.specs.Class.{is_shared}

-- an expression is shared, by what the names of the program denote
abbrev pub IsShared : ProgramTree → Tree → Type 0
IsShared program tree = (thing : ℕ → Option Thing) × Tells program thing
    × IsTrue (is_shared thing tree)
