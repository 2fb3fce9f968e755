-- The names of a program.
use Rattle.std.specs.Prelude.{◌≡◌, ◌↔◌, ℕ, map, Option, Some, slice_get}
use Rattle.std.specs.Option.{option_and_then}
use Rattle.fk_syntax.specs.Program.{ProgramTree}
use Rattle.fk_types_names.specs.declared.names.Meaning.{Meaning}
use Rattle.fk_types_names.specs.declared.names.Names.{Names}
use Rattle.fk_types_names.specs.Outline.{declarations}
use Rattle.fk_types_names.specs.View.{declaration_of}
use Rattle.fk_types_names.specs.Means.{Means}

-- what the token with this index denotes, by these names
abbrev pub meaning_in : Names → ℕ → Option Meaning
meaning_in names token = option_and_then (λ m. m) (slice_get names.meanings.items token)

-- the declarations of a program, and what each name in its expressions denotes
pub record AreNames (program : ProgramTree) (names : Names) : Type 0 where
  pub declared : map declaration_of names.declarations.items ≡ declarations program
  pub means : (token : ℕ) (meaning : Meaning)
      → (meaning_in names token ≡ Some meaning) ↔ Means program token meaning
