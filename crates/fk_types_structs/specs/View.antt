-- The structs of the code in the form of the definitions, and tables of names.
use Rattle.std.specs.Prelude.{◌≡◌, ℕ, List, map, nat_eq}
use Rattle.std.specs.Borrow.{Bor}
use Rattle.std.specs.Map.{lookup}
use Rattle.std.specs.Cmp.Lexicographic.{pointwise}
use Rattle.fk_syntax.specs.View.{named}
use Rattle.fk_syntax.specs.ProgramView.{declared_of}
use Rattle.fk_types_structs.specs.declared.outline.Outline.{Outline}
use Rattle.fk_types_structs.specs.Types.{StructTree, first_of}

abbrev pub outline_tree : Outline → StructTree
outline_tree outline =
    record { name = named outline.name; members = map declared_of outline.members.now }

-- a table has the first position of each text in a list of names
abbrev pub Finds : List (Bor (List ℕ) × ℕ) → List (List ℕ) → Type 0
Finds entries names = (text : List ℕ)
    → lookup (λ name. pointwise nat_eq text name.now) entries ≡ first_of text names
