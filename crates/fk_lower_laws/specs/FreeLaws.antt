-- Laws of the flat lists of programs.
use Rattle.std.specs.Prelude.{◌≡◌, ℕ, ◌+◌, ◌<◌, ◌≤◌, true, List, length, false}
use Rattle.fk_syntax.specs.Program.{ProgramTree}
use Rattle.fk_meaning_forms.specs.Code.{Code}
use Rattle.fk_meaning_forms.specs.Tables.{Tables}
use Rattle.fk_meaning_forms.specs.Program.{bodies_of, main_of}
use Rattle.fk_meaning.specs.Shaped.{ProgramShaped}
use Rattle.fk_core.specs.declared.op.CoreOp.{CoreOp}
use Rattle.fk_core_flat.specs.Flat.{extent}
use Rattle.fk_core_flat.specs.Shape.{is_closed}
use Rattle.fk_core_flat.specs.Laws.{AreShaped, IsFlat}
use Rattle.fk_core_typing.specs.Laws.{LeadsWithin}
use Rattle.fk_lower_laws.specs.Asked.{ProgramAsked}

-- An index is in the code of a function that is written from a place on.
abbrev pub LiesIn : (bodies : (binding : ℕ) → Code ℕ) → (place : ℕ → ℕ)
    → (index binding : ℕ) → Type 0
LiesIn bodies place i f = (place f ≤ i) × (i < place f + extent false (bodies f))

abbrev pub AreApart : (bodies : (binding : ℕ) → Code ℕ) → (place : ℕ → ℕ) → Type 0
AreApart bodies place = (i f g : ℕ) → LiesIn bodies place i f → LiesIn bodies place i g → f ≡ g

abbrev pub FlatListsAreApart : Type 0
FlatListsAreApart =
    (tables : Tables) (program : ProgramTree) (core : List CoreOp) (entry : ℕ → ℕ)
    → (flat : IsFlat (bodies_of tables program) core entry)
    → AreApart (bodies_of tables program) flat.place

-- A list goes on within itself from `main` on.
pub record GoesOnWithin (core : List CoreOp) (main : ℕ) : Type 0 where
  pub begins : main < length core
  pub leads : LeadsWithin core

abbrev pub ListsGoOnWithin : Type 0
ListsGoOnWithin =
    (tables : Tables) (program : ProgramTree) (core : List CoreOp) (entry : ℕ → ℕ)
    → ProgramAsked tables program → ProgramShaped tables program
    → AreShaped (bodies_of tables program) → IsFlat (bodies_of tables program) core entry
    → is_closed (bodies_of tables program (main_of tables program)) ≡ true
    → GoesOnWithin core (entry (main_of tables program))
