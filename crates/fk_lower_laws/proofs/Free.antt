-- The flat lists of programs stay within themselves.
use Rattle.std.proofs.Common.{ℕ, List}
use Rattle.fk_syntax.specs.Program.{ProgramTree}
use Rattle.fk_meaning.specs.Shaped.{ProgramShaped}
use Rattle.fk_meaning_forms.specs.Tables.{Tables}
use Rattle.fk_meaning_forms.specs.Program.{bodies_of, main_of}
use Rattle.fk_core.specs.declared.op.CoreOp.{CoreOp}
use Rattle.fk_core_flat.specs.Laws.{AreShaped, IsFlat}
use Rattle.fk_core_typing.specs.Laws.{IsTypedList}
use Rattle.fk_core_typing.proofs.LeadingWithin.{typed_lists_lead_within, entries_are_within}
use Rattle.fk_lower_laws.specs.Asked.{place_of, frame_of, ProgramAsked}
use Rattle.fk_lower_laws.proofs.TypedPrograms.{forms_are_typed}
use Rattle.fk_lower_laws.specs.FreeLaws.{ListsGoOnWithin}
use Rattle.fk_lower_laws.proofs.Apart.{flat_lists_are_apart}

-- the list of a program is one of well typed functions
pub typed_list : (tables : Tables) (program : ProgramTree) (core : List CoreOp) (entry : ℕ → ℕ) → ProgramAsked tables program → ProgramShaped tables program
    → AreShaped (bodies_of tables program) → IsFlat (bodies_of tables program) core entry
    → IsTypedList (bodies_of tables program) core entry (place_of tables program) (frame_of tables program)
typed_list tables program core entry asked nested shaped flat = record {
  shaped = shaped;
  flat = flat;
  apart = flat_lists_are_apart tables program core entry flat;
  typed = forms_are_typed tables program asked nested;
}

pub lists_go_on_within : ListsGoOnWithin
lists_go_on_within tables program core entry asked nested shaped flat has_main =
    let typed = typed_list tables program core entry asked nested shaped flat in
    record {
      begins = entries_are_within (bodies_of tables program) core entry (place_of tables program) (frame_of tables program) typed (main_of tables program) has_main;
      leads = typed_lists_lead_within (bodies_of tables program) core entry (place_of tables program) (frame_of tables program) typed;
    }
