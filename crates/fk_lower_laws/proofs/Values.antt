-- No function has more values than its frame has room for.
use Rattle.std.proofs.Common.{◌≤◌, List, [], ◌∷◌, None, arith}
use Rattle.fk_syntax.specs.Program.{FunctionTree, ItemTree}
use Rattle.fk_meaning_forms.specs.Tables.{Tables}
use Rattle.fk_meaning_forms.specs.Program.{functions_of}
use Rattle.fk_layout.specs.Frames.{private_words}
use Rattle.fk_layout.specs.Layout.{tables_by}
use Rattle.fk_check_laws.proofs.Each.{Each}
use Rattle.fk_check_laws.proofs.Programs.{correct_programs_fit}
use Rattle.fk_core_flat.proofs.Programs.{forms_are_shaped}
use Rattle.fk_check_laws.proofs.PlacedPrograms.{correct_programs_stand_in_place}
use Rattle.fk_lower_laws.proofs.TypedPrograms.{forms_are_typed}
use Rattle.fk_lower_laws.proofs.Firsts.{small}
use Rattle.fk_lower_laws.specs.Room.{HaveRoom}
use Rattle.fk_lower_laws.proofs.Frames.{rooms, bodies_few}
use Rattle.fk_lower_laws.proofs.Programs.{correct_programs_are_asked}
use Rattle.fk_lower_laws.specs.RoomLaws.{ValuesHaveRoom}

each_has_room : (tables : Tables) (items : List ItemTree) (fs : List FunctionTree) → Each (λ f. private_words tables items f ≤ 64) fs → HaveRoom tables items 64 fs
each_has_room tables items [] h = tt
each_has_room tables items (f ∷ fs) h = (h.0, each_has_room tables items fs h.1)

pub values_have_room : ValuesHaveRoom
values_have_room program facts valid trim proper fits =
    let tables = tables_by program facts in
    let items = program.items in
    let fs = functions_of items in
    let standing = correct_programs_stand_in_place program facts valid in
    let typed = forms_are_typed tables program (correct_programs_are_asked program facts valid trim proper fits) standing.shaped in
    let shaped = forms_are_shaped tables program (correct_programs_fit program facts valid trim) in
    record {
      room = λ b. rooms tables items 64 (omega arith) fs b (each_has_room tables items fs (small tables items fs fits.frames));
      few = λ b. let own = typed b in let shape = shaped b in (bodies_few tables items _ fs 0 b None _ own.0 standing.shaped shape.0 own.1).0;
      parts = λ b. let own = typed b in let shape = shaped b in (bodies_few tables items _ fs 0 b None _ own.0 standing.shaped shape.0 own.1).1;
    }
